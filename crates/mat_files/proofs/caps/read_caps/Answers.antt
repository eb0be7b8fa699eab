use Rattle.int_vector.specs.Range.{IsCap}
use Rattle.mat_files.specs.Cells.{cap_value, cap_at}
use Rattle.mat_files.proofs.SpelledTables.{text-table_of}
use Rattle.mat_files.proofs.CellReaders.{reads_caps}
use Rattle.mat_files.proofs.caps.read_caps.Goals as goal

pub invariant_of-result : goal.invariant_of-result
invariant_of-result c =
    let read = text-table_of cap_value IsCap cap_at reads_caps c.args.max_rows c.args.max_cols c.args.bytes.now _ c.in_ok-table.ensures in
    record { count = read.0.count; wide = read.1.wide; small = read.1.allowed }
