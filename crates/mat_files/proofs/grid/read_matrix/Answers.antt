-- What is read has as many cells as its counts say, each in range.
use Rattle.mat_files.specs.Words.{number_value}
use Rattle.mat_files.specs.Cells.{number_at}
use Rattle.int_vector.specs.Range.{InRange}
use Rattle.mat_files.proofs.SpelledTables.{text-table_of}
use Rattle.mat_files.proofs.CellReaders.{reads_numbers}
use Rattle.mat_files.proofs.grid.read_matrix.Goals as goal

pub invariant_of-result : goal.invariant_of-result
invariant_of-result c =
    let read = text-table_of number_value InRange number_at reads_numbers c.args.max_rows c.args.max_cols c.args.bytes.now _ c.in_ok-table.ensures in
    record { count = read.0.count; wide = read.1.wide; small = read.1.allowed }
