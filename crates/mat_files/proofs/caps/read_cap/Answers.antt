-- The reader and the grammar agree, since they agree on each cell.
use Rattle.std.proofs.Common.{arith}
use Rattle.int_vector.specs.Range.{IsCap}
use Rattle.mat_files.specs.Cells.{cap_value, cap_at}
use Rattle.mat_files.proofs.SpelledTables.{found_from, only_from}
use Rattle.mat_files.proofs.CellReaders.{reads_caps}
use Rattle.mat_files.proofs.caps.read_cap.Goals as goal

pub returns-clause-found : goal.returns-clause-found
returns-clause-found c = found_from cap_value IsCap cap_at reads_caps _ c.read_caps.result c.args.max_rows c.args.max_cols c.args.bytes.now c.read_caps.ensures

pub returns-clause-only : goal.returns-clause-only
returns-clause-only c =
    only_from cap_value IsCap cap_at reads_caps _ c.read_caps.result c.args.max_rows c.args.max_cols c.args.bytes.now
    (omega (arith, c.requires.rows)) (omega (arith, c.requires.cols)) c.read_caps.ensures
