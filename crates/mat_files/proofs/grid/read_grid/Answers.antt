-- The reader and the grammar agree, since they agree on each cell.
use Rattle.std.proofs.Common.{arith}
use Rattle.mat_files.specs.Words.{number_value}
use Rattle.mat_files.specs.Cells.{number_at}
use Rattle.int_vector.specs.Range.{InRange}
use Rattle.mat_files.proofs.SpelledTables.{found_from, only_from}
use Rattle.mat_files.proofs.CellReaders.{reads_numbers}
use Rattle.mat_files.proofs.grid.read_grid.Goals as goal

pub returns-clause-found : goal.returns-clause-found
returns-clause-found c = found_from number_value InRange number_at reads_numbers _ c.read_matrix.result c.args.max_rows c.args.max_cols c.args.bytes.now c.read_matrix.ensures

pub returns-clause-only : goal.returns-clause-only
returns-clause-only c =
    only_from number_value InRange number_at reads_numbers _ c.read_matrix.result c.args.max_rows c.args.max_cols c.args.bytes.now
    (omega (arith, c.requires.rows)) (omega (arith, c.requires.cols)) c.read_matrix.ensures
