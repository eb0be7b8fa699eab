-- The reader and the grammar agree, since they agree on each cell.
use Rattle.std.proofs.Common.{arith}
use Rattle.std.specs.Prelude.{⊤}
use Rattle.mat_files.specs.Cells.{relation_value, relation_at}
use Rattle.mat_files.proofs.SpelledTables.{found_from, only_from}
use Rattle.mat_files.proofs.CellReaders.{reads_relations}
use Rattle.mat_files.proofs.relations.read_rel.Goals as goal

pub returns-clause-found : goal.returns-clause-found
returns-clause-found c =
    found_from relation_value (λ _. ⊤) relation_at reads_relations _ c.read_relations.result c.args.max_rows c.args.max_cols c.args.bytes.now c.read_relations.ensures

pub returns-clause-only : goal.returns-clause-only
returns-clause-only c =
    only_from relation_value (λ _. ⊤) relation_at reads_relations _ c.read_relations.result c.args.max_rows c.args.max_cols c.args.bytes.now
    (omega (arith, c.requires.rows)) (omega (arith, c.requires.cols)) c.read_relations.ensures
