use Rattle.mat_files.specs.Cells.{relation_value, relation_at}
use Rattle.std.specs.Prelude.{⊤}
use Rattle.mat_files.proofs.SpelledTables.{text-table_of}
use Rattle.mat_files.proofs.CellReaders.{reads_relations}
use Rattle.mat_files.proofs.relations.read_relations.Goals as goal

pub invariant_of-result : goal.invariant_of-result
invariant_of-result c =
    let read = text-table_of relation_value (λ _. ⊤) relation_at reads_relations c.args.max_rows c.args.max_cols c.args.bytes.now _ c.in_ok-table.ensures in
    record { count = read.0.count; wide = read.1.wide }
