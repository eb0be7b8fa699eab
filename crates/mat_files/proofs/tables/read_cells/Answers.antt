-- The cells that were read, and what reading those that are left gives, make what the whole gives.
use Rattle.std.proofs.Common.{arith, rules}
use Rattle.mat_files.specs.Words.{Word}
use Rattle.mat_files.specs.Tables.{cells_at}
use Rattle.mat_files.proofs.CellByCell.{front_more}
use Rattle.mat_files.proofs.tables.read_cells.Goals as goal

pub loop-place-preserved : goal.loop-place-preserved
loop-place-preserved g c =
    let word : Word = record { at = c.in_ok-word.word.at; bytes = c.in_ok-word.word.bytes.now } in
    front_more g.C.Cell.cell_at c.loop-place.cells.items c.push.new.self.items c.args.count c.loop-place._place c.args.len c.in_ok-read.field-0 word c.loop-place.words c.expect_word.new.words
    (cells_at g.C.Cell.cell_at c.args.count c.args.len c.args.words.now)
    (omega arith) c.in_ok-read.ensures c.in_ok-word.ensures c.in_ok-push.ensures.items c.loop-place.invariant

pub returns-in-Some : goal.returns-in-Some
returns-in-Some g c = search rules
