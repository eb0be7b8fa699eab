-- Only the shelf of the closed norm is changed, and no pair above that norm leaves it.
use Rattle.std.proofs.Common.{arith, [], ◌∙◌, ◌%◌, ◌<◌, length}
use Rattle.stage_store.proofs.Classes.{get_or-default}
use Rattle.stage_store.proofs.Keeping.{one_shelf}
use Rattle.stage_store.proofs.shelves.Shelves.close.Goals as goal

pub returns-clause-kept : goal.returns-clause-kept
returns-clause-kept c = λ p h low high.
    let inside : c.args.norm % 256 < length c.args.self.now.shelves.items = omega (arith, c.requires.shelves) in
    one_shelf c.args.self.now.shelves.items (c.args.norm % 256) c.index_mut.result.now c.drop_closed-dropped.new.self p inside
    (c.index_mut.ensures.value ∙ get_or-default c.args.self.now.shelves.items (c.args.norm % 256) c.index_mut.result.now [] inside)
    (c.drop_closed-dropped.ensures p low) (h (omega (arith, low, c.requires.above)) high)
