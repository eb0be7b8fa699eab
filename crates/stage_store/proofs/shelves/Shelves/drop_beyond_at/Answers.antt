-- Only one shelf is changed, and no pair below the horizon leaves it.
use Rattle.std.proofs.Common.{refl, arith, [], ◌∙◌}
use Rattle.stage_store.proofs.Classes.{get_or-default}
use Rattle.stage_store.proofs.Keeping.{one_shelf}
use Rattle.stage_store.proofs.shelves.Shelves.drop_beyond_at.Goals as goal

pub returns-clause-stay : goal.returns-clause-stay
returns-clause-stay c = record {
  same_closed = refl;
  kept = λ p h low high.
      one_shelf c.args.self.now.shelves.items c.args.k c.index_mut.result.now c.drop_beyond-dropped.new.self p (omega (arith, c.requires.shelves, c.requires.shelf))
      (c.index_mut.ensures.value ∙ get_or-default c.args.self.now.shelves.items c.args.k c.index_mut.result.now [] (omega (arith, c.requires.shelves, c.requires.shelf)))
      (c.drop_beyond-dropped.ensures p high) (h low high);
}
