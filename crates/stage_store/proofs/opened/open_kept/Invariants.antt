use Rattle.std.proofs.Common.{take}
use Rattle.stage_store.specs.Opened.{AreOpened}
use Rattle.stage_store.proofs.opened.open_kept.Given as goal

abbrev pub invariant-loop-k : goal.invariant-loop-k
invariant-loop-k l = AreOpened l.plus l.minus l.e (take l.k l.kept) l.opens.items
