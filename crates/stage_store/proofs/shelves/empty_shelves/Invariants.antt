use Rattle.std.proofs.Common.{◌≡◌, length}
use Rattle.stage_store.proofs.shelves.empty_shelves.Given as goal

abbrev pub invariant-loop : goal.invariant-loop
invariant-loop l = length l.shelves.items ≡ l.counter
