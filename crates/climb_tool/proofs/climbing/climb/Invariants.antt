-- So many steps are taken.
use Rattle.std.proofs.Common.{◌≡◌}
use Rattle.climb_tool.specs.Inside.Walks.{IsWalked}
use Rattle.climb_tool.proofs.climbing.climb.Given as goal

abbrev pub invariant-loop-done : goal.invariant-loop-done
invariant-loop-done l = record {
  walked : IsWalked l.problem l.path;
  count : l.path.count ≡ l._done;
}
