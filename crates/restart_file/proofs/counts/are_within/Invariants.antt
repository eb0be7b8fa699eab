use Rattle.std.proofs.Common.{◌≤◌, drop}
use Rattle.std.specs.Prelude.{◌↔◌}
use Rattle.std.specs.List.{AllByRecursion}
use Rattle.restart_file.proofs.counts.are_within.Given as goal

abbrev pub invariant-loop-i : goal.invariant-loop-i
invariant-loop-i l = AllByRecursion (λ n. n ≤ l.most) l.counts ↔ AllByRecursion (λ n. n ≤ l.most) (drop l.i l.counts)
