use Rattle.std.proofs.Common.{◌≡◌, drop, take}
use Rattle.std.specs.Prelude.{◌↔◌, None}
use Rattle.std.specs.List.{AllByRecursion}
use Rattle.restart_file.proofs.drafts.has_no_caps.Given as goal

abbrev pub invariant-loop-j : goal.invariant-loop-j
invariant-loop-j l = AllByRecursion (λ c. c ≡ None) (take l.system.n l.system.equations.caps) ↔ AllByRecursion (λ c. c ≡ None) (drop l.j (take l.system.n l.system.equations.caps))
