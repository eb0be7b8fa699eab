use Rattle.std.proofs.Common.{◌≡◌, take}
use Rattle.restart_file.proofs.lines.push_signs.Given as goal

abbrev pub invariant-loop-j : goal.invariant-loop-j
invariant-loop-j l = take l.j l.row ≡ take l.j l.system.equations.signs
