use Rattle.std.proofs.Common.{◌≡◌, ◌++◌, drop}
use Rattle.std.specs.Prelude.{map, codes}
use Rattle.restart_file.specs.Texts.{spaced, cap_text}
use Rattle.restart_file.proofs.lines.push_caps.Given as goal

abbrev pub invariant-loop-j : goal.invariant-loop-j
invariant-loop-j l = l.line.items ++ spaced (map cap_text (drop l.j l.system.equations.caps)) ≡ l.fn.line.items ++ (codes "caps " ++ spaced (map cap_text l.system.equations.caps))
