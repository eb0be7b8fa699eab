use Rattle.std.proofs.Common.{◌≡◌, ◌++◌, drop}
use Rattle.system_files.specs.Kernel.{rows_in}
use Rattle.circuit_tool.specs.Inside.Supports.{words_in}
use Rattle.circuit_tool.proofs.supports.supports_of_rows.Given as goal

abbrev pub invariant-loop-i : goal.invariant-loop-i
invariant-loop-i l = l.words.items ++ words_in (drop l.i (rows_in l.set)) ≡ words_in (rows_in l.set)
