-- No candidate so far helps.
use Rattle.std.proofs.Common.{take}
use Rattle.system_files.specs.Kernel.{rows_in}
use Rattle.climb_tool.specs.Paths.{NoneHelps, candidates}
use Rattle.climb_tool.proofs.candidates.first_to_help.Given as goal

abbrev pub invariant-loop-i : goal.invariant-loop-i
invariant-loop-i l = NoneHelps l.problem.upper.cells l.problem.cost.cells l.x (candidates (take l.i (rows_in l.problem.set)))
