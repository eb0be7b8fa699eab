-- The rows so far are sound.
use Rattle.std.proofs.Common.{take}
use Rattle.std.specs.List.{AllByRecursion}
use Rattle.system_files.specs.Kernel.{rows_in}
use Rattle.decompose_tool.specs.Rows.{IsSoundRow}
use Rattle.decompose_tool.specs.Inside.Steps.{user_of}
use Rattle.decompose_tool.proofs.checking.check.Given as goal

abbrev pub invariant-loop-i : goal.invariant-loop-i
invariant-loop-i l = AllByRecursion (IsSoundRow (user_of l.shaped) l.times) (take l.i (rows_in l.grid))
