-- The rows so far are in the kernel.
use Rattle.std.proofs.Common.{take}
use Rattle.std.specs.List.{AllByRecursion}
use Rattle.system_files.specs.Kernel.{rows_in, IsKernelRow}
use Rattle.system_files.proofs.kernel.kernel_fault.Given as goal

abbrev pub invariant-loop-i : goal.invariant-loop-i
invariant-loop-i l = AllByRecursion (IsKernelRow (rows_in l.mat)) (take l.i (rows_in l.set))
