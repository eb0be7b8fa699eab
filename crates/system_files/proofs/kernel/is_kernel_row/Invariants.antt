-- The rows so far give 0.
use Rattle.std.proofs.Common.{take}
use Rattle.system_files.specs.Kernel.{rows_in, IsInKernel}
use Rattle.system_files.proofs.kernel.is_kernel_row.Given as goal

abbrev pub invariant-loop-i : goal.invariant-loop-i
invariant-loop-i l = IsInKernel (take l.i (rows_in l.mat)) l.v
