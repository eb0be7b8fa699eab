-- The runs so far are added, and there is room for those that are left.
use Rattle.std.proofs.Common.{◌≡◌, ◌≤◌, ◌+◌, ◌++◌, take, vec_len, vec_capacity}
use Rattle.std.specs.List.{AllByRecursion}
use Rattle.norm_board.specs.Inside.NumberRuns.{numbers_of, IsRun}
use Rattle.norm_board.proofs.runs.add_runs.Given as goal

abbrev pub invariant-loop-run : goal.invariant-loop-run
invariant-loop-run l = record {
  numbers : numbers_of l.runs.items ≡ numbers_of l.fn.runs.items ++ numbers_of (take l.run-index l.more);
  low : AllByRecursion IsRun l.runs.items;
  len : vec_len l.runs ≤ vec_len l.fn.runs + l.run-index;
  capacity : vec_capacity l.runs ≡ vec_capacity l.fn.runs;
}
