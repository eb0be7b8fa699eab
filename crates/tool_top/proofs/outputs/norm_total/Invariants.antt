use Rattle.std.proofs.Common.{◌≡◌, ◌≤◌, ◌+◌, ◌*◌, drop, map}
use Rattle.tool_top.specs.Outputs.{norms_in}
use Rattle.tool_top.specs.Inside.Writing.{output_of}
use Rattle.tool_top.proofs.outputs.norm_total.Given as goal

abbrev pub invariant-loop-output : goal.invariant-loop-output
invariant-loop-output l = record {
  sum : l.total + norms_in (map output_of (drop l.output-index l.outputs.list.items)) ≡ norms_in (map output_of l.outputs.list.items);
  most : l.total ≤ l.output-index * 170141183460469231731687303715884105727;
}
