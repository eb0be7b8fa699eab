use Rattle.std.proofs.Common.{◌≡◌, ◌≤◌, ◌+◌, ◌*◌, drop, map}
use Rattle.tool_top.specs.Outputs.{total_rows}
use Rattle.tool_top.specs.Inside.Writing.{output_of}
use Rattle.tool_top.proofs.outputs.count_rows.Given as goal

abbrev pub invariant-loop-output : goal.invariant-loop-output
invariant-loop-output l = record {
  sum : l.total + total_rows (map output_of (drop l.output-index l.outputs.list.items)) ≡ total_rows (map output_of l.outputs.list.items);
  most : l.total ≤ l.output-index * 4294967295;
}
