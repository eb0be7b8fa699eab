-- The rows hold the part's sums of the pairs with numbers below `first`.
use Rattle.std.proofs.Common.{◌≡◌, ◌≤◌, ◌-◌, ◌+◌, [], length}
use Rattle.lift_core.specs.ToolSystems.{width}
use Rattle.stage_store.specs.Classes.{pairs_of}
use Rattle.standing_pool.specs.Inside.Gathered.{GainsPart}
use Rattle.standing_pool.proofs.sums.gather_part.Given as goal

abbrev pub invariant-loop-number : goal.invariant-loop-number
invariant-loop-number l = record {
  within : l.first ≤ length (pairs_of l.stage.listed l.norm);
  sum : length l.sum.items ≡ width l.stage.system.equations + 1;
  width : l.rows.width ≡ width l.stage.system.equations + 1;
  gains : GainsPart l.stage l.norm l.part l.parts 0 l.first [] l.rows.rows;
}

abbrev pub decreases-loop-number : goal.decreases-loop-number
decreases-loop-number l = length (pairs_of l.stage.listed l.norm) - l.first
