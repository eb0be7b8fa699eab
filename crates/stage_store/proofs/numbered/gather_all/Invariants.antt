-- The rows hold exactly what the pairs with the numbers below `first` gain.
use Rattle.std.proofs.Common.{◌≡◌, ◌≤◌, ◌+◌, ◌-◌, [], length}
use Rattle.lift_core.specs.ToolSystems.{width}
use Rattle.stage_store.specs.Numbered.{GainsNumbered}
use Rattle.stage_store.proofs.numbered.gather_all.Given as goal

abbrev pub invariant-loop-first : goal.invariant-loop-first
invariant-loop-first l = record {
  within : l.first ≤ l.pairs;
  sum : length l.sum.items ≡ width l.stage.system.equations + 1;
  width : l.rows.width ≡ width l.stage.system.equations + 1;
  gains : GainsNumbered l.stage l.norm 0 l.first [] l.rows.rows;
}

abbrev pub decreases-loop-first : goal.decreases-loop-first
decreases-loop-first l = l.pairs - l.first
