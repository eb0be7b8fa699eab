-- The slacks so far and those that are left are all.
use Rattle.std.proofs.Common.{◌≡◌, ◌+◌, ◌≤◌, drop}
use Rattle.system_shape.specs.Inside.Cells.{slack_total}
use Rattle.system_shape.proofs.equations.slack_columns.Given as goal

abbrev pub invariant-loop-relation : goal.invariant-loop-relation
invariant-loop-relation l = record { all : slack_total (drop l.relation-index l.relations) + l.slacks ≡ slack_total l.relations; few : l.slacks ≤ l.relation-index }
