-- The sign of the cost decides which of the two is tried.
use Rattle.std.proofs.Common.{◌≡◌, rules, SFits, to_z-of_z, true, false}
use Rattle.std.specs.Prelude.{pos, int_lt}
use mir.Syntax.{w128}
use Rattle.climb_tool.proofs.Choices.{tried_itself, tried_negative, tried_none}
use Rattle.climb_tool.proofs.candidates.helping.Goals as goal

pub returns-then-change-lt0-clause-first : goal.returns-then-change-lt0-clause-first
returns-then-change-lt0-clause-first c =
    let fits : SFits w128 c.cost_of-change.result = search rules in
    let below : int_lt c.cost_of-change.result (pos 0) ≡ true = simp to_z-of_z at c.if-change-lt0.true in
    tried_itself c.args.upper.now c.args.cost.now c.args.x.now c.args.vector c.cost_of-change.result c.if_within.result c.cost_of-change.ensures
    below c.if_within.ensures

pub returns-then-change-gt0-clause-first : goal.returns-then-change-gt0-clause-first
returns-then-change-gt0-clause-first c =
    let fits : SFits w128 c.cost_of-change.result = search rules in
    let above : int_lt (pos 0) c.cost_of-change.result ≡ true = simp to_z-of_z at c.if-change-gt0.true in
    tried_negative c.args.upper.now c.args.cost.now c.args.x.now c.args.vector c.cost_of-change.result c.if_within-then-change-gt0.result
    c.cost_of-change.ensures above c.if_within-then-change-gt0.ensures

pub returns-else-change-gt0-clause-first : goal.returns-else-change-gt0-clause-first
returns-else-change-gt0-clause-first c =
    let fits : SFits w128 c.cost_of-change.result = search rules in
    let low : int_lt c.cost_of-change.result (pos 0) ≡ false = simp to_z-of_z at c.if-change-lt0.false in
    let high : int_lt (pos 0) c.cost_of-change.result ≡ false = simp to_z-of_z at c.if-change-gt0.false in
    tried_none c.args.upper.now c.args.cost.now c.args.x.now c.args.vector.now c.cost_of-change.result c.cost_of-change.ensures low high
