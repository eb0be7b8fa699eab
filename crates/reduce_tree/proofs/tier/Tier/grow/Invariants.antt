use Rattle.std.proofs.Common.{◌+◌, ◌-◌, vec_len}
use Rattle.reduce_tree.specs.Inside.Tiers.{KeepsSteps}
use Rattle.reduce_tree.proofs.tier.Tier.grow.Given as goal

abbrev pub invariant-loop-self : goal.invariant-loop-self
invariant-loop-self l = KeepsSteps l.fn.self l.self-inside.branches.items

abbrev pub decreases-loop-self : goal.decreases-loop-self
decreases-loop-self l = l.branch + 1 - vec_len l.self-inside.branches
