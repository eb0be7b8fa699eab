-- The negative is in range too.
use Rattle.std.proofs.Common.{rules, sym, subst}
use Rattle.std.specs.List.{AllByRecursion}
use Rattle.int_vector.specs.Range.{InRange}
use Rattle.decompose_tool.proofs.InPlace.{range_negated}
use Rattle.decompose_tool.proofs.walking.take_negative.Goals as goal

pub take-requires-clause-range : goal.take-requires-clause-range
take-requires-clause-range c = subst (AllByRecursion InRange) (sym c.negate.ensures) (range_negated c.args.full.now c.requires.range)

pub returns-else-obeys-clause-goes : goal.returns-else-obeys-clause-goes
returns-else-obeys-clause-goes c = search rules
