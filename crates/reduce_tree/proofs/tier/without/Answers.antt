use Rattle.std.specs.Int.{w128}
use Rattle.reduce_tree.proofs.Bits.{cleared_less, cleared_other}
use Rattle.reduce_tree.proofs.tier.without.Goals as goal

pub returns-clause-less : goal.returns-clause-less
returns-clause-less c = λ e. cleared_less w128 c.args.classes c.args.class c.requires e

pub returns-clause-others : goal.returns-clause-others
returns-clause-others c = λ k d e. cleared_other w128 c.args.classes c.args.class k c.ranges.classes.fits c.requires d e
