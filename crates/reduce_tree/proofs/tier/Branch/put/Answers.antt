-- The kid is written at the place of its class; places of other classes, and what the numbers behind them say, are as
-- before.
use Rattle.std.proofs.Common.{arith}
use Rattle.reduce_tree.proofs.Tiers.{put_kept, put_here}
use Rattle.reduce_tree.proofs.tier.Branch.put.Goals as goal

pub returns-clause-kept : goal.returns-clause-kept
returns-clause-kept c =
    put_kept c.self.inside.classes c.args.class c.args.kid c.self.inside.kids.items c.fill.new.numbers.items c.requires.class c.args.self.now c.self.view_is c.requires.none c.fill.ensures.count c.fill.ensures.kept

pub returns-clause-here : goal.returns-clause-here
returns-clause-here c =
    put_here c.self.inside.classes c.args.class c.args.kid c.self.inside.kids.items c.fill.new.numbers.items c.requires.class (omega (arith, c.in_ok-fill.ensures.enough))
