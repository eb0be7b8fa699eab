use Rattle.std.proofs.Common.{arith}
use Rattle.stage_store.proofs.CountedPairs.{beyond_from}
use Rattle.stage_store.proofs.counting.extended_reach.Goals as goal

pub returns-then-first-norm_at-clause-beyond : goal.returns-then-first-norm_at-clause-beyond
returns-then-first-norm_at-clause-beyond c =
    beyond_from c.args.listed.now.rows c.args.first c.args.norm c.loop-end.end
    c.requires.ascending (omega (arith, c.if-first-norm_at.true, c.norm_at.ensures.norm))
