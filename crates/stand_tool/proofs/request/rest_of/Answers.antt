use Rattle.std.proofs.Common.{arith}
use Rattle.stand_tool.proofs.WordLists.{one_more}
use Rattle.stand_tool.proofs.request.rest_of.Goals as goal

pub loop-i-preserved : goal.loop-i-preserved
loop-i-preserved c =
    one_more c.args.words.now c.loop-i.rest c.push.new.self c.loop-i.i c.word.result.now (omega (arith, c.loop-i-test.true, c.len-i-end.ensures)) c.word.ensures c.in_ok-push.ensures.ok c.loop-i.invariant
