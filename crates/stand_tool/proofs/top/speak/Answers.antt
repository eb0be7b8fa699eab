-- At Done nothing is put; at each other end its line, or a prefix of it.
use Rattle.std.proofs.Common.{◌≡◌, false, IsTrue}
use Rattle.tool_top.proofs.Speaking.{may_put}
use Rattle.stand_tool.specs.Messages.{message_of}
use Rattle.stand_tool.proofs.Speaking.{silent, spoken}
use Rattle.stand_tool.proofs.top.speak.Goals as goal

pub returns-then-is_done : goal.returns-then-is_done
returns-then-is_done g c =
    silent c.args.project.now c.args.end.now (g.E.Sink.held c.args.err.now)
    (c.is_done.ensures.done c.if-is_done.true)

pub returns : goal.returns
returns g c =
    spoken c.args.project.now c.args.end.now (g.E.Sink.held c.args.err.now)
    (g.E.Sink.held c.put_message.new.err)
    (λ d. let t : IsTrue c.is_done.result = c.is_done.ensures.other d in let f : c.is_done.result ≡
    false = c.if-is_done.false in cc)
    (may_put c.put_message.result (message_of c.args.project.now c.args.end.now)
    (g.E.Sink.held c.args.err.now) (g.E.Sink.held c.put_message.new.err)
    c.put_message.ensures.done c.put_message.ensures.refused)
