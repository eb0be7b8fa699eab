-- What is left is told, or a prefix of its line.
use Rattle.std.proofs.Common.{subst}
use Rattle.std.specs.Prelude.{List, ℤ}
use Rattle.outside.specs.Pieces.{MayPut}
use Rattle.decompose_tool.specs.Messages.{left_message}
use Rattle.decompose_tool.proofs.Texts.{said}
use Rattle.decompose_tool.proofs.messages.say_ending.Goals as goal

pub returns-in-Left : goal.returns-in-Left
returns-in-Left g c =
    rw c.in-Left.is
    (subst (λ (r : List ℤ). MayPut (left_message r) (g.E.Sink.held c.args.err.now) (g.E.Sink.held c.put_left.new.err)) c.cells.ensures
    (said (left_message c.cells.result.now) (g.E.Sink.held c.args.err.now) (g.E.Sink.held c.put_left.new.err) c.put_left.result c.put_left.ensures.done c.put_left.ensures.refused))
