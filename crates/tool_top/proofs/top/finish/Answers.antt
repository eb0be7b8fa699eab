-- Refused words are an end that their plan has, with its line.
use Rattle.std.proofs.Common.{subst}
use Rattle.tool_top.specs.Plan.{named_project}
use Rattle.tool_top.specs.Inside.Ends.{Asks}
use Rattle.tool_top.proofs.Conclusions.{ends-words}
use Rattle.tool_top.proofs.Speaking.{refused_words}
use Rattle.tool_top.proofs.top.finish.Goals as goal

pub returns-in-Err-clause-ends : goal.returns-in-Err-clause-ends
returns-in-Err-clause-ends g c =
    λ asked is. ends-words c.args.tool c.in-Err.refused asked (g.F.Folder.held c.args.folder.now)
    (g.O.Sink.held c.args.out.now) c.from-end.result (subst (Asks asked) c.in-Err.is is)
    c.from-end.ensures

pub returns-in-Err-clause-message : goal.returns-in-Err-clause-message
returns-in-Err-clause-message g c =
    λ asked is. refused_words c.args.tool c.in-Err.refused c.from-end.result (named_project asked)
    (g.E.Sink.held c.args.err.now) (g.E.Sink.held c.speak-in-Err.new.err) c.from-end.ensures
    c.speak-in-Err.ensures
