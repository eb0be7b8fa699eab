-- What the words ask for is carried out; refused words are an end that their plan has, with its line.
use Rattle.std.proofs.Common.{Option, sym, subst}
use Rattle.std.specs.Prelude.{IfSome}
use Rattle.outside.specs.Files.{Files}
use Rattle.tool_top.specs.Inside.Ends.{Ends}
use Rattle.stand_tool.specs.declared.request.Request.{Request}
use Rattle.stand_tool.specs.Ends.{Stands}
use Rattle.stand_tool.specs.Plans.{plan_for, project_in, job_in}
use Rattle.stand_tool.specs.Inside.Ends.{Asks}
use Rattle.stand_tool.proofs.StandingFor.{ends-refused, tells-refused}
use Rattle.stand_tool.proofs.Speaking.{refused_words}
use Rattle.stand_tool.proofs.top.finish.Goals as goal

pub returns-in-Err-clause-ends : goal.returns-in-Err-clause-ends
returns-in-Err-clause-ends g c =
    λ asked is. ends-refused asked c.in-Err.refused (g.F.Folder.held c.args.folder.now)
    (g.O.Sink.held c.args.out.now) c.from-end.result (subst (Asks asked) c.in-Err.is is)
    c.from-end.ensures

pub returns-in-Err-clause-tells : goal.returns-in-Err-clause-tells
returns-in-Err-clause-tells g c =
    λ asked is. tells-refused (job_in asked) (g.O.Sink.held c.args.out.now) c.in-Err.refused c.from-end.result
    c.from-end.ensures

pub returns-in-Err-clause-message : goal.returns-in-Err-clause-message
returns-in-Err-clause-message g c =
    λ asked is. refused_words c.in-Err.refused c.from-end.result (project_in asked)
    (g.E.Sink.held c.args.err.now) (g.E.Sink.held c.speak-in-Err.new.err) c.from-end.ensures
    c.speak-in-Err.ensures

pub returns-in-Ok-clause-ends : goal.returns-in-Ok-clause-ends
returns-in-Ok-clause-ends g c =
    λ asked is. subst (λ (a : Option Request). IfSome (g.F.Folder.held c.args.folder.now) (λ (files : Files). Stands c.attempt-end.result (Ends (plan_for a files) (record {
      files_before = files;
      files_after = g.F.Folder.held c.attempt-end.new.folder;
      out_before = g.O.Sink.held c.args.out.now;
      out_after = g.O.Sink.held c.attempt-end.new.out;
    })))) (sym (subst (Asks asked) c.in-Ok.is is)) c.attempt-end.ensures.ends
