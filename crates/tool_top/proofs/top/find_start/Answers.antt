-- The start of a run that is resumed stands in its restart files.
use Rattle.std.proofs.Common.{◌∙◌, sym}
use Rattle.tool_top.specs.Plan.{project_of, resumes}
use Rattle.tool_top.proofs.Conclusions.{found-resumed, found-fresh, apart-resumed}
use Rattle.tool_top.proofs.top.find_start.Goals as goal

pub returns-then-resumes-clause-found : goal.returns-then-resumes-clause-found
returns-then-resumes-clause-found g c =
    found-resumed (resumes c.args.job.now) (project_of c.args.job.now) c.args.system
    (g.F.Folder.held c.args.folder.now) c.read_start.result c.as_str.result.now
    c.as_str-then-resumes.result.now
    (sym c.resumes.ensures ∙ c.if-resumes.true) (c.as_str.ensures.value ∙ c.requires.first_is)
    (c.as_str-then-resumes.ensures.value ∙ c.requires.second_is) c.read_start.ensures.found

pub returns-then-resumes-clause-apart : goal.returns-then-resumes-clause-apart
returns-then-resumes-clause-apart g c = λ some. absurd (apart-resumed c.args.job.now (sym
    c.resumes.ensures ∙ c.if-resumes.true) some)

pub returns-clause-found : goal.returns-clause-found
returns-clause-found g c =
    found-fresh (resumes c.args.job.now) (project_of c.args.job.now) c.args.system (g.F.Folder.held
    c.args.folder.now) (sym c.resumes.ensures ∙ c.if-resumes.false)
