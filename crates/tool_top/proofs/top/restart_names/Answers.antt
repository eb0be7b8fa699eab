-- Each name is the project with its ending.
use Rattle.std.proofs.Common.{◌++◌, ◌∙◌, ap₂}
use Rattle.tool_top.proofs.top.restart_names.Goals as goal

pub returns : goal.returns
returns c = record {
  first_is = c.in_ok-first.ensures ∙ ap₂ (λ a b. a ++ b) c.project_of-project.ensures c.ending.ensures;
  second_is = c.in_ok-second.ensures ∙ ap₂ (λ a b. a ++ b) c.project_of-project.ensures c.ending-2.ensures;
}
