-- The command that is built has the rules of the tool, one after another.
use Rattle.std.proofs.Common.{rules, ap, ap₂, codes, true, ◌≡◌, ◌∙◌}
use Rattle.std.proofs.lemmas.Result.{IfOk-weaker}
use Rattle.clap.specs.Walk.{rule_of}
use Rattle.clap.specs.Simple.{app_of, app_of_fields, new_app, new_rule, with_rule}
use Rattle.clap.specs.declared.builder.command.Command.{Command}
use Rattle.clap.specs.declared.builder.command.Command.TheOpen.{Command-F}
use Rattle.tool_words.specs.Choices.{flag, valued}
use Rattle.tool_words.specs.Inside.Commands.{rule_for, with_own_rules}
use Rattle.tool_words.proofs.CommandFacts.{settings, command_is_built}
use Rattle.tool_words.proofs.commands.command.Goals as goal

pub returns : goal.returns
returns c =
    let fields = c.disable_help_flag-command.ensures ∙ ap (λ (f : Command-F Command). record f { disable_help_flag = true }) c.no_binary_name.ensures in
    let base : app_of c.disable_help_flag-command.result ≡ settings (new_app (codes "command")) = ap app_of_fields fields ∙ ap settings c.new.ensures.app in
    let quiet = c.in_ok-command.ensures ∙ ap (λ a. with_rule a (rule_for (flag (codes "quiet") 113))) base in
    let resume = c.in_ok-command-2.ensures ∙ ap (λ a. with_rule a (rule_for (flag (codes "resume") 114))) quiet in
    let workers = c.in_ok-command-3.ensures ∙ ap (λ a. with_rule a (rule_for (valued (codes "workers")))) resume in
    let pairs = c.in_ok-command-4.ensures ∙ ap (λ a. with_rule a (rule_for (valued (codes "pairs")))) workers in
    let rows = c.in_ok-command-5.ensures ∙ ap (λ a. with_rule a (rule_for (valued (codes "rows")))) pairs in
    let backup = c.in_ok-command-6.ensures ∙ ap (λ a. with_rule a (rule_for (valued (codes "backup")))) rows in
    let own = c.in_ok-command-7.ensures ∙ ap (with_own_rules c.args.tool) backup in
    let project : rule_of c.new-2.result ≡ new_rule (codes "project") = search rules in
    IfOk-weaker c.arg.result _ _ (λ r h. h.shape (search rules) ∙ ap₂ with_rule own project ∙ command_is_built c.args.tool) c.arg.ensures
