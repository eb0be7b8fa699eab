-- The command is simple and free, so what is found in the words is what its rules say.
use Rattle.std.proofs.Common.{ap, map, ◌∙◌, subst}
use Rattle.std.proofs.lemmas.Result.{IfOk-weaker}
use Rattle.clap.specs.Kinds.{FailsBy}
use Rattle.clap.specs.Faults.{fault_of, is_simple_and_free}
use Rattle.clap.specs.Simple.{App, is_simple, matches_of}
use Rattle.tool_words.proofs.CommandFacts.{command_is_simple, command_is_free}
use Rattle.tool_words.proofs.commands.matches_in.Goals as goal

pub returns-clause-refused : goal.returns-clause-refused
returns-clause-refused c =
    subst (λ (a : App). FailsBy (fault_of a (map (λ w. w.now) c.args.words.now)) c.try_get_matches_from.result) c.in_ok-command.ensures
    (c.try_get_matches_from.ensures.kinds (ap is_simple_and_free c.in_ok-command.ensures ∙ command_is_free c.args.tool))

pub returns-clause-read : goal.returns-clause-read
returns-clause-read c =
    IfOk-weaker c.try_get_matches_from.result _ _
    (λ m h. (h (ap is_simple c.in_ok-command.ensures ∙ command_is_simple c.args.tool)).0 ∙ ap (λ a. matches_of a (map (λ w. w.now) c.args.words.now)) c.in_ok-command.ensures)
    c.try_get_matches_from.ensures.matches
