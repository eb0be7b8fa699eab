-- The commands are simple ones, so that `clap` says what it finds in any words.
use Rattle.std.proofs.Common.{◌≡◌, true, refl, codes}
use Rattle.clap.specs.Simple.{App, new_app, new_rule, on_top, with_rule, is_simple}
use Rattle.clap.specs.Faults.{is_simple_and_free}
use Rattle.clap.proofs.OnLiterals.{clap_on_literals}
use Rattle.lift_core.specs.declared.Tool.{Tool}
use Rattle.lift_core.specs.declared.Tool.TheVariants.{Graver, Hilbert, Zsolve}
use Rattle.tool_words.specs.Choices.{flag, valued}
use Rattle.tool_words.specs.Inside.Commands.{command_for, rule_for, with_own_rules}

pub command_is_simple : (tool : Tool) → is_simple (command_for tool) ≡ true
unfolding clap_on_literals command_for
command_is_simple Graver = refl
command_is_simple Hilbert = refl
command_is_simple Zsolve = refl

pub command_is_free : (tool : Tool) → is_simple_and_free (command_for tool) ≡ true
unfolding clap_on_literals command_for
command_is_free Graver = refl
command_is_free Hilbert = refl
command_is_free Zsolve = refl

abbrev pub settings : App → App
settings a = on_top (λ s. record s { no_binary_name = true; disable_help_flag = true }) a

pub command_is_built : (tool : Tool) → with_rule (with_own_rules tool (with_rule (with_rule (with_rule (with_rule (with_rule (with_rule (settings (new_app (codes "command")))
    (rule_for (flag (codes "quiet") 113))) (rule_for (flag (codes "resume") 114))) (rule_for (valued (codes "workers")))) (rule_for (valued (codes "pairs"))))
    (rule_for (valued (codes "rows")))) (rule_for (valued (codes "backup"))))) (new_rule (codes "project")) ≡ command_for tool
unfolding command_for
command_is_built Graver = refl
command_is_built Hilbert = refl
command_is_built Zsolve = refl
