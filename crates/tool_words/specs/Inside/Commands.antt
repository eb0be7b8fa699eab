-- The simple commands of `clap` that stand for the choices, and what the steps of a reading come to.
use Rattle.std.specs.Prelude.{◌≡◌, ◌≢◌, ◌≤◌, ℕ, true, List, [], ◌∷◌, ◌++◌, map, Option, None, Some, IfSome, Result, Ok, Err, option_map, codes}
use Rattle.clap.specs.Walk.{Rule, Row, first_of}
use Rattle.clap.specs.Simple.{App, new_app, new_rule, on_top, with_rule}
use Rattle.clap.specs.declared.builder.action.ArgAction.TheVariants.{SetTrue}
use Rattle.lift_core.specs.declared.Tool.{Tool}
use Rattle.lift_core.specs.declared.Tool.TheVariants.{Graver, Hilbert, Zsolve}
use Rattle.tool_words.specs.Choices.{Choice, flag, valued, choices_of}
use Rattle.tool_words.specs.Walks.{is_true}
use Rattle.tool_words.specs.Jobs.{Texts, number_of, job_of_texts}
use Rattle.tool_words.specs.declared.jobs.Job.{Job}
use Rattle.tool_words.specs.declared.jobs.WordEnd.{WordEnd}
use Rattle.tool_words.specs.declared.jobs.WordEnd.TheVariants.{Usage, Memory}
use Rattle.tool_words.specs.declared.reading.FoundTexts.{FoundTexts}
use Rattle.clap.specs.declared.error.kind.ErrorKind.{ErrorKind}
use Rattle.clap.specs.declared.error.kind.ErrorKind.TheVariants as kind

abbrev pub rule_for : Choice → Rule
rule_for (flag name letter) =
    record (new_rule name) { short = Some letter; long = Some name; action = Some SetTrue }
rule_for (valued name) = record (new_rule name) { long = Some name }

-- the command with a rule for each choice, and the positional word
unfoldable pub command_for : Tool → App
command_for tool = on_top (λ s. record s {
  no_binary_name = true;
  disable_help_flag = true;
  rules = map rule_for (choices_of tool) ++ new_rule (codes "project") ∷ [];
}) (new_app (codes "command"))

-- the command with the rules that this tool has alone
abbrev pub with_own_rules : Tool → App → App
with_own_rules Graver a = with_rule a (rule_for (valued (codes "tables")))
with_own_rules Hilbert a = a
with_own_rules Zsolve a = a

-- the texts in what was found
abbrev pub texts_in : List Row → Texts
texts_in rows = record {
  project = first_of (codes "project") rows;
  tables = first_of (codes "tables") rows;
  workers = first_of (codes "workers") rows;
  pairs = first_of (codes "pairs") rows;
  rows = first_of (codes "rows") rows;
  backup = first_of (codes "backup") rows;
  resume = is_true (first_of (codes "resume") rows);
  quiet = is_true (first_of (codes "quiet") rows);
}

-- the same texts, without where they lie
abbrev pub seen : FoundTexts → Texts
seen t = record {
  project = option_map (λ s. s.now) t.project;
  tables = option_map (λ s. s.now) t.tables;
  workers = option_map (λ s. s.now) t.workers;
  pairs = option_map (λ s. s.now) t.pairs;
  rows = option_map (λ s. s.now) t.rows;
  backup = option_map (λ s. s.now) t.backup;
  resume = t.resume;
  quiet = t.quiet;
}

-- the number of an option, or usage
abbrev pub IsOptionNumber : ℕ → ℕ → Option (List ℕ) → Result (Option ℕ) WordEnd → Type 0
IsOptionNumber least most text (Ok n) =
    (number_of least most text ≡ Some n) × IfSome n (λ x. (least ≤ x) × (x ≤ most))
IsOptionNumber least most text (Err end) = (number_of least most text ≡ None) × (end ≡ Usage)

-- the job of the texts, or usage
abbrev pub MakesJob : Texts → Result Job WordEnd → Type 0
MakesJob texts (Ok job) = job_of_texts texts ≡ Some job
MakesJob texts (Err Usage) = job_of_texts texts ≡ None
MakesJob texts (Err Memory) = Unit {0}

-- running out of memory, or usage
pub record EndsBy (k : ErrorKind) (end : WordEnd) : Type 0 where
  pub memory : k ≡ kind.OutOfMemory → end ≡ Memory
  pub usage : k ≢ kind.OutOfMemory → end ≡ Usage
