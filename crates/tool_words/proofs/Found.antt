-- What `clap` finds or refuses is what the words give, with the defaults of the flags.
use Rattle.std.proofs.Common.{◌≡◌, ◌<◌, ◌≤◌, ◌==◌, ◌&&◌, ◌||◌, ℕ, true, false, is_some, cond, List, [], ◌∷◌, ◌++◌, map, length, drop, slice_get, Option, None, Some, find, option_map, bytes_eq, codes, refl, ap, sym, ◌∙◌, arith}
use Rattle.std.proofs.lemmas.Slice.Eq.{bytes_eq-Decides}
use Rattle.clap.specs.Walk.{Held, Rule, Row, Text, Waiting, idle, option, Walk, Outcome, done, plain, arg_by_id, arg_by_index, arg_by_long, bundle, bundle_met, settled, settled_rows, used, walked, after_step, after_flag, long_met, to_positional, is_pending, takes_several, positional_held}
use Rattle.clap.specs.Walk as cw
use Rattle.clap.specs.Faults.{turn_fault, settle_fault, long_fault, step_fault, flags_fault, positional_fault, stray_fault, short_fault, react_fault, option_fault}
use Rattle.clap.proofs.OnLiterals.{clap_on_literals}
use Rattle.tool_words.specs.Choices.{Choice, flag, valued, is_named, has_letter}
use Rattle.tool_words.specs.Walks.{Given}
use Rattle.tool_words.proofs.Rules.{rule_built, project_rule, rules_for, shape_for}
use Rattle.tool_words.proofs.Uses.{IsProper, or_else_both, or_else_left, or_else_right}
use Rattle.std.specs.List.{list_all}
use Rattle.std.proofs.Common.{fold, option_and_then}
use Rattle.std.proofs.lemmas.List.Folds.{find-append}
use Rattle.clap.specs.Walk.{first_of, finished, has_row, nothing_held, walk, walk_from, with_default, default_rows, with_values, reading_by, rows_after}
use Rattle.clap.specs.Walk.{is_empty}
use Rattle.clap.specs.Faults.{walk_fault, fault_of, built_fault, defaults_fault, default_fault, check_fault, entered_fault, level_fault}
use Rattle.clap.specs.Simple.{app_of, built, entered, matches_of, argument_words}
use Rattle.clap.specs.declared.parser.matches.ValueSource.TheVariants.{DefaultValue}
use Rattle.lift_core.specs.declared.Tool.{Tool}
use Rattle.lift_core.specs.declared.Tool.TheVariants.{Graver, Hilbert, Zsolve}
use Rattle.tool_words.specs.Choices.{choices_of}
use Rattle.tool_words.specs.Walks.{given_of, text_given, is_true}
use Rattle.tool_words.specs.Jobs.{texts_of}
use Rattle.tool_words.specs.Inside.Commands.{command_for, texts_in}
use Rattle.tool_words.proofs.Rules.{app_for, command_built, shown, listed, at_row_new}
use Rattle.tool_words.proofs.Walked.{AreUtf8, AllComes, all_comes}
use Rattle.std.specs.Option.{option_or}

-- ---- the choices of a command are proper

letter_is_high : (x letter : ℕ) → letter < 128 → 128 ≤ x → (letter == x) ≡ false
letter_is_high x letter low high = elim (letter == x) as (λ b. (letter == x) ≡ b → b ≡ false) [
  | true ↦ λ e. let same : letter ≡ x = grind (arith, e) in absurd (omega (arith, same, low, high))
  | false ↦ λ e. refl
] refl

letters_are_low : (tool : Tool) (x : ℕ) → 128 ≤ x → find (has_letter x) (choices_of tool) ≡ None
letters_are_low Graver x high = rw (letter_is_high x 113 (omega arith) high, letter_is_high x 114 (omega arith) high) refl
letters_are_low Hilbert x high = rw (letter_is_high x 113 (omega arith) high, letter_is_high x 114 (omega arith) high) refl
letters_are_low Zsolve x high = rw (letter_is_high x 113 (omega arith) high, letter_is_high x 114 (omega arith) high) refl

none_is_project : (tool : Tool) → find (is_named (codes "project")) (choices_of tool) ≡ None
none_is_project Graver = refl
none_is_project Hilbert = refl
none_is_project Zsolve = refl

pub choices_are_proper : (tool : Tool) → IsProper (choices_of tool)
choices_are_proper tool = record { no_project = none_is_project tool; low = letters_are_low tool }

-- ---- the faults after the walk

default_none : (rows : List Row) (choice : Choice) → default_fault rows (rule_built choice) ≡ []
unfolding clap_on_literals
default_none rows (flag n l) = elim (has_row n rows) as (λ b. cond (b || false) [] (Rattle.clap.specs.Faults.given_default_fault (rule_built (flag n l)) (codes "false" ∷ [])) ≡ []) [ true ↦ refl | false ↦ refl ]
default_none rows (valued n) = elim (has_row n rows) as (λ b. cond (b || true) [] (Rattle.clap.specs.Faults.given_default_fault (rule_built (valued n)) []) ≡ []) [ true ↦ refl | false ↦ refl ]

project_default_none : (rows : List Row) → default_fault rows project_rule ≡ []
project_default_none rows = elim (has_row (codes "project") rows) as (λ b. cond (b || true) [] (Rattle.clap.specs.Faults.given_default_fault project_rule []) ≡ []) [ true ↦ refl | false ↦ refl ]

defaults_none : (choices : List Choice) (rows : List Row) → defaults_fault rows (rules_for choices) ≡ []
unfolding defaults_fault
defaults_none [] rows = or_else_both _ _ (project_default_none rows) refl
defaults_none (c ∷ cs) rows = or_else_both _ _ (default_none rows c) (defaults_none cs (with_default rows (rule_built c)))

check_none : (tool : Tool) (rows : List Row) → check_fault (shape_for (choices_of tool)) rows false ≡ []
check_none Graver rows = refl
check_none Hilbert rows = refl
check_none Zsolve rows = refl

-- ---- the faults are those of the walk and of its end

entered_none : (choices : List Choice) (stop : Option (Text × List Text)) → entered (app_for choices) stop ≡ None
entered_none choices None = refl
entered_none choices (Some p) = refl

entered_fault_none : (choices : List Choice) (stop : Option (Text × List Text)) → entered_fault (app_for choices) stop ≡ []
entered_fault_none choices None = refl
entered_fault_none choices (Some p) = refl

abbrev end_held : Tool → List Text → Held
end_held tool words = (walk (rules_for (choices_of tool)) [] nothing_held words).held

fault_is_level : (tool : Tool) (words : List Text) → fault_of (command_for tool) words ≡ level_fault (shape_for (choices_of tool)) [] nothing_held words false []
unfolding command_for
fault_is_level tool words =
    ap (λ a. built_fault a nothing_held words) (command_built tool)
    ∙ ap (λ o. level_fault (shape_for (choices_of tool)) [] nothing_held words (is_some o) (entered_fault (app_for (choices_of tool)) (walk (rules_for (choices_of tool)) [] nothing_held words).stopped))
    (entered_none (choices_of tool) (walk (rules_for (choices_of tool)) [] nothing_held words).stopped)
    ∙ ap (λ k. level_fault (shape_for (choices_of tool)) [] nothing_held words false k) (entered_fault_none (choices_of tool) (walk (rules_for (choices_of tool)) [] nothing_held words).stopped)

fault_without : (tool : Tool) (words : List Text) → fault_of (command_for tool) words ≡ [] →
    (walk_fault (shape_for (choices_of tool)) [] (walk_from nothing_held) words ≡ []) × (settle_fault (rules_for (choices_of tool)) false (end_held tool words) ≡ [])
fault_without tool words e =
    let level = sym (fault_is_level tool words) ∙ e in
    (or_else_left _ _ level, or_else_left _ _ (or_else_right _ _ level))

without_fault : (tool : Tool) (words : List Text) → walk_fault (shape_for (choices_of tool)) [] (walk_from nothing_held) words ≡ [] → settle_fault (rules_for (choices_of tool)) false (end_held tool words) ≡ [] →
    fault_of (command_for tool) words ≡ []
without_fault tool words walked settled = fault_is_level tool words
    ∙ or_else_both _ _ walked (or_else_both _ _ settled (or_else_both _ _ (defaults_none (choices_of tool) _) (check_none tool _)))

-- ---- the texts

first_in : Text → List (Text × List Text) → Option Text
first_in id pairs = option_and_then (λ (p : Text × List Text). slice_get p.1 0) (find (λ (p : Text × List Text). bytes_eq p.0 id) pairs)

first_shown : (id : Text) (rows : List Row) → first_of id rows ≡ first_in id (map shown rows)
unfolding first_in
first_shown id [] = refl
first_shown id (r ∷ rs) = elim (bytes_eq r.id id) as (λ b. option_and_then (λ (r : Row). slice_get r.values 0) (cond b (Some r) (find (λ (r : Row). bytes_eq r.id id) rs))
    ≡ option_and_then (λ (p : Text × List Text). slice_get p.1 0) (cond b (Some (shown r)) (find (λ (p : Text × List Text). bytes_eq p.0 id) (map shown rs)))) [ true ↦ refl | false ↦ first_shown id rs ]

first_listed : (id : Text) (given : Given) → text_given id given ≡ first_in id (map listed given)
unfolding first_in
first_listed id [] = refl
first_listed id (g ∷ gs) = elim (bytes_eq g.0 id) as (λ b. option_map (λ (g : Text × Text). g.1) (cond b (Some g) (find (λ (g : Text × Text). bytes_eq g.0 id) gs))
    ≡ option_and_then (λ (p : Text × List Text). slice_get p.1 0) (cond b (Some (listed g)) (find (λ (p : Text × List Text). bytes_eq p.0 id) (map listed gs)))) [ true ↦ refl | false ↦ first_listed id gs ]

first_given : (id : Text) (rows : List Row) (given : Given) → map shown rows ≡ map listed given → first_of id rows ≡ text_given id given
first_given id rows given e = first_shown id rows ∙ ap (first_in id) e ∙ sym (first_listed id given)

-- ---- the defaults

no_default_by : (a : Rule) (rows : List Row) (defaults : List Text) → is_empty defaults ≡ true → cond (has_row a.id rows) rows (default_rows a.id (reading_by a) defaults rows) ≡ rows
no_default_by a rows [] e = elim (has_row a.id rows) as (λ b. cond b rows rows ≡ rows) [ true ↦ refl | false ↦ refl ]
no_default_by a rows (v ∷ vs) e = absurd (let n : length (v ∷ vs) ≡ 0 = grind (arith, e) in omega (arith, n))

no_defaults : (rules : List Rule) (rows : List Row) → list_all (λ a. is_empty a.defaults) rules ≡ true → fold with_default rows rules ≡ rows
no_defaults [] rows e = refl
no_defaults (a ∷ rules) rows e =
    elim (is_empty a.defaults) as (λ b. is_empty a.defaults ≡ b → b && list_all (λ a. is_empty a.defaults) rules ≡ true → fold with_default rows (a ∷ rules) ≡ rows) [
      | true ↦ λ none more. ap (λ (r : List Row). fold with_default r rules) (no_default_by a rows a.defaults none) ∙ no_defaults rules rows more
      | false ↦ λ some more. absurd (grind (arith, more))
    ] refl e

or_none : {A : Type 0} (o : Option A) → option_or o None ≡ o
or_none None = refl
or_none (Some x) = refl

lacks : (id : Text) (rows : List Row) → has_row id rows ≡ false → find (λ (r : Row). bytes_eq r.id id) rows ≡ None
lacks id [] e = refl
lacks id (r ∷ rs) e = elim (bytes_eq r.id id) as (λ b. b || has_row id rs ≡ false → cond b (Some r) (find (λ (r : Row). bytes_eq r.id id) rs) ≡ None) [
  | true ↦ λ k. absurd (grind (arith, k))
  | false ↦ λ k. lacks id rs k
] e

abbrev default_row : Text → ℕ → Row
default_row n l = record { id = n; values = codes "false" ∷ []; count = None; source = Some DefaultValue; reading = reading_by (rule_built (flag n l)) }

default_added : (n : Text) (l : ℕ) (rows : List Row) → has_row n rows ≡ false → with_default rows (rule_built (flag n l)) ≡ rows ++ default_row n l ∷ []
default_added n l rows e = ap (λ b. cond b rows (with_values n (reading_by (rule_built (flag n l))) DefaultValue (codes "false" ∷ []) rows)) e ∙ at_row_new n (Rattle.clap.specs.Walk.more_values DefaultValue (codes "false" ∷ [])) _ rows e

default_kept : (n : Text) (l : ℕ) (rows : List Row) → has_row n rows ≡ true → with_default rows (rule_built (flag n l)) ≡ rows
default_kept n l rows e = ap (λ b. cond b rows (with_values n (reading_by (rule_built (flag n l))) DefaultValue (codes "false" ∷ []) rows)) e

abbrev first_value : Option Row → Option Text
first_value o = option_and_then (λ (r : Row). slice_get r.values 0) o

-- the default of a flag is no text of another name
other_text : (n : Text) (l : ℕ) (id : Text) (rows : List Row) → bytes_eq n id ≡ false → first_of id (with_default rows (rule_built (flag n l))) ≡ first_of id rows
other_text n l id rows other =
    elim (has_row n rows) as (λ b. has_row n rows ≡ b → first_of id (with_default rows (rule_built (flag n l))) ≡ first_of id rows) [
      | true ↦ λ e. ap (first_of id) (default_kept n l rows e)
      | false ↦ λ e. ap (first_of id) (default_added n l rows e) ∙ ap first_value (find-append (λ (r : Row). bytes_eq r.id id) rows (default_row n l ∷ [])
          ∙ ap (λ b. option_or (find (λ (r : Row). bytes_eq r.id id) rows) (cond b (Some (default_row n l)) None)) other ∙ or_none _)
    ] refl

-- a flag is set exactly where it was set before its default
own_text : (n : Text) (l : ℕ) (rows : List Row) → is_true (first_of n (with_default rows (rule_built (flag n l)))) ≡ is_true (first_of n rows)
own_text n l rows =
    elim (has_row n rows) as (λ b. has_row n rows ≡ b → is_true (first_of n (with_default rows (rule_built (flag n l)))) ≡ is_true (first_of n rows)) [
      | true ↦ λ e. ap (λ r. is_true (first_of n r)) (default_kept n l rows e)
      | false ↦ λ e. ap (λ r. is_true (first_of n r)) (default_added n l rows e)
          ∙ ap (λ o. is_true (first_value o)) (find-append (λ (r : Row). bytes_eq r.id n) rows (default_row n l ∷ [])
          ∙ ap (λ o. option_or o (cond (bytes_eq n n) (Some (default_row n l)) None)) (lacks n rows e)
          ∙ ap (λ b. cond b (Some (default_row n l)) None) ((bytes_eq-Decides n n).1 refl))
          ∙ sym (ap (λ o. is_true (first_value o)) (lacks n rows e))
    ] refl

abbrev with_flags : List Row → List Row
with_flags rows = with_default (with_default rows (rule_built (flag (codes "quiet") 113))) (rule_built (flag (codes "resume") 114))

flags_other : (id : Text) (rows : List Row) → bytes_eq (codes "quiet") id ≡ false → bytes_eq (codes "resume") id ≡ false → first_of id (with_flags rows) ≡ first_of id rows
flags_other id rows q r = other_text (codes "resume") 114 id (with_default rows (rule_built (flag (codes "quiet") 113))) r ∙ other_text (codes "quiet") 113 id rows q

finished_is : (tool : Tool) (rows : List Row) → fold with_default rows (rules_for (choices_of tool)) ≡ with_flags rows
finished_is Graver rows = no_defaults (drop 2 (rules_for (choices_of Graver))) (with_flags rows) refl
finished_is Hilbert rows = no_defaults (drop 2 (rules_for (choices_of Hilbert))) (with_flags rows) refl
finished_is Zsolve rows = no_defaults (drop 2 (rules_for (choices_of Zsolve))) (with_flags rows) refl

texts_with_flags : (rows : List Row) (given : Given) → map shown rows ≡ map listed given → texts_in (with_flags rows) ≡ texts_of given
texts_with_flags rows given e =
    let at : (id : Text) → bytes_eq (codes "quiet") id ≡ false → bytes_eq (codes "resume") id ≡ false → first_of id (with_flags rows) ≡ text_given id given =
    λ id q r. flags_other id rows q r ∙ first_given id rows given e in
    let project = at (codes "project") refl refl in
    let tables = at (codes "tables") refl refl in
    let workers = at (codes "workers") refl refl in
    let pairs = at (codes "pairs") refl refl in
    let listed_rows = at (codes "rows") refl refl in
    let backup = at (codes "backup") refl refl in
    let resume = own_text (codes "resume") 114 (with_default rows (rule_built (flag (codes "quiet") 113)))
    ∙ ap is_true (other_text (codes "quiet") 113 (codes "resume") rows refl ∙ first_given (codes "resume") rows given e) in
    let quiet = ap is_true (other_text (codes "resume") 114 (codes "quiet") (with_default rows (rule_built (flag (codes "quiet") 113))) refl)
    ∙ own_text (codes "quiet") 113 rows ∙ ap is_true (first_given (codes "quiet") rows given e) in
    λ i. record {
      project = project i;
      tables = tables i;
      workers = workers i;
      pairs = pairs i;
      rows = listed_rows i;
      backup = backup i;
      resume = resume i;
      quiet = quiet i;
    }

matches_are : (tool : Tool) (words : List Text) → matches_of (command_for tool) words ≡ with_flags (settled (rules_for (choices_of tool)) (end_held tool words)).rows
unfolding command_for
matches_are tool words = ap (λ a. rows_after a.top.rules (Rattle.clap.specs.Simple.names_of a) words) (command_built tool) ∙ finished_is tool (settled (rules_for (choices_of tool)) (end_held tool words)).rows

-- ---- the law

-- the words are refused by both, or what is found is what is given
abbrev pub IsFound : Tool → List Text → Option Given → Type 0
IsFound tool words None = fault_of (command_for tool) words ≡ [] → ⊥
IsFound tool words (Some given) = (fault_of (command_for tool) words ≡ []) × (texts_in (matches_of (command_for tool) words) ≡ texts_of given)

found_by : (tool : Tool) (words : List Text) (got : Option Given) → AllComes (choices_of tool) words got → IsFound tool words got
found_by tool words None come = λ fault. come (fault_without tool words fault).0 (fault_without tool words fault).1
found_by tool words (Some given) come = (
  without_fault tool words come.0 come.1.sound,
  ap texts_in (matches_are tool words) ∙ texts_with_flags (settled (rules_for (choices_of tool)) (end_held tool words)).rows given come.1.same,
)

pub words_found : (tool : Tool) (words : List Text) → AreUtf8 words → IsFound tool words (given_of tool words)
words_found tool words utf8 = found_by tool words (given_of tool words) (all_comes (choices_of tool) (choices_are_proper tool) words utf8)
