-- What one use of a flag, of an option or of the positional word comes to, in what `clap` holds.
use Rattle.std.proofs.Common.{◌≤◌, ◌≡◌, ℕ, true, false, List, [], ◌∷◌, ◌++◌, map, Option, None, Some, find, codes, refl, ap, sym, subst, ◌∙◌, arith}
use Rattle.std.specs.Option.{option_map_or}
use Rattle.std.proofs.lemmas.List.{map-append}
use Rattle.clap.specs.Walk.{Held, Rule, Row, Text, arg_by_id, has_row, settled_rows, used, reading_by, more_values, with_values}
use Rattle.clap.specs.Kinds.{Kinds, or_else}
use Rattle.clap.specs.Faults.{settle_fault, use_fault, react_fault}
use Rattle.clap.specs.declared.parser.matches.ValueSource.TheVariants.{CommandLine}
use Rattle.clap.specs.declared.error.kind.ErrorKind.{ErrorKind}
use Rattle.clap.specs.declared.error.kind.ErrorKind.TheVariants as kind
use Rattle.clap.proofs.OnLiterals.{clap_on_literals}
use Rattle.tool_words.specs.Choices.{Choice, flag, valued, is_named, has_letter}
use Rattle.tool_words.specs.Walks.{Given, is_given}
use Rattle.tool_words.proofs.Rules.{rule_built, project_rule, rules_for, found_or, by_id, shown, listed, has_given, at_row_new, without_new}

-- what is held, with no flag of a bundle to pass over
abbrev pub held_at : List Row → Option (Text × List Text) → Held
held_at rows pending = record { rows = rows; pending = pending; skip = 0 }

-- what is held stands for what is given, and can be settled
pub record Agrees (choices : List Choice) (rows : List Row) (pending : Option (Text × List Text)) (given : Given) : Type 0 where
  pub sound : settle_fault (rules_for choices) false (held_at rows pending) ≡ []
  pub same : map shown (settled_rows (rules_for choices) pending rows) ≡ map listed given

-- no option or flag has the name of the positional word, and letters are ASCII
pub record IsProper (choices : List Choice) : Type 0 where
  pub no_project : find (is_named (codes "project")) choices ≡ None
  pub low : (x : ℕ) → 128 ≤ x → find (has_letter x) choices ≡ None

-- the row of a use
abbrev pub row_new : Rule → List Text → Row
row_new a values = record { id = a.id; values = values; count = None; source = Some CommandLine; reading = reading_by a }

pub flag_used : (n : Text) (l : ℕ) (rows : List Row) → has_row n rows ≡ false →
    used (rule_built (flag n l)) [] rows ≡ rows ++ row_new (rule_built (flag n l)) (codes "true" ∷ []) ∷ []
flag_used n l rows e = ap (λ rs. with_values n (reading_by (rule_built (flag n l))) CommandLine (codes "true" ∷ []) rs) (without_new n rows e)
    ∙ at_row_new n (more_values CommandLine (codes "true" ∷ [])) _ rows e

pub value_used : (n : Text) (v : Text) (rows : List Row) → has_row n rows ≡ false →
    used (rule_built (valued n)) (v ∷ []) rows ≡ rows ++ row_new (rule_built (valued n)) (v ∷ []) ∷ []
value_used n v rows e = ap (λ rs. with_values n (reading_by (rule_built (valued n))) CommandLine (v ∷ []) rs) (without_new n rows e)
    ∙ at_row_new n (more_values CommandLine (v ∷ [])) _ rows e

pub project_used : (v : Text) (rows : List Row) → has_row (codes "project") rows ≡ false →
    used project_rule (v ∷ []) rows ≡ rows ++ row_new project_rule (v ∷ []) ∷ []
project_used v rows e = ap (λ rs. with_values (codes "project") (reading_by project_rule) CommandLine (v ∷ []) rs) (without_new (codes "project") rows e)
    ∙ at_row_new (codes "project") (more_values CommandLine (v ∷ [])) _ rows e

-- the rows stand for the given words, with one more
pub same_more : (rows : List Row) (given : Given) (name text : Text) (r : Row) → shown r ≡ listed (name, text) → map shown rows ≡ map listed given →
    map shown (rows ++ r ∷ []) ≡ map listed (given ++ (name, text) ∷ [])
same_more rows given name text r one e =
    map-append shown rows (r ∷ []) ∙ ap (λ l. l ++ shown r ∷ []) e ∙ ap (λ x. map listed given ++ x ∷ []) one ∙ sym (map-append listed given ((name, text) ∷ []))

-- ---- faults of a use

pub flag_use_new : (n : Text) (l : ℕ) (rows : List Row) → has_row n rows ≡ false → use_fault false (rule_built (flag n l)) [] rows ≡ []
unfolding clap_on_literals
flag_use_new n l rows e = rw e refl

pub flag_use_again : (n : Text) (l : ℕ) (rows : List Row) → has_row n rows ≡ true → use_fault false (rule_built (flag n l)) [] rows ≡ kind.ArgumentConflict ∷ []
unfolding clap_on_literals
flag_use_again n l rows e = rw e refl

pub value_use_new : (n v : Text) (rows : List Row) → has_row n rows ≡ false → use_fault false (rule_built (valued n)) (v ∷ []) rows ≡ []
unfolding clap_on_literals
value_use_new n v rows e = rw e refl

pub value_use_again : (n v : Text) (rows : List Row) → has_row n rows ≡ true → use_fault false (rule_built (valued n)) (v ∷ []) rows ≡ kind.ArgumentConflict ∷ []
unfolding clap_on_literals
value_use_again n v rows e = rw e refl

pub value_use_none : (n : Text) (rows : List Row) → use_fault false (rule_built (valued n)) [] rows ≡ kind.InvalidValue ∷ []
unfolding clap_on_literals
value_use_none n rows = refl

pub project_use_new : (v : Text) (rows : List Row) → has_row (codes "project") rows ≡ false → use_fault false project_rule (v ∷ []) rows ≡ []
unfolding clap_on_literals
project_use_new v rows e = rw e refl

-- ---- or_else

pub or_else_none : (ks : Kinds) → or_else ks [] ≡ ks
or_else_none [] = refl
or_else_none (k ∷ ks) = refl

pub or_else_left : (ks next : Kinds) → or_else ks next ≡ [] → ks ≡ []
or_else_left [] next e = refl
or_else_left (k ∷ ks) next e = e

pub or_else_right : (ks next : Kinds) → or_else ks next ≡ [] → next ≡ []
or_else_right [] next e = e
or_else_right (k ∷ ks) next e = grind (arith, e)

pub or_else_both : (ks next : Kinds) → ks ≡ [] → next ≡ [] → or_else ks next ≡ []
or_else_both ks next e f = rw (e, f) refl

pub no_kinds : {A : Type 0} (k : ErrorKind) (ks : Kinds) → (k ∷ ks) ≡ [] → A
no_kinds k ks e = absurd (grind (arith, e))

-- ---- agreement after a use

module _ (choices : List Choice) (rows : List Row) (pending : Option (Text × List Text)) (given : Given) (agrees : Agrees choices rows pending given) where
  abbrev settled_now : List Row
  settled_now = settled_rows (rules_for choices) pending rows

  pub flag_fault_new : (n : Text) (l : ℕ) → is_given n given ≡ false → react_fault (rules_for choices) false (rule_built (flag n l)) [] (held_at rows pending) ≡ []
  flag_fault_new n l new = or_else_both _ _ agrees.sound (flag_use_new n l settled_now (has_given n settled_now given agrees.same ∙ new))

  pub flag_fault_again : (n : Text) (l : ℕ) → is_given n given ≡ true → react_fault (rules_for choices) false (rule_built (flag n l)) [] (held_at rows pending) ≡ [] → ⊥
  flag_fault_again n l again e = no_kinds _ _ (sym (flag_use_again n l settled_now (has_given n settled_now given agrees.same ∙ again)) ∙ or_else_right _ _ e)

  pub flag_agrees : (n : Text) (l : ℕ) → is_given n given ≡ false → Agrees choices (used (rule_built (flag n l)) [] settled_now) None (given ++ (n, codes "true") ∷ [])
  flag_agrees n l new = record {
    sound = refl;
    same = ap (map shown) (flag_used n l settled_now (has_given n settled_now given agrees.same ∙ new)) ∙ same_more settled_now given n (codes "true") _ refl agrees.same;
  }

  pub value_fault_new : (n v : Text) → is_given n given ≡ false → react_fault (rules_for choices) false (rule_built (valued n)) (v ∷ []) (held_at rows pending) ≡ []
  value_fault_new n v new = or_else_both _ _ agrees.sound (value_use_new n v settled_now (has_given n settled_now given agrees.same ∙ new))

  pub value_fault_again : (n v : Text) → is_given n given ≡ true → react_fault (rules_for choices) false (rule_built (valued n)) (v ∷ []) (held_at rows pending) ≡ [] → ⊥
  value_fault_again n v again e = no_kinds _ _ (sym (value_use_again n v settled_now (has_given n settled_now given agrees.same ∙ again)) ∙ or_else_right _ _ e)

  pub value_agrees : (n v : Text) → is_given n given ≡ false → Agrees choices (used (rule_built (valued n)) (v ∷ []) settled_now) None (given ++ (n, v) ∷ [])
  value_agrees n v new = record {
    sound = refl;
    same = ap (map shown) (value_used n v settled_now (has_given n settled_now given agrees.same ∙ new)) ∙ same_more settled_now given n v _ refl agrees.same;
  }

  -- the positional word is pending
  pub project_agrees : (v : Text) → IsProper choices → is_given (codes "project") given ≡ false → Agrees choices settled_now (Some (codes "project", v ∷ [])) (given ++ (codes "project", v) ∷ [])
  project_agrees v proper new =
      let rule : arg_by_id (rules_for choices) (codes "project") ≡ Some project_rule =
      by_id choices (codes "project") ∙ ap (λ o. found_or rule_built o (arg_by_id (project_rule ∷ []) (codes "project"))) proper.no_project in
      let free = has_given (codes "project") settled_now given agrees.same ∙ new in
      record {
        sound = rw rule (project_use_new v settled_now free);
        same = rw rule (ap (map shown) (project_used v settled_now free) ∙ same_more settled_now given (codes "project") v _ refl agrees.same);
      }

-- an option waits for its value
pub record Awaits (choices : List Choice) (rows : List Row) (given : Given) (name : Text) : Type 0 where
  pub same : map shown rows ≡ map listed given
  pub choice : find (is_named name) choices ≡ Some (valued name)

module _ (choices : List Choice) (rows : List Row) (given : Given) (name : Text) (awaits : Awaits choices rows given name) where
  pub awaited_rule : arg_by_id (rules_for choices) name ≡ Some (rule_built (valued name))
  awaited_rule = by_id choices name ∙ ap (λ o. found_or rule_built o (arg_by_id (project_rule ∷ []) name)) awaits.choice

  pub awaited_fault : settle_fault (rules_for choices) false (held_at rows (Some (name, []))) ≡ [] → ⊥
  awaited_fault e = no_kinds _ _ (sym (value_use_none name rows) ∙ subst (λ (o : Option Rule). option_map_or (λ a. use_fault false a [] rows) o [] ≡ []) awaited_rule e)

  pub awaited_agrees : (v : Text) → is_given name given ≡ false → Agrees choices rows (Some (name, v ∷ [])) (given ++ (name, v) ∷ [])
  awaited_agrees v new =
      let free = has_given name rows given awaits.same ∙ new in
      record {
        sound = rw awaited_rule (value_use_new name v rows free);
        same = rw awaited_rule (ap (map shown) (value_used name v rows free) ∙ same_more rows given name v _ refl awaits.same);
      }

  pub awaited_again : (v : Text) → is_given name given ≡ true → settle_fault (rules_for choices) false (held_at rows (Some (name, v ∷ []))) ≡ [] → ⊥
  awaited_again v again e =
      no_kinds _ _ (sym (value_use_again name v rows (has_given name rows given awaits.same ∙ again))
      ∙ subst (λ (o : Option Rule). option_map_or (λ a. use_fault false a (v ∷ []) rows) o [] ≡ []) awaited_rule e)
