-- Which rule of the built command a name, a letter, an id or a place finds, and what the rows tell.
use Rattle.std.proofs.Common.{◌≡◌, ◌==◌, ◌&&◌, ◌||◌, ℕ, Bool, true, false, not, is_some, cond, if◌then◌else◌, List, [], ◌∷◌, ◌++◌, map, Option, None, Some, find, bytes_eq, codes, refl, ap, sym, ◌∙◌, arith}
use Rattle.std.specs.List.{list_any}
use Rattle.std.specs.Option.{option_map_or}
use Rattle.std.proofs.lemmas.Slice.Eq.{bytes_eq-Decides}
use Rattle.clap.specs.Walk.{Rule, Row, Text, arg_by_id, arg_by_long, arg_by_short, arg_by_index, has_row, has_long, has_short, at_row, without}
use Rattle.clap.specs.Simple.{App, Shape, new_rule, new_shape, filled, with_index, built}
use Rattle.clap.proofs.OnLiterals.{clap_on_literals}
use Rattle.lift_core.specs.declared.Tool.{Tool}
use Rattle.lift_core.specs.declared.Tool.TheVariants.{Graver, Hilbert, Zsolve}
use Rattle.tool_words.specs.Choices.{Choice, flag, valued, is_named, has_letter, choices_of}
use Rattle.tool_words.specs.Walks.{Given, is_given}
use Rattle.tool_words.specs.Inside.Commands.{command_for, rule_for}

-- ---- the built command

abbrev pub rule_built : Choice → Rule
rule_built choice = with_index 1 (filled (rule_for choice))

abbrev pub project_rule : Rule
project_rule = with_index 1 (filled (new_rule (codes "project")))

abbrev pub rules_for : List Choice → List Rule
rules_for choices = map rule_built choices ++ project_rule ∷ []

abbrev pub shape_for : List Choice → Shape
shape_for choices = record (new_shape (codes "command")) {
  rules = rules_for choices;
  no_binary_name = true;
  disable_help_flag = true;
  disable_help_subcommand = true;
  is_built = true;
}

abbrev pub app_for : List Choice → App
app_for choices = record { top = shape_for choices; subs = [] }

pub command_built : (tool : Tool) → built (command_for tool) ≡ app_for (choices_of tool)
unfolding clap_on_literals command_for
command_built Graver = refl
command_built Hilbert = refl
command_built Zsolve = refl

-- ---- what is found

abbrev pub found_or : {A B : Type 0} → (A → B) → Option A → Option B → Option B
found_or f (Some x) other = Some (f x)
found_or f None other = other

pub or_false : (b : Bool) → b || false ≡ b
or_false true = refl
or_false false = refl

pub and_false : (b : Bool) → b && false ≡ false
and_false true = refl
and_false false = refl

pub find_mapped : {A B : Type 0} (f : A → B) (p : B → Bool) (q : A → Bool) (last : List B) → ((x : A) → p (f x) ≡ q x) → (xs : List A) →
    find p (map f xs ++ last) ≡ found_or f (find q xs) (find p last)
find_mapped f p q last same [] = refl
find_mapped f p q last same (x ∷ xs) =
    let later = find_mapped f p q last same xs in
    elim (q x) as (λ b. p (f x) ≡ b → cond (p (f x)) (Some (f x)) (find p (map f xs ++ last)) ≡ found_or f (cond b (Some x) (find q xs)) (find p last)) [
      | true ↦ λ e. rw e refl
      | false ↦ λ e. rw e later
    ] (same x)

pub find_passes : {A : Type 0} (q : A → Bool) (x : A) (xs : List A) → find q xs ≡ Some x → q x ≡ true
find_passes q x [] e = grind (arith, e)
find_passes q x (y ∷ ys) e =
    elim (q y) as (λ b. q y ≡ b → cond b (Some y) (find q ys) ≡ Some x → q x ≡ true) [
      | true ↦ λ t h. grind (arith, t, h)
      | false ↦ λ t h. find_passes q x ys h
    ] refl e

find_never : {A : Type 0} (xs : List A) → find (λ (x : A). false) xs ≡ None
find_never [] = refl
find_never (x ∷ xs) = find_never xs

has_long_built : (name : Text) (choice : Choice) → not (is_some (rule_built choice).index) && has_long (rule_built choice) name ≡ is_named name choice
has_long_built name (flag n l) = or_false (bytes_eq n name)
has_long_built name (valued n) = or_false (bytes_eq n name)

has_short_built : (x : ℕ) (choice : Choice) → not (is_some (rule_built choice).index) && has_short (rule_built choice) x ≡ has_letter x choice
has_short_built x (flag n l) = or_false (l == x)
has_short_built x (valued n) = refl

has_id_built : (id : Text) (choice : Choice) → bytes_eq (rule_built choice).id id ≡ is_named id choice
has_id_built id (flag n l) = refl
has_id_built id (valued n) = refl

pub by_long : (choices : List Choice) (name : Text) → arg_by_long (rules_for choices) name ≡ found_or rule_built (find (is_named name) choices) None
by_long choices name = find_mapped rule_built _ (is_named name) (project_rule ∷ []) (has_long_built name) choices

pub by_short : (choices : List Choice) (x : ℕ) → arg_by_short (rules_for choices) x ≡ found_or rule_built (find (has_letter x) choices) None
by_short choices x = find_mapped rule_built _ (has_letter x) (project_rule ∷ []) (has_short_built x) choices

pub by_id : (choices : List Choice) (id : Text) → arg_by_id (rules_for choices) id ≡ found_or rule_built (find (is_named id) choices) (arg_by_id (project_rule ∷ []) id)
by_id choices id = find_mapped rule_built _ (is_named id) (project_rule ∷ []) (has_id_built id) choices

no_index_built : (i : ℕ) (choice : Choice) → option_map_or (λ k. k == i) (rule_built choice).index false ≡ false
no_index_built i (flag n l) = refl
no_index_built i (valued n) = refl

pub by_index : (choices : List Choice) (i : ℕ) → arg_by_index (rules_for choices) i ≡ (if 1 == i then Some project_rule else None)
by_index choices i =
    find_mapped rule_built _ (λ _. false) (project_rule ∷ []) (no_index_built i) choices
    ∙ ap (λ o. found_or rule_built o (arg_by_index (project_rule ∷ []) i)) (find_never choices)

-- ---- rows

abbrev pub shown : Row → Text × List Text
shown r = (r.id, r.values)

abbrev pub listed : Text × Text → Text × List Text
listed g = (g.0, g.1 ∷ [])

has_shown : (id : Text) (rows : List Row) → has_row id rows ≡ list_any (λ (p : Text × List Text). bytes_eq p.0 id) (map shown rows)
has_shown id [] = refl
has_shown id (r ∷ rs) = ap (λ b. bytes_eq r.id id || b) (has_shown id rs)

given_listed : (id : Text) (given : Given) → is_given id given ≡ list_any (λ (p : Text × List Text). bytes_eq p.0 id) (map listed given)
given_listed id [] = refl
given_listed id (g ∷ gs) = ap (λ b. bytes_eq g.0 id || b) (given_listed id gs)

-- a row is there exactly where its name is given
pub has_given : (id : Text) (rows : List Row) (given : Given) → map shown rows ≡ map listed given → has_row id rows ≡ is_given id given
has_given id rows given e = has_shown id rows ∙ ap (list_any (λ (p : Text × List Text). bytes_eq p.0 id)) e ∙ sym (given_listed id given)

pub at_row_new : (id : Text) (change : Row → List Row) (new rows : List Row) → has_row id rows ≡ false → at_row id change new rows ≡ rows ++ new
at_row_new id change new [] e = refl
at_row_new id change new (r ∷ rs) e =
    elim (bytes_eq r.id id) as (λ b. b || has_row id rs ≡ false → cond b (change r ++ rs) (r ∷ at_row id change new rs) ≡ r ∷ (rs ++ new)) [
      | true ↦ λ h. grind (arith, h)
      | false ↦ λ h. ap (λ l. r ∷ l) (at_row_new id change new rs h)
    ] e

append_none : (rows : List Row) → rows ++ [] ≡ rows
append_none [] = refl
append_none (r ∷ rs) = ap (λ l. r ∷ l) (append_none rs)

pub without_new : (id : Text) (rows : List Row) → has_row id rows ≡ false → without id rows ≡ rows
without_new id rows e = at_row_new id (λ _. []) [] rows e ∙ append_none rows

pub same_text : (u v : Text) → bytes_eq u v ≡ true → u ≡ v
same_text u v e = (bytes_eq-Decides u v).0 e
