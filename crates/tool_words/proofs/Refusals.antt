-- Where what is pending cannot be settled, each word that comes has a fault or leaves it so.
use Rattle.std.proofs.Common.{◌≡◌, ◌<◌, ◌==◌, ℕ, zero, suc, Bool, true, false, is_some, cond, List, [], ◌∷◌, length, Option, None, Some, find, encode_utf8_all, IsUtf8, refl, ap, sym, subst, ◌∙◌, inr, arith}
use Rattle.std.specs.Option.{option_map_or}
use Rattle.std.proofs.lemmas.Str.{IsUtf8-past_char}
use Rattle.clap.specs.Kinds.{Kinds, or_else}
use Rattle.clap.specs.Walk.{Held, Rule, Row, Text, Waiting, idle, option, Walk, Outcome, done, plain, arg_by_id, arg_by_index, arg_by_long, bundle, bundle_met, reacted, attached_value, takes_values, settled, settled_rows, used, walked, after_step, after_flag, long_met, to_positional, is_pending, takes_several, positional_held, word_met}
use Rattle.clap.specs.Walk as cw
use Rattle.clap.specs.Faults.{turn_fault, word_fault, settle_fault, long_fault, step_fault, flags_fault, positional_fault, stray_fault, short_fault, react_fault, option_fault}
use Rattle.clap.specs.declared.error.kind.ErrorKind.TheVariants as kind
use Rattle.clap.proofs.OnLiterals.{clap_on_literals}
use Rattle.tool_words.specs.Choices.{Choice, has_letter}
use Rattle.tool_words.specs.Walks.{Given, Reading, Form, end_mark, long_word, letters, is_given, put, with_text, form_of, long_form, read_letters, read_long, read_form, read_value, read_open, read_word, ◌>>=◌}
use Rattle.tool_words.specs.Walks as w
use Rattle.tool_words.proofs.Rules.{rule_built, project_rule, rules_for, shape_for, found_or, by_index, and_false}
use Rattle.tool_words.proofs.Uses.{held_at, no_kinds, or_else_left, or_else_right}
use Rattle.tool_words.proofs.Letters.{fault_is}
use Rattle.tool_words.proofs.Steps.{IsRead, walk_at, Doomed}
use Rattle.std.specs.Str.{all_scalars}

pub no_subcommand : (waiting : Waiting) (word : Text) → cw.subcommand_met [] waiting word ≡ None
no_subcommand idle word = refl
no_subcommand (option name) word = refl
no_subcommand cw.positional word = refl

module _ (choices : List Choice) (rows : List Row) (pending : Option (Text × List Text)) (bad : settle_fault (rules_for choices) false (held_at rows pending) ≡ [] → ⊥) where
  abbrev h : Held
  h = held_at rows pending

  option_bad : (a : Rule) (value : Option Text) → option_fault (rules_for choices) false a value h ≡ [] → ⊥
  option_bad a None e = bad e
  option_bad a (Some v) e = bad (or_else_left _ _ e)

  pub long_bad : (found : Option Rule) (value : Option Text) → long_fault (rules_for choices) false found value h ≡ [] → ⊥
  long_bad None value e = no_kinds _ _ e
  long_bad (Some a) value e =
      elim (takes_values a) as (λ b. cond b (option_fault (rules_for choices) false a value h) (cond (is_some value) (kind.TooManyValues ∷ []) (react_fault (rules_for choices) false a [] h)) ≡ [] → ⊥) [
        | true ↦ option_bad a value
        | false ↦ elim value as (λ v. cond (is_some v) (kind.TooManyValues ∷ []) (react_fault (rules_for choices) false a [] h) ≡ [] → ⊥) [
          | None ↦ λ k. bad (or_else_left _ _ k)
          | Some v ↦ λ k. no_kinds _ _ k
        ]
      ] e

  short_bad : (found : Option Rule) (rest : Text) (next : Held → Kinds) → short_fault (rules_for choices) false found rest h next ≡ [] → ⊥
  short_bad None rest next e = no_kinds _ _ e
  short_bad (Some a) rest next e =
      elim (takes_values a) as (λ b. cond b (option_fault (rules_for choices) false a (attached_value rest) h) (or_else (react_fault (rules_for choices) false a [] h) (next (reacted (rules_for choices) a [] h))) ≡ [] → ⊥) [
        | true ↦ option_bad a (attached_value rest)
        | false ↦ λ k. bad (or_else_left _ _ (or_else_left _ _ k))
      ] e

  letters_bad_by : (xs : List ℕ) → all_scalars xs ≡ true → (k : ℕ) → 0 < k → 0 < length (encode_utf8_all xs) → flags_fault (rules_for choices) false k (encode_utf8_all xs) 0 h ≡ [] → ⊥
  letters_bad_by xs scalar zero some long e = absurd (omega (arith, some))
  letters_bad_by [] scalar (suc k) some long e = absurd (omega (arith, long))
  letters_bad_by (x ∷ xs) scalar (suc k) some long e = short_bad (found_or rule_built (find (has_letter x) choices) None) (encode_utf8_all xs) (flags_fault (rules_for choices) false k (encode_utf8_all xs) 0) (sym (fault_is choices x xs scalar k rows pending) ∙ e)

  pub letters_bad : (flags : Text) → IsUtf8 flags → 0 < length flags → flags_fault (rules_for choices) false (length flags) flags 0 h ≡ [] → ⊥
  letters_bad flags u long e =
      letters_bad_by u.0 u.1.0 (length flags) long (omega (arith, long, ap length u.1.1)) (ap (λ l. flags_fault (rules_for choices) false (length flags) l 0 h) u.1.1 ∙ e)

  positional_bad_by : (b : Bool) → option_map_or (λ a. positional_fault (rules_for choices) false a h) (cond b (Some project_rule) None) (stray_fault (shape_for choices)) ≡ [] → ⊥
  positional_bad_by true e = bad (sym (ap (λ b. cond b [] (settle_fault (rules_for choices) false h)) (and_false (is_pending project_rule pending))) ∙ e)
  positional_bad_by false e = no_kinds _ _ e

  pub positional_bad : (position : ℕ) → step_fault (shape_for choices) position h cw.value ≡ [] → ⊥
  positional_bad position e =
      positional_bad_by (1 == position) (sym (ap (λ o. option_map_or (λ a. positional_fault (rules_for choices) false a h) o (stray_fault (shape_for choices))) (by_index choices position)) ∙ e)

  module _ (word : Text) (utf8 : IsUtf8 word) (waiting : Waiting) (position : ℕ) where
    -- a word that `--` does not stand before
    pub word_bad : (form : Form) → IsRead word form → ((form ≡ w.plain) → waiting ≡ idle) →
        turn_fault (shape_for choices) [] (walk_at h waiting position false) word ≡ [] → Doomed choices (walked (rules_for choices) [] (walk_at h waiting position false) word)
    unfolding clap_on_literals
    word_bad end_mark read calm fault = (rows, (pending, (waiting, (position, (true, (rw (no_subcommand waiting word, read) refl, (bad, inr refl)))))))
    word_bad (long_word name given) read calm fault =
        let is : word_fault (shape_for choices) [] false waiting word h ≡ long_fault (rules_for choices) false (arg_by_long (rules_for choices) name) given h =
        rw (no_subcommand waiting word, read.0, read.1) refl in
        absurd (long_bad (arg_by_long (rules_for choices) name) given (sym is ∙ or_else_left _ _ fault))
    word_bad (letters flags) read calm fault =
        let is : word_fault (shape_for choices) [] false waiting word h ≡ flags_fault (rules_for choices) false (length flags) flags 0 h =
        rw (no_subcommand waiting word, read.0, read.1, read.2) refl in
        absurd (letters_bad flags (IsUtf8-past_char word flags 45 utf8 read.3) read.4 (sym is ∙ or_else_left _ _ fault))
    word_bad w.plain read calm fault =
        let met : word_met (rules_for choices) [] false waiting position word h ≡ (h, cw.value) =
        ap (λ x. word_met (rules_for choices) [] false x position word h) (calm refl) ∙ rw (read.0, read.1, read.2) refl in
        absurd (positional_bad position (subst (λ m. step_fault (shape_for choices) position m.0 m.1 ≡ []) met (or_else_right _ _ fault)))

  pub trailing_bad : (word : Text) (waiting : Waiting) (position : ℕ) → turn_fault (shape_for choices) [] (walk_at h waiting position true) word ≡ [] → ⊥
  trailing_bad word waiting position fault = positional_bad position fault
