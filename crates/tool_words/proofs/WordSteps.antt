-- Each word is taken or refused by both walks alike.
use Rattle.std.proofs.Common.{◌≡◌, ℕ, Bool, true, false, cond, List, [], ◌∷◌, ◌++◌, length, Option, None, Some, find, bytes_eq, encode_utf8_all, IsUtf8, codes, refl, ap, sym, subst, ◌∙◌, ◌⊎◌, inl, inr, arith}
use Rattle.std.proofs.lemmas.Str.{IsUtf8-past_char}
use Rattle.std.proofs.lemmas.Slice.Eq.{bytes_eq-Decides}
use Rattle.clap.specs.Kinds.{or_else}
use Rattle.clap.specs.Walk.{Held, Rule, Row, Text, Waiting, idle, option, Walk, Outcome, done, plain, arg_by_id, arg_by_index, arg_by_long, bundle, bundle_met, settled, settled_rows, used, walked, after_step, after_flag, long_met, to_positional, is_pending, takes_several, positional_held, word_met}
use Rattle.clap.specs.Walk as cw
use Rattle.clap.specs.Faults.{turn_fault, long_fault, step_fault, flags_fault, react_fault}
use Rattle.clap.proofs.OnLiterals.{clap_on_literals}
use Rattle.tool_words.specs.Choices.{Choice, flag, valued, is_named}
use Rattle.tool_words.specs.Walks.{Given, Reading, Form, end_mark, long_word, letters, is_given, put, with_text, form_of, long_form, read_letters, read_long, read_form, read_value, read_open, read_word, ◌>>=◌}
use Rattle.tool_words.specs.Walks as w
use Rattle.tool_words.proofs.Rules.{rule_built, rules_for, shape_for, found_or, by_long, same_text, find_passes}
use Rattle.tool_words.proofs.Uses.{Agrees, Awaits, IsProper, held_at, no_kinds, or_else_none, or_else_both, or_else_left, awaited_agrees, awaited_again, awaited_fault, awaited_rule, flag_agrees, flag_fault_new, flag_fault_again, value_agrees, value_fault_new, value_fault_again}
use Rattle.tool_words.proofs.Letters.{LettersCome, letters_come, find_other, project_stays}
use Rattle.tool_words.proofs.Steps.{IsRead, is_read, walk_at, position_of, StandsBy, Doomed, WordComes, positional_comes}
use Rattle.std.specs.Str.{all_scalars}
use Rattle.tool_words.proofs.Refusals.{word_bad, trailing_bad}

-- ---- an option's value

module _ (choices : List Choice) (proper : IsProper choices) (rows : List Row) (given : Given) (name : Text) (awaits : Awaits choices rows given name) (word : Text) where
  abbrev waits_here : Walk
  waits_here = walk_at (held_at rows (Some (name, []))) (option name) (position_of given) false

  abbrev waits_reading : Reading
  waits_reading = record { given = given; awaited = Some name; is_ended = false }

  own_name : bytes_eq name name ≡ true
  own_name = (bytes_eq-Decides name name).1 refl

  value_comes : IsRead word w.plain → WordComes choices waits_here word (with_text name word waits_reading)
  unfolding walked
  value_comes read =
      let quiet : turn_fault (shape_for choices) [] waits_here word ≡ [] = rw (read.0, read.1, read.2) refl in
      let moves : walked (rules_for choices) [] waits_here word ≡ walk_at (held_at rows (Some (name, word ∷ []))) idle (position_of given) false =
      rw (read.0, read.1, read.2, awaited_rule choices rows given name awaits, own_name) refl in
      elim (is_given name given) as (λ b. is_given name given ≡ b → WordComes choices waits_here word ((cond b None (Some (given ++ (name, word) ∷ []))) >>= (λ more. Some (record { given = more; awaited = None; is_ended = false })))) [
        | true ↦ λ again. λ fault. (rows, (Some (name, word ∷ []), (idle, (position_of given, (false, (moves, (awaited_again choices rows given name awaits word again, inl refl)))))))
        | false ↦ λ new. (
          quiet,
          (
            rows,
            (
              Some (name, word ∷ []),
              (
                moves ∙ ap (λ b. walk_at (held_at rows (Some (name, word ∷ []))) idle (cond b 2 1) false)
                    (sym (project_stays given name word (find_other (is_named (codes "project")) (is_named name) (valued name) choices proper.no_project awaits.choice))),
                awaited_agrees choices rows given name awaits word new,
              ),
            ),
          ),
        )
      ] refl

  pub awaited_comes : IsUtf8 word → (form : Form) → IsRead word form → WordComes choices waits_here word (read_value name form word waits_reading)
  awaited_comes utf8 w.plain read = value_comes read
  awaited_comes utf8 end_mark read = word_bad choices rows (Some (name, [])) (awaited_fault choices rows given name awaits) word utf8 (option name) (position_of given) end_mark read (λ e. absurd (grind (arith, e)))
  awaited_comes utf8 (long_word long text) read = word_bad choices rows (Some (name, [])) (awaited_fault choices rows given name awaits) word utf8 (option name) (position_of given) (long_word long text) read (λ e. absurd (grind (arith, e)))
  awaited_comes utf8 (letters flags) read = word_bad choices rows (Some (name, [])) (awaited_fault choices rows given name awaits) word utf8 (option name) (position_of given) (letters flags) read (λ e. absurd (grind (arith, e)))

-- ---- a word where nothing is awaited

module _ (choices : List Choice) (proper : IsProper choices) (rows : List Row) (pending : Option (Text × List Text)) (given : Given) (agrees : Agrees choices rows pending given) (word : Text) where
  abbrev here : Walk
  here = walk_at (held_at rows pending) idle (position_of given) false

  abbrev reading : Reading
  reading = record { given = given; awaited = None; is_ended = false }

  abbrev settled_now : List Row
  settled_now = settled_rows (rules_for choices) pending rows

  -- a flag or an option with its value, of a name that was not given before
  taken_once : (name text : Text) (a : Rule) (values : List Text) → is_named (codes "project") (valued name) ≡ false →
      turn_fault (shape_for choices) [] here word ≡ or_else (react_fault (rules_for choices) false a values (held_at rows pending)) [] →
      walked (rules_for choices) [] here word ≡ walk_at (held_at (used a values settled_now) None) idle (position_of given) false →
      (is_given name given ≡ true → react_fault (rules_for choices) false a values (held_at rows pending) ≡ [] → ⊥) →
      (is_given name given ≡ false → (react_fault (rules_for choices) false a values (held_at rows pending) ≡ []) × Agrees choices (used a values settled_now) None (given ++ (name, text) ∷ [])) →
      WordComes choices here word (with_text name text reading)
  taken_once name text a values other turn moves twice once =
      elim (is_given name given) as (λ b. is_given name given ≡ b → WordComes choices here word ((cond b None (Some (given ++ (name, text) ∷ []))) >>= (λ more. Some (record { given = more; awaited = None; is_ended = false })))) [
        | true ↦ λ again. λ fault. absurd (twice again (or_else_left _ _ (sym turn ∙ fault)))
        | false ↦ λ new. (
          turn ∙ or_else_none _ ∙ (once new).0,
          (
            used a values settled_now,
            (
              None,
              (
                moves ∙ ap (λ b. walk_at (held_at (used a values settled_now) None) idle (cond b 2 1) false) (sym (project_stays given name text other)),
                (once new).1,
              ),
            ),
          ),
        )
      ] refl

  module _ (name : Text) (given_value : Option Text) (read : IsRead word (long_word name given_value)) where
    abbrev met : Option Choice → Held × cw.Step
    met found = after_flag (rules_for choices) idle word (long_met (rules_for choices) (found_or rule_built found None) given_value (held_at rows pending)).0
        (long_met (rules_for choices) (found_or rule_built found None) given_value (held_at rows pending)).1

    long_turn : (found : Option Choice) → find (is_named name) choices ≡ found → turn_fault (shape_for choices) [] here word
        ≡ or_else (long_fault (rules_for choices) false (found_or rule_built found None) given_value (held_at rows pending)) (step_fault (shape_for choices) (position_of given) (met found).0 (met found).1)
    long_turn found is = rw (read.0, read.1, by_long choices name, is) refl

    long_moves : (found : Option Choice) → find (is_named name) choices ≡ found → walked (rules_for choices) [] here word ≡ after_step (rules_for choices) word here (met found).0 (met found).1
    unfolding walked
    long_moves found is = rw (read.0, read.1, by_long choices name, is) refl

  long_comes : (name : Text) (given_value : Option Text) → IsRead word (long_word name given_value) → (found : Option Choice) → find (is_named name) choices ≡ found →
      WordComes choices here word (read_long found given_value reading)
  long_comes name given_value read None is = λ fault. no_kinds _ _ (sym (long_turn name given_value read None is) ∙ fault)
  long_comes name (Some v) read (Some (flag n l)) is = λ fault. no_kinds _ _ (sym (long_turn name (Some v) read (Some (flag n l)) is) ∙ fault)
  long_comes name None read (Some (flag n l)) is =
      taken_once n (codes "true") (rule_built (flag n l)) [] (find_other (is_named (codes "project")) (is_named name) (flag n l) choices proper.no_project is)
      (long_turn name None read (Some (flag n l)) is) (long_moves name None read (Some (flag n l)) is)
      (flag_fault_again choices rows pending given agrees n l)
      (λ new. (flag_fault_new choices rows pending given agrees n l new, flag_agrees choices rows pending given agrees n l new))
  long_comes name (Some v) read (Some (valued n)) is =
      taken_once n v (rule_built (valued n)) (v ∷ []) (find_other (is_named (codes "project")) (is_named name) (valued n) choices proper.no_project is)
      (long_turn name (Some v) read (Some (valued n)) is) (long_moves name (Some v) read (Some (valued n)) is)
      (value_fault_again choices rows pending given agrees n v)
      (λ new. (value_fault_new choices rows pending given agrees n v new, value_agrees choices rows pending given agrees n v new))
  long_comes name None read (Some (valued n)) is = (
    long_turn name None read (Some (valued n)) is ∙ or_else_none _ ∙ agrees.sound,
    (
      settled_now,
      (
        refl,
        (
          long_moves name None read (Some (valued n)) is,
          record {
            same = agrees.same;
            choice = subst (λ t. find (is_named t) choices ≡ Some (valued n)) (sym (same_text n name (find_passes (is_named name) (valued n) choices is))) is;
          },
        ),
      ),
    ),
  )

  -- ---- letters

  module _ (flags : Text) (read : IsRead word (letters flags)) where
    abbrev bundled : Held × Outcome → Held × cw.Step
    bundled m = after_flag (rules_for choices) idle word m.0 m.1

    abbrev bundle_of : Text → Held × Outcome
    bundle_of l = bundle_met (rules_for choices) (length flags) l 0 plain (held_at rows pending)

    letters_turn : turn_fault (shape_for choices) [] here word
        ≡ or_else (flags_fault (rules_for choices) false (length flags) flags 0 (held_at rows pending)) (step_fault (shape_for choices) (position_of given) (bundled (bundle_of flags)).0 (bundled (bundle_of flags)).1)
    letters_turn = rw (read.0, read.1, read.2) refl

    letters_moves : walked (rules_for choices) [] here word ≡ after_step (rules_for choices) word here (bundled (bundle_of flags)).0 (bundled (bundle_of flags)).1
    unfolding walked
    letters_moves = rw (read.0, read.1, read.2) refl

    letters_by : (x : ℕ) (xs : List ℕ) → encode_utf8_all (x ∷ xs) ≡ flags → (got : Option Given) →
        LettersCome choices (length flags) (x ∷ xs) plain rows pending given got → WordComes choices here word (got >>= (λ more. Some (record reading { given = more })))
    letters_by x xs spelt None come = λ fault. absurd (come (ap (λ l. flags_fault (rules_for choices) false (length flags) l 0 (held_at rows pending)) spelt ∙ or_else_left _ _ (sym letters_turn ∙ fault)))
    letters_by x xs spelt (Some more) come =
        let is : bundle_of flags ≡ (held_at come.1.0 come.1.1.0, done) = ap bundle_of (sym spelt) ∙ come.1.1.1.0 in (
          letters_turn ∙ or_else_both _ _ (ap (λ l. flags_fault (rules_for choices) false (length flags) l 0 (held_at rows pending)) (sym spelt) ∙ come.0)
              (ap (λ m. step_fault (shape_for choices) (position_of given) (bundled m).0 (bundled m).1) is),
          (
            come.1.0,
            (
              come.1.1.0,
              (
                letters_moves ∙ ap (λ m. after_step (rules_for choices) word here (bundled m).0 (bundled m).1) is
                    ∙ ap (λ b. walk_at (held_at come.1.0 come.1.1.0) idle (cond b 2 1) false) (sym come.1.1.1.1.1),
                come.1.1.1.1.0,
              ),
            ),
          ),
        )

    letters_spelt : (xs : List ℕ) → all_scalars xs ≡ true → encode_utf8_all xs ≡ flags → WordComes choices here word (read_form choices (letters flags) word reading)
    letters_spelt [] scalar spelt = absurd (omega (arith, read.4, ap length spelt))
    letters_spelt (x ∷ xs) scalar spelt = letters_by x xs spelt _
        (subst (λ l. LettersCome choices (length flags) (x ∷ xs) plain rows pending given (read_letters choices l given)) spelt
        (letters_come choices proper (x ∷ xs) scalar (length flags) (omega (arith, ap length spelt)) plain rows pending given agrees))

  letters_comes : IsUtf8 word → (flags : Text) → IsRead word (letters flags) → WordComes choices here word (read_form choices (letters flags) word reading)
  unfolding clap_on_literals
  letters_comes utf8 flags read =
      let u = IsUtf8-past_char word flags 45 utf8 read.3 in
      letters_spelt flags read u.0 u.1.0 u.1.1

  pub open_comes : IsUtf8 word → (form : Form) → IsRead word form → WordComes choices here word (read_form choices form word reading)
  unfolding walked
  open_comes utf8 w.plain read = positional_comes choices proper rows pending given agrees word false (rw (read.0, read.1, read.2) refl) (rw (read.0, read.1, read.2) refl)
  open_comes utf8 end_mark read = (rw read refl, (rows, (pending, (rw read refl, agrees))))
  open_comes utf8 (long_word name text) read = long_comes name text read (find (is_named name) choices) refl
  open_comes utf8 (letters flags) read = letters_comes utf8 flags read

-- ---- any word

pub word_comes : (choices : List Choice) → IsProper choices → (word : Text) → IsUtf8 word → (walk : Walk) (given : Given) (awaited : Option Text) (ended : Bool) →
    StandsBy choices walk given awaited ended → WordComes choices walk word (read_word choices word (record { given = given; awaited = awaited; is_ended = ended }))
unfolding walked
word_comes choices proper word utf8 walk given None true stands =
    subst (λ m. WordComes choices m word (read_word choices word (record { given = given; awaited = None; is_ended = true }))) (sym stands.1.1.0)
    (positional_comes choices proper stands.0 stands.1.0 given stands.1.1.1 word true refl refl)
word_comes choices proper word utf8 walk given (Some name) true stands = absurd (grind (arith, stands.1.0))
word_comes choices proper word utf8 walk given None false stands =
    subst (λ m. WordComes choices m word (read_word choices word (record { given = given; awaited = None; is_ended = false }))) (sym stands.1.1.0)
    (open_comes choices proper stands.0 stands.1.0 given stands.1.1.1 word utf8 (form_of word) (is_read word))
word_comes choices proper word utf8 walk given (Some name) false stands =
    subst (λ m. WordComes choices m word (read_word choices word (record { given = given; awaited = Some name; is_ended = false }))) (sym stands.1.1.0)
    (awaited_comes choices proper stands.0 given name stands.1.1.1 word utf8 (form_of word) (is_read word))

pub doomed_comes : (choices : List Choice) (word : Text) → IsUtf8 word → (walk : Walk) → Doomed choices walk → turn_fault (shape_for choices) [] walk word ≡ [] → Doomed choices (walked (rules_for choices) [] walk word)
doomed_comes choices word utf8 walk doomed =
    let rows = doomed.0 in
    let pending = doomed.1.0 in
    let waiting = doomed.1.1.0 in
    let position = doomed.1.1.1.0 in
    let bad = doomed.1.1.1.1.1.1.0 in
    subst (λ m. turn_fault (shape_for choices) [] m word ≡ [] → Doomed choices (walked (rules_for choices) [] m word)) (sym doomed.1.1.1.1.1.0)
    (elim doomed.1.1.1.1.0 as (λ b. (waiting ≡ idle) ⊎ (b ≡ true) → turn_fault (shape_for choices) [] (walk_at (held_at rows pending) waiting position b) word ≡ [] → Doomed choices (walked (rules_for choices) [] (walk_at (held_at rows pending) waiting position b) word)) [
      | true ↦ λ calm fault. absurd (trailing_bad choices rows pending bad word waiting position fault)
      | false ↦ λ calm. word_bad choices rows pending bad word utf8 waiting position (form_of word) (is_read word)
          (λ _. elim calm as (λ _. waiting ≡ idle) [ inl e ↦ e | inr e ↦ absurd (grind (arith, e)) ])
    ] doomed.1.1.1.1.1.1.1)
