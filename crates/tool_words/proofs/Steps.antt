-- What one word more comes to, in the walk of `clap` and in the walk that the job is defined by.
use Rattle.std.proofs.Common.{◌≡◌, ◌<◌, ◌==◌, ◌||◌, ℕ, Bool, true, false, cond, if◌then◌else◌, List, [], ◌∷◌, ◌++◌, length, Option, None, Some, bytes_eq, codes, refl, ap, sym, ◌∙◌, ◌⊎◌, arith}
use Rattle.std.specs.Option.{option_map_or}
use Rattle.clap.specs.Lexer.{long_of, short_of}
use Rattle.clap.specs.Walk.{Held, Rule, Row, Text, Waiting, idle, option, Walk, Outcome, done, plain, arg_by_id, arg_by_index, arg_by_long, bundle, bundle_met, settled, settled_rows, used, walked, after_step, after_flag, long_met, to_positional, is_pending, takes_several, positional_held}
use Rattle.clap.specs.Walk as cw
use Rattle.clap.specs.Faults.{turn_fault, settle_fault, step_fault, positional_fault, stray_fault}
use Rattle.clap.specs.declared.error.kind.ErrorKind.TheVariants as kind
use Rattle.tool_words.specs.Choices.{Choice}
use Rattle.tool_words.specs.Walks.{Given, Reading, Form, end_mark, long_word, letters, is_given, put, with_text, form_of, long_form, read_letters, read_long, read_form, read_value, read_open, read_word, ◌>>=◌}
use Rattle.tool_words.specs.Walks as w
use Rattle.tool_words.proofs.Rules.{project_rule, rules_for, shape_for, by_index, and_false, or_false}
use Rattle.tool_words.proofs.Uses.{Agrees, Awaits, IsProper, held_at, no_kinds, project_agrees}
use Rattle.tool_words.proofs.Letters.{ended, given_more}

-- ---- what a word is

-- the tests by which `clap` tells what a word is
abbrev pub IsRead : Text → Form → Type 0
IsRead word end_mark = bytes_eq word (45 ∷ 45 ∷ []) ≡ true
IsRead word (long_word name value) = (bytes_eq word (45 ∷ 45 ∷ []) ≡ false) × (long_of word ≡ Some (name, value))
IsRead word (letters flags) = (bytes_eq word (45 ∷ 45 ∷ []) ≡ false) × (long_of word ≡ None) × (short_of word ≡ Some flags) × (word ≡ 45 ∷ flags) × (0 < length flags)
IsRead word w.plain = (bytes_eq word (45 ∷ 45 ∷ []) ≡ false) × (long_of word ≡ None) × (short_of word ≡ None)

pub is_read : (word : Text) → IsRead word (form_of word)
is_read [] = (refl, refl, refl)
is_read (a ∷ []) = elim (a == 45) as (λ x. (a == 45) ≡ x → IsRead (a ∷ []) w.plain) [
  | true ↦ λ e. (rw e refl, rw e refl, rw e refl)
  | false ↦ λ e. (rw e refl, rw e refl, rw e refl)
] refl
is_read (a ∷ b ∷ bs) = elim (a == 45) as (λ x. (a == 45) ≡ x → IsRead (a ∷ b ∷ bs) (cond x (cond (b == 45) (long_form bs) (letters (b ∷ bs))) w.plain)) [
  | false ↦ λ e. (rw e refl, rw e refl, rw e refl)
  | true ↦ λ e. elim (b == 45) as (λ y. (b == 45) ≡ y → IsRead (a ∷ b ∷ bs) (cond y (long_form bs) (letters (b ∷ bs)))) [
    | false ↦ λ f. (rw (e, f) refl, rw (e, f) refl, rw (e, f) refl, ap (λ n. n ∷ b ∷ bs) (let same : a ≡ 45 = grind (arith, e) in same), omega arith)
    | true ↦ λ f. elim bs as (λ l. IsRead (a ∷ b ∷ l) (long_form l)) [
      | [] ↦ rw (e, f) refl
      | c ∷ cs ↦ (rw (e, f) refl, rw (e, f) refl)
    ]
  ] refl
] refl

-- ---- what stands between two words

abbrev pub walk_at : Held → Waiting → ℕ → Bool → Walk
walk_at h waiting position ended = record { held = h; waiting = waiting; position = position; is_trailing = ended; stopped = None }

-- the place of the next positional word
abbrev pub position_of : Given → ℕ
position_of given = if is_given (codes "project") given then 2 else 1

abbrev pub StandsBy : List Choice → Walk → Given → Option Text → Bool → Type 0
StandsBy choices w given None ended =
    (rows : List Row) × ((pending : Option (Text × List Text)) × ((w ≡ walk_at (held_at rows pending) idle (position_of given) ended) × Agrees choices rows pending given))
StandsBy choices w given (Some name) ended =
    (rows : List Row) × ((ended ≡ false) × ((w ≡ walk_at (held_at rows (Some (name, []))) (option name) (position_of given) false) × Awaits choices rows given name))

-- the walk of `clap` stands where this reading does
abbrev pub Stands : List Choice → Walk → Reading → Type 0
Stands choices w r = StandsBy choices w r.given r.awaited r.is_ended

-- what is pending will be refused, whatever comes
abbrev pub Doomed : List Choice → Walk → Type 0
Doomed choices w =
    (rows : List Row) × ((pending : Option (Text × List Text)) × ((waiting : Waiting) × ((position : ℕ) × ((ended : Bool) × (
    (w ≡ walk_at (held_at rows pending) waiting position ended)
    × ((settle_fault (rules_for choices) false (held_at rows pending) ≡ [] → ⊥)
    × ((waiting ≡ idle) ⊎ (ended ≡ true))))))))

-- the word is taken by both, or by none, now or later
abbrev pub WordComes : List Choice → Walk → Text → Option Reading → Type 0
WordComes choices w word None = turn_fault (shape_for choices) [] w word ≡ [] → Doomed choices (walked (rules_for choices) [] w word)
WordComes choices w word (Some r) = (turn_fault (shape_for choices) [] w word ≡ []) × Stands choices (walked (rules_for choices) [] w word) r

-- ---- a positional word

pub stray : (choices : List Choice) (h : Held) → step_fault (shape_for choices) 2 h cw.value ≡ kind.UnknownArgument ∷ []
stray choices h = ap (λ o. option_map_or (λ a. positional_fault (rules_for choices) false a h) o (stray_fault (shape_for choices))) (by_index choices 2)

pub first_fault : (choices : List Choice) (h : Held) → step_fault (shape_for choices) 1 h cw.value ≡ settle_fault (rules_for choices) false h
first_fault choices h =
    ap (λ o. option_map_or (λ a. positional_fault (rules_for choices) false a h) o (stray_fault (shape_for choices))) (by_index choices 1)
    ∙ ap (λ b. cond b [] (settle_fault (rules_for choices) false h)) (and_false (is_pending project_rule h.pending))

module _ (choices : List Choice) (proper : IsProper choices) (rows : List Row) (pending : Option (Text × List Text)) (given : Given) (agrees : Agrees choices rows pending given)
    (word : Text) (ended : Bool) where
  abbrev here : Walk
  here = walk_at (held_at rows pending) idle (position_of given) ended

  -- the word goes to the positional, and is no fault by itself
  pub positional_comes :
      turn_fault (shape_for choices) [] here word ≡ step_fault (shape_for choices) (position_of given) (held_at rows pending) cw.value →
      walked (rules_for choices) [] here word ≡ to_positional (rules_for choices) (arg_by_index (rules_for choices) (position_of given)) word here (held_at rows pending) →
      WordComes choices here word (with_text (codes "project") word (record { given = given; awaited = None; is_ended = ended }))
  positional_comes turn walk =
      elim (is_given (codes "project") given) as (λ b. is_given (codes "project") given ≡ b → WordComes choices here word ((cond b None (Some (given ++ (codes "project", word) ∷ []))) >>= (λ more. Some (record { given = more; awaited = None; is_ended = ended })))) [
        | true ↦ λ again. λ fault. no_kinds _ _ (sym (stray choices (held_at rows pending))
            ∙ sym (ap (λ b. step_fault (shape_for choices) (cond b 2 1) (held_at rows pending) cw.value) again) ∙ sym turn ∙ fault)
        | false ↦ λ new.
            let placed : position_of (given ++ (codes "project", word) ∷ []) ≡ 2 =
            ap (λ b. cond b 2 1) (given_more (codes "project") given (codes "project") word ∙ ap (λ b. b || true) new) in
            let taken : to_positional (rules_for choices) (arg_by_index (rules_for choices) (position_of given)) word here (held_at rows pending)
            ≡ walk_at (held_at (settled_rows (rules_for choices) pending rows) (Some (codes "project", word ∷ []))) idle 2 ended =
            ap (λ b. to_positional (rules_for choices) (arg_by_index (rules_for choices) (cond b 2 1)) word (walk_at (held_at rows pending) idle (cond b 2 1) ended) (held_at rows pending)) new
            ∙ ap (λ o. to_positional (rules_for choices) o word (walk_at (held_at rows pending) idle 1 ended) (held_at rows pending)) (by_index choices 1)
            ∙ ap (λ b. record { held = cw.pushed (codes "project") word (cond b (held_at rows pending) (settled (rules_for choices) (held_at rows pending))); waiting = idle; position = 2; is_trailing = ended || false; stopped = None }) (and_false (is_pending project_rule pending))
            ∙ ap (λ b. walk_at (held_at (settled_rows (rules_for choices) pending rows) (Some (codes "project", word ∷ []))) idle 2 b) (or_false ended) in (
              turn ∙ ap (λ b. step_fault (shape_for choices) (cond b 2 1) (held_at rows pending) cw.value) new ∙ first_fault choices (held_at rows pending) ∙ agrees.sound,
              (
                settled_rows (rules_for choices) pending rows,
                (
                  Some (codes "project", word ∷ []),
                  (
                    walk ∙ taken ∙ ap (λ p. walk_at (held_at (settled_rows (rules_for choices) pending rows) (Some (codes "project", word ∷ []))) idle p ended) (sym placed),
                    project_agrees choices rows pending given agrees word proper new,
                  ),
                ),
              ),
            )
      ] refl
