-- What the letters of one word come to: `clap` reads them as characters, and the definition as bytes.
use Rattle.std.proofs.Common.{◌≡◌, ◌≤◌, ◌&&◌, ◌||◌, ℕ, zero, suc, Bool, true, false, cond, List, [], ◌∷◌, ◌++◌, length, drop, slice_get, Option, None, Some, find, bytes_eq, chars, encode_utf8, encode_utf8_all, codes, refl, ap, sym, subst, ◌∙◌, inl, inr, arith}
use Rattle.std.specs.Str.{all_scalars}
use lib.Utf8.{scalar as scalar_of}
use Rattle.std.proofs.lemmas.List.{length-append}
use Rattle.std.proofs.lemmas.Str.{chars-encodes, length-encode, encode_ascii, len_utf8_bounds, inside_one}
use Rattle.std.proofs.lemmas.Bool.{cases_lt}
use Rattle.std.proofs.Math.Seq.{drop-append_seam}
use Rattle.clap.specs.Walk.{Row, Text, Outcome, done, arg_by_short, bundle_met, bundle_step, settled_rows, short_met, used}
use Rattle.clap.specs.Faults.{flags_fault, bundle_step_fault, short_fault, react_fault}
use Rattle.clap.proofs.OnLiterals.{clap_on_literals}
use Rattle.tool_words.specs.Choices.{Choice, flag, valued, name_of, is_named, has_letter}
use Rattle.tool_words.specs.Walks.{Given, is_given, put, read_letters, ◌>>=◌}
use Rattle.tool_words.proofs.Rules.{rule_built, rules_for, found_or, by_short, find_passes, or_false}
use Rattle.tool_words.proofs.Uses.{Agrees, IsProper, held_at, no_kinds, or_else_both, or_else_left, or_else_right, flag_fault_new, flag_fault_again, flag_agrees}

-- an element that is found by one test fails another that finds nothing
pub find_other : {A : Type 0} (p q : A → Bool) (x : A) (xs : List A) → find p xs ≡ None → find q xs ≡ Some x → p x ≡ false
find_other p q x [] none some = grind (arith, some)
find_other p q x (y ∷ ys) none some =
    elim (p y) as (λ b. p y ≡ b → cond b (Some y) (find p ys) ≡ None → p x ≡ false) [
      | true ↦ λ e h. grind (arith, h)
      | false ↦ λ e h. elim (q y) as (λ b. cond b (Some y) (find q ys) ≡ Some x → p x ≡ false) [
        | true ↦ λ k. grind (arith, k, e)
        | false ↦ λ k. find_other p q x ys h k
      ] some
    ] refl none

pub given_more : (name : Text) (given : Given) (other text : Text) → is_given name (given ++ (other, text) ∷ []) ≡ is_given name given || bytes_eq other name
given_more name [] other text = or_false (bytes_eq other name)
given_more name (g ∷ gs) other text =
    elim (bytes_eq g.0 name) as (λ b. b || is_given name (gs ++ (other, text) ∷ []) ≡ (b || is_given name gs) || bytes_eq other name) [
      | true ↦ refl
      | false ↦ given_more name gs other text
    ]

-- an option or a flag more leaves the positional word as it is
pub project_stays : (given : Given) (other text : Text) → bytes_eq other (codes "project") ≡ false →
    is_given (codes "project") (given ++ (other, text) ∷ []) ≡ is_given (codes "project") given
project_stays given other text e = given_more (codes "project") given other text ∙ ap (λ b. is_given (codes "project") given || b) e ∙ or_false _

-- what the letters before these came to stands, where there are no more
abbrev pub ended : List ℕ → Outcome → Outcome
ended [] so_far = so_far
ended (x ∷ xs) so_far = done

pub ended_done : (xs : List ℕ) → ended xs done ≡ done
ended_done [] = refl
ended_done (x ∷ xs) = refl

-- the letters are flags that were not given before, or the word has a fault
abbrev pub LettersCome : List Choice → ℕ → List ℕ → Outcome → List Row → Option (Text × List Text) → Given → Option Given → Type 0
LettersCome choices k xs so_far rows pending given None = flags_fault (rules_for choices) false k (encode_utf8_all xs) 0 (held_at rows pending) ≡ [] → ⊥
LettersCome choices k xs so_far rows pending given (Some more) =
    (flags_fault (rules_for choices) false k (encode_utf8_all xs) 0 (held_at rows pending) ≡ [])
    × ((rows' : List Row) × ((pending' : Option (Text × List Text)) ×
    ((bundle_met (rules_for choices) k (encode_utf8_all xs) 0 so_far (held_at rows pending) ≡ (held_at rows' pending', ended xs so_far))
    × (Agrees choices rows' pending' more × (is_given (codes "project") more ≡ is_given (codes "project") given)))))

module _ (choices : List Choice) (x : ℕ) (xs : List ℕ) (scalar : all_scalars (x ∷ xs) ≡ true) (j : ℕ) (rows : List Row) (pending : Option (Text × List Text)) where
  first_char : slice_get (chars (encode_utf8_all (x ∷ xs))) 0 ≡ Some x
  first_char = ap (λ l. slice_get l 0) (chars-encodes (x ∷ xs) scalar)

  others : drop (length (encode_utf8 x)) (encode_utf8_all (x ∷ xs)) ≡ encode_utf8_all xs
  others = drop-append_seam (encode_utf8 x) (encode_utf8_all xs)

  pub fault_is : flags_fault (rules_for choices) false (suc j) (encode_utf8_all (x ∷ xs)) 0 (held_at rows pending)
      ≡ short_fault (rules_for choices) false (found_or rule_built (find (has_letter x) choices) None) (encode_utf8_all xs) (held_at rows pending) (flags_fault (rules_for choices) false j (encode_utf8_all xs) 0)
  unfolding flags_fault
  fault_is =
      ap (λ o. bundle_step_fault (rules_for choices) false o (encode_utf8_all (x ∷ xs)) 0 (held_at rows pending) (flags_fault (rules_for choices) false j)) first_char
      ∙ ap (λ r. short_fault (rules_for choices) false (arg_by_short (rules_for choices) x) r (held_at rows pending) (flags_fault (rules_for choices) false j r 0)) others
      ∙ ap (λ o. short_fault (rules_for choices) false o (encode_utf8_all xs) (held_at rows pending) (flags_fault (rules_for choices) false j (encode_utf8_all xs) 0)) (by_short choices x)

  bundle_is : (so_far : Outcome) → bundle_met (rules_for choices) (suc j) (encode_utf8_all (x ∷ xs)) 0 so_far (held_at rows pending)
      ≡ short_met (rules_for choices) (found_or rule_built (find (has_letter x) choices) None) (encode_utf8_all xs) (held_at rows pending) (bundle_met (rules_for choices) j (encode_utf8_all xs) 0 done)
  unfolding bundle_met
  bundle_is so_far =
      ap (λ o. bundle_step (rules_for choices) o (encode_utf8_all (x ∷ xs)) 0 so_far (held_at rows pending) (bundle_met (rules_for choices) j)) first_char
      ∙ ap (λ r. short_met (rules_for choices) (arg_by_short (rules_for choices) x) r (held_at rows pending) (bundle_met (rules_for choices) j r 0 done)) others
      ∙ ap (λ o. short_met (rules_for choices) o (encode_utf8_all xs) (held_at rows pending) (bundle_met (rules_for choices) j (encode_utf8_all xs) 0 done)) (by_short choices x)

  -- no flag has the letter
  pub letter_unknown : (so_far : Outcome) (given : Given) → find (has_letter x) choices ≡ None → LettersCome choices (suc j) (x ∷ xs) so_far rows pending given None
  letter_unknown so_far given none fault =
      no_kinds _ _ (sym (ap (λ o. short_fault (rules_for choices) false (found_or rule_built o None) (encode_utf8_all xs) (held_at rows pending) (flags_fault (rules_for choices) false j (encode_utf8_all xs) 0)) none) ∙ sym fault_is ∙ fault)

  module _ (n : Text) (l : ℕ) (found : find (has_letter x) choices ≡ Some (flag n l)) (given : Given) (agrees : Agrees choices rows pending given) where
    abbrev next_rows : List Row
    next_rows = used (rule_built (flag n l)) [] (settled_rows (rules_for choices) pending rows)

    fault_found : flags_fault (rules_for choices) false (suc j) (encode_utf8_all (x ∷ xs)) 0 (held_at rows pending)
        ≡ Rattle.clap.specs.Kinds.or_else (react_fault (rules_for choices) false (rule_built (flag n l)) [] (held_at rows pending)) (flags_fault (rules_for choices) false j (encode_utf8_all xs) 0 (held_at next_rows None))
    fault_found = fault_is ∙ ap (λ o. short_fault (rules_for choices) false (found_or rule_built o None) (encode_utf8_all xs) (held_at rows pending) (flags_fault (rules_for choices) false j (encode_utf8_all xs) 0)) found

    bundle_found : (so_far : Outcome) → bundle_met (rules_for choices) (suc j) (encode_utf8_all (x ∷ xs)) 0 so_far (held_at rows pending)
        ≡ bundle_met (rules_for choices) j (encode_utf8_all xs) 0 done (held_at next_rows None)
    bundle_found so_far = bundle_is so_far ∙ ap (λ o. short_met (rules_for choices) (found_or rule_built o None) (encode_utf8_all xs) (held_at rows pending) (bundle_met (rules_for choices) j (encode_utf8_all xs) 0 done)) found

    pub letter_again : (so_far : Outcome) → is_given n given ≡ true → LettersCome choices (suc j) (x ∷ xs) so_far rows pending given None
    letter_again so_far again fault = flag_fault_again choices rows pending given agrees n l again (or_else_left _ _ (sym fault_found ∙ fault))

    pub letter_new : (so_far : Outcome) → IsProper choices → is_given n given ≡ false → (got : Option Given) → LettersCome choices j xs done next_rows None (given ++ (n, codes "true") ∷ []) got →
        LettersCome choices (suc j) (x ∷ xs) so_far rows pending given got
    letter_new so_far proper new None later = λ fault. later (or_else_right _ _ (sym fault_found ∙ fault))
    letter_new so_far proper new (Some more) later = (
      fault_found ∙ or_else_both _ _ (flag_fault_new choices rows pending given agrees n l new) later.0,
      (
        later.1.0,
        (
          later.1.1.0,
          (
            bundle_found so_far ∙ later.1.1.1.0 ∙ ap (λ o. (held_at later.1.0 later.1.1.0, o)) (ended_done xs),
            (later.1.1.1.1.0, later.1.1.1.1.1 ∙ project_stays given n (codes "true") (find_other (is_named (codes "project")) (has_letter x) (flag n l) choices proper.no_project found)),
          ),
        ),
      ),
    )

both : (x y : Bool) → x && y ≡ true → (x ≡ true) × (y ≡ true)
both true y e = (refl, e)
both false y e = absurd (grind (arith, e))

-- the byte that begins a character behind ASCII is none of ASCII
high_byte : (x : ℕ) → 128 ≤ x → (b : ℕ) (bs : List ℕ) → encode_utf8 x ≡ b ∷ bs → 128 ≤ b
high_byte x h b bs e =
    elim (cases_lt b 128) as (λ _. 128 ≤ b) [
      | inl t ↦
          let one : x ≡ b = inside_one x [] (b ∷ (bs ++ [])) 0 (ap (λ l. l ++ []) (sym e)) (omega (arith, ap length e)) (omega (arith, t)) in
          absurd (omega (arith, h, t, one))
      | inr f ↦ f
    ]

-- a byte behind ASCII is no flag's letter
read_high : (choices : List Choice) → IsProper choices → (b : ℕ) (bs : List ℕ) (given : Given) → 128 ≤ b → read_letters choices (b ∷ bs) given ≡ None
read_high choices proper b bs given h = rw (proper.low b h) refl

high_letters : (choices : List Choice) → IsProper choices → (x : ℕ) (xs : List ℕ) (given : Given) → 128 ≤ x → read_letters choices (encode_utf8_all (x ∷ xs)) given ≡ None
high_letters choices proper x xs given h =
    elim (encode_utf8 x) as (λ l. encode_utf8 x ≡ l → read_letters choices (l ++ encode_utf8_all xs) given ≡ None) [
      | [] ↦ λ e. absurd (omega (arith, ap length e, length-encode x, (len_utf8_bounds x).0))
      | b ∷ bs ↦ λ e. read_high choices proper b (bs ++ encode_utf8_all xs) given (high_byte x h b bs e)
    ] refl

pub letters_come : (choices : List Choice) → IsProper choices → (xs : List ℕ) → all_scalars xs ≡ true → (k : ℕ) → length (encode_utf8_all xs) ≤ k →
    (so_far : Outcome) (rows : List Row) (pending : Option (Text × List Text)) (given : Given) → Agrees choices rows pending given →
    LettersCome choices k xs so_far rows pending given (read_letters choices (encode_utf8_all xs) given)
unfolding clap_on_literals
letters_come choices proper [] scalar zero room so_far rows pending given agrees = (refl, (rows, (pending, (refl, (agrees, refl)))))
letters_come choices proper [] scalar (suc k) room so_far rows pending given agrees = (refl, (rows, (pending, (refl, (agrees, refl)))))
letters_come choices proper (x ∷ xs) scalar zero room so_far rows pending given agrees =
    absurd (omega (arith, room, length-append (encode_utf8 x) (encode_utf8_all xs), length-encode x, (len_utf8_bounds x).0))
letters_come choices proper (x ∷ xs) scalar (suc j) room so_far rows pending given agrees =
    elim (cases_lt x 128) as (λ _. LettersCome choices (suc j) (x ∷ xs) so_far rows pending given (read_letters choices (encode_utf8_all (x ∷ xs)) given)) [
      | inr high ↦ subst (LettersCome choices (suc j) (x ∷ xs) so_far rows pending given) (sym (high_letters choices proper x xs given high))
          (letter_unknown choices x xs scalar j rows pending so_far given (proper.low x high))
      | inl low ↦
          let ascii : encode_utf8 x ≡ x ∷ [] = encode_ascii x low in
          let less : length (encode_utf8_all xs) ≤ j = omega (arith, room, length-append (encode_utf8 x) (encode_utf8_all xs), length-encode x, (len_utf8_bounds x).0) in
          let later = both (scalar_of x) (all_scalars xs) scalar in
          subst (λ l. LettersCome choices (suc j) (x ∷ xs) so_far rows pending given (read_letters choices (l ++ encode_utf8_all xs) given)) (sym ascii)
          (elim (find (has_letter x) choices) as (λ o. find (has_letter x) choices ≡ o → LettersCome choices (suc j) (x ∷ xs) so_far rows pending given ((o >>= (λ choice. put (name_of choice) (codes "true") given)) >>= read_letters choices (encode_utf8_all xs))) [
            | None ↦ λ none. letter_unknown choices x xs scalar j rows pending so_far given none
            | Some choice ↦ elim choice as (λ c. find (has_letter x) choices ≡ Some c → LettersCome choices (suc j) (x ∷ xs) so_far rows pending given ((put (name_of c) (codes "true") given) >>= read_letters choices (encode_utf8_all xs))) [
              | valued n ↦ λ found. absurd (let e : false ≡ true = find_passes (has_letter x) (valued n) choices found in grind (arith, e))
              | flag n l ↦ λ found. elim (is_given n given) as (λ b. is_given n given ≡ b → LettersCome choices (suc j) (x ∷ xs) so_far rows pending given ((cond b None (Some (given ++ (n, codes "true") ∷ []))) >>= read_letters choices (encode_utf8_all xs))) [
                | true ↦ λ again. letter_again choices x xs scalar j rows pending n l found given agrees so_far again
                | false ↦ λ new. letter_new choices x xs scalar j rows pending n l found given agrees so_far proper new _
                    (letters_come choices proper xs later.1 j less done _ None (given ++ (n, codes "true") ∷ []) (flag_agrees choices rows pending given agrees n l new))
              ] refl
            ]
          ] refl)
    ]
