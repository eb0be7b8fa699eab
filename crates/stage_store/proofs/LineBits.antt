-- Lines of bits: one row more is marked, one line more is read, one row more is told of.
use Rattle.std.proofs.Common.{◌≡◌, ℕ, ◌+◌, ◌*◌, ◌/◌, ◌%◌, ◌^◌, ◌<◌, List, [], ◌∷◌, ◌++◌, length, get_or, Bool, sym, ap, ◌∙◌, subst, arith, inl, inr, ◌⊎◌, max, length-append}
use Rattle.std.specs.Prelude.{ℤ, bit_or}
use Rattle.std.specs.Int.{bit_at, w64}
use Rattle.std.proofs.lemmas.Bool.{cases_eq, cases_lt}
use Rattle.std.proofs.Common.{subst₂}
use Rattle.std.proofs.lemmas.List.{get_or-set_same, get_or-set_other, get_or_append_left, get_or-append-add}
use Rattle.std.proofs.lemmas.Nat.Bits.{bit_at_set_other, bit_at_or}
use Rattle.stage_store.specs.Classes.{row_at}
use Rattle.stage_store.specs.Lines.{IsSaid, IsSaidLevel, IsMarkedAt, AreMarked, HasBit, AreClear, MarksRow, AreSaid, with_bit, Tell}

pub mark_one : (upper : Bool) (levels : List ℕ) (q m : ℕ) (old lines : List ℕ) → m < length lines → q < 64 → IsSaid upper levels m → MarksRow upper levels q old lines → MarksRow upper levels q old (with_bit lines m q)
mark_one upper levels q m old lines inside small said before = λ n r nl rl bit. elim (cases_eq n m) [
  | inl here ↦ elim (cases_eq r q) [
    | inl row ↦ inr (row, subst (IsSaid upper levels) (sym here) said)
    | inr other ↦
        let e : get_or (with_bit lines m q) n 0 ≡ bit_or (get_or lines m 0) (1 * 2 ^ q % 2 ^ 64) = ap (λ k. get_or (with_bit lines m q) k 0) here ∙ get_or-set_same lines m (bit_or (get_or lines m 0) (1 * 2 ^ q % 2 ^ 64)) 0 inside in
        before n r nl rl (ap (λ k. bit_at (get_or lines k 0) r) here ∙ sym (bit_at_set_other w64 (get_or lines m 0) q small r other) ∙ sym (ap (λ k. bit_at k r) e) ∙ bit)
  ]
  | inr other ↦ before n r nl rl (sym (ap (λ k. bit_at k r) (get_or-set_other lines m n (bit_or (get_or lines m 0) (1 * 2 ^ q % 2 ^ 64)) 0 other)) ∙ bit)
]

pub marks_through : (upper : Bool) (levels : List ℕ) (q : ℕ) (old middle new : List ℕ) → length middle ≡ length old → MarksRow upper levels q old middle → MarksRow upper levels q middle new → MarksRow upper levels q old new
marks_through upper levels q old middle new same first second = λ m r ml rl bit. elim (second m r (omega (arith, ml, same)) rl bit) [
  | inl before ↦ first m r ml rl before
  | inr here ↦ inr here
]

pub bit_of_two : (x y : ℕ) → max x y ≡ 1 → (x ≡ 1) ⊎ (y ≡ 1)
bit_of_two x y e = elim (cases_eq x 1) [
  | inl a ↦ inl a
  | inr d ↦ elim (cases_eq y 1) [
    | inl b ↦ inr b
    | inr f ↦ absurd (omega (arith, e, d, f))
  ]
]

pub either_bit : (x y r : ℕ) → bit_at (bit_or x y) r ≡ 1 → (bit_at x r ≡ 1) ⊎ (bit_at y r ≡ 1)
either_bit x y r e = bit_of_two (bit_at x r) (bit_at y r) (sym (bit_at_or x y r) ∙ e)

-- the lines at the first n places
abbrev pub IsAnyTo : ℕ → List ℕ → List ℕ → ℕ → Type 0
IsAnyTo n lines places bits = (r : ℕ) → r < 64 → bit_at bits r ≡ 1 → (a : ℕ) × (a < n) × HasBit lines (get_or places a 0) r

pub read_more : (n bits word : ℕ) (lines places : List ℕ) → word ≡ get_or lines (get_or places n 0) 0 → IsAnyTo n lines places bits → IsAnyTo (n + 1) lines places (bit_or bits word)
read_more n bits word lines places e h = λ r rl bit. elim (either_bit bits word r bit) [
  | inl a ↦ let k = h r rl a in (k.0, omega (arith, k.1), k.2)
  | inr b ↦ (n, omega arith, ap (λ w. bit_at w r) (sym e) ∙ b)
]

pub said_more : (upper : Bool) (levels : List ℕ) (k level x : ℕ) (places new : List ℕ) → k < length levels → level < 8 → IsSaidLevel upper (get_or levels k 0) level → x ≡ 8 * k + level → new ≡ places ++ (x ∷ [])
    → AreSaid upper levels places → AreSaid upper levels new
said_more upper levels k level x places new inside small said e is h = λ a l. elim (cases_lt a (length places)) [
  | inl s ↦ subst (λ m. (m < 8 * length levels) × IsSaid upper levels m) (sym (ap (λ xs. get_or xs a 0) is ∙ get_or_append_left places (x ∷ []) 0 a s)) (h a s)
  | inr s ↦
      let at : a ≡ length places + 0 = omega (arith, l, ap length is, length-append places (x ∷ []), s) in
      let v : get_or new a 0 ≡ 8 * k + level = ap (λ xs. get_or xs a 0) is ∙ ap (λ m. get_or (places ++ (x ∷ [])) m 0) at ∙ get_or-append-add places (x ∷ []) 0 0 ∙ e in
      let d : (8 * k + level) / 8 ≡ k = omega (arith, small) in
      let r : (8 * k + level) % 8 ≡ level = omega (arith, small) in
      subst (λ m. (m < 8 * length levels) × IsSaid upper levels m) (sym v) (omega (arith, inside, small), subst₂ (λ (i n : ℕ). IsSaidLevel upper (get_or levels i 0) n) (sym d) (sym r) said)
]

-- ---- what lines tell of rows
module _ (P : List ℤ → ℕ → Type 0) (listed : List (List ℤ)) where
  pub tell_nothing : (ids : List ℕ) (a : ℕ) (lines : List ℕ) → AreClear lines → Tell P listed ids a lines
  tell_nothing ids a lines h = λ m r ml rl bit. absurd (h m r bit)

  pub tell_stays : (ids : List ℕ) (i a : ℕ) (lines : List ℕ) → Tell P listed ids a lines → Tell P listed (ids ++ (i ∷ [])) a lines
  tell_stays ids i a lines h = λ m r ml rl bit.
      let t = h m r ml rl bit in
      (omega (arith, t.0, length-append ids (i ∷ [])), subst (λ k. P (row_at listed k) m) (sym (get_or_append_left ids (i ∷ []) 0 (64 * a + r) t.0)) t.1)

  pub tell_marked : (ids : List ℕ) (i a q : ℕ) (upper : Bool) (levels old new : List ℕ) → length ids ≡ 64 * a + q → length new ≡ length old → MarksRow upper levels q old new
      → ((m : ℕ) → m < length old → IsSaid upper levels m → P (row_at listed i) m) → Tell P listed ids a old → Tell P listed (ids ++ (i ∷ [])) a new
  tell_marked ids i a q upper levels old new count same marks said h = λ m r ml rl bit. elim (marks m r (omega (arith, ml, same)) rl bit) [
    | inl before ↦ tell_stays ids i a old h m r (omega (arith, ml, same)) rl before
    | inr here ↦
        let place : 64 * a + r ≡ length ids + 0 = omega (arith, count, here.0) in
        let at : get_or (ids ++ (i ∷ [])) (64 * a + r) 0 ≡ i = ap (λ k. get_or (ids ++ (i ∷ [])) k 0) place ∙ get_or-append-add ids (i ∷ []) 0 0 in
        (omega (arith, place, length-append ids (i ∷ [])), subst (λ k. P (row_at listed k) m) (sym at) (said m (omega (arith, ml, same)) here.1))
  ]

-- one place more of a line in which the row is marked
pub marked_more : (lines : List ℕ) (r x : ℕ) (places new : List ℕ) → new ≡ places ++ (x ∷ []) → IsMarkedAt lines r x → AreMarked lines r places → AreMarked lines r new
marked_more lines r x places new is here h = λ a l. elim (cases_lt a (length places)) [
  | inl s ↦ subst (IsMarkedAt lines r) (sym (ap (λ xs. get_or xs a 0) is ∙ get_or_append_left places (x ∷ []) 0 a s)) (h a s)
  | inr s ↦
      let at : a ≡ length places + 0 = omega (arith, l, ap length is, length-append places (x ∷ []), s) in
      let v : get_or new a 0 ≡ x = ap (λ xs. get_or xs a 0) is ∙ ap (λ m. get_or (places ++ (x ∷ [])) m 0) at ∙ get_or-append-add places (x ∷ []) 0 0 in
      subst (IsMarkedAt lines r) (sym v) here
]
