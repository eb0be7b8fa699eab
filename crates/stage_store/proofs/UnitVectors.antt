-- The unit vectors in order are the minimal solutions of no rows.
use Rattle.std.proofs.Common.{◌≡◌, ℕ, zero, suc, ◌+◌, ◌-◌, ◌*◌, ◌≤◌, ◌<◌, List, [], ◌∷◌, ◌++◌, length, get_or, replicate, set, refl, ap, ap₂, sym, ◌∙◌, subst, subst₂, arith, inl, inr, ◌⊎◌, Ordering, Less, Equal, Bool, true, false, ltb}
use Rattle.std.specs.Prelude.{ℤ, pos, negsuc, nat_abs, ◌*ℤ◌, ◌+ℤ◌, Some}
use Rattle.std.specs.List.{Contains, AllByRecursion, find}
use Rattle.std.specs.List.Sorted.{IsStrictlySortedBy}
use Rattle.std.specs.Cmp.{nat_cmp_is}
use Rattle.std.specs.Ordering.{ordering_then}
use Rattle.std.proofs.lemmas.Bool.{cases_lt, cases_eq, cases_order, lt-ltb, le-ltb, cases_Bool}
use Rattle.std.proofs.lemmas.Int.{ints}
use Rattle.std.proofs.lemmas.List.{set-set, set-get_or, get_or-replicate}
use Rattle.std.proofs.lemmas.List.Elements.{Contains-append_left, Contains-append_right, Contains-append_cases}
use borrow.Author.Differences.{same_in}
use Rattle.int_vector.specs.Vectors.{norm, dot, lex_cmp, largest}
use Rattle.int_vector.proofs.Vectors.{below_same, norm_positive, nonzero_from_norm}
use Rattle.lift_core.specs.Systems.{LinearSystem, Solves, ObeysSigns, ObeysCaps}
use Rattle.lift_core.specs.ToolSystems.{width}
use Rattle.lift_core.specs.Inside.Units.{unit, IsSignedUnit}
use Rattle.lift_core.specs.Ends.{solution_cmp, IsSolutionList, leaves_range}
use Rattle.lift_core.proofs.Units.{norm-unit, signed_unit_of}
use Rattle.lift_core.proofs.Lists.{contains_cases, contains_head, contains_tail, contains_nothing, each_contained, each_from_contained}
use Rattle.stage_store.specs.UnitVectors.{unit_column, unit_entry, unit_vector, IsUnitBefore, AreUnitsBefore}

-- ---- norms
norm-zeros : (n : ℕ) → norm (replicate n (pos 0)) ≡ 0
norm-zeros zero = refl
norm-zeros (suc n) = omega (arith, norm-zeros n)

-- a unit vector, once its entry is put back
pub unit_undone : (n j : ℕ) (a : ℤ) → j < n → set (unit n j a) j (pos 0) ≡ replicate n (pos 0)
unit_undone n j a l = set-set (replicate n (pos 0)) j a (pos 0) ∙ ap (λ (x : ℤ). set (replicate n (pos 0)) j x) (sym (get_or-replicate n j (pos 0) (pos 0) l)) ∙ set-get_or (replicate n (pos 0)) j (pos 0)

-- ---- the order
negative_first : (n a b : ℕ) (y : ℤ) → a < b → b < n → lex_cmp (unit n a (negsuc 0)) (unit n b y) ≡ Less
negative_first zero a b y l m = absurd (omega arith)
negative_first (suc n) zero zero y l m = absurd (omega arith)
negative_first (suc n) zero (suc b) y l m = refl
negative_first (suc n) (suc a) zero y l m = absurd (omega arith)
negative_first (suc n) (suc a) (suc b) y l m = negative_first n a b y (omega arith) (omega arith)

same_column : (n a : ℕ) → a < n → lex_cmp (unit n a (negsuc 0)) (unit n a (pos 1)) ≡ Less
same_column zero a l = absurd (omega arith)
same_column (suc n) zero l = refl
same_column (suc n) (suc a) l = same_column n a (omega arith)

positive_last : (n a b : ℕ) (x : ℤ) → b < a → a < n → lex_cmp (unit n a x) (unit n b (pos 1)) ≡ Less
positive_last zero a b x l m = absurd (omega arith)
positive_last (suc n) zero b x l m = absurd (omega arith)
positive_last (suc n) (suc a) zero x l m = refl
positive_last (suc n) (suc a) (suc b) x l m = positive_last n a b x (omega arith) (omega arith)

first_half : (n i : ℕ) → i < n → unit_vector n i ≡ unit n i (negsuc 0)
first_half n i l = let t : ltb i n ≡ true = lt-ltb i n l in rw t refl

second_half : (n i : ℕ) → n ≤ i → unit_vector n i ≡ unit n (2 * n - 1 - i) (pos 1)
second_half n i l = let t : ltb i n ≡ false = le-ltb i n l in rw t refl

pub column_inside : (n i : ℕ) → i < 2 * n → unit_column n i < n
column_inside n i l = elim (cases_lt i n) [
  | inl m ↦ let t : ltb i n ≡ true = lt-ltb i n m in rw t m
  | inr m ↦ let t : ltb i n ≡ false = le-ltb i n m in rw t (omega (arith, l, m))
]

entry_one : (n i : ℕ) → nat_abs (unit_entry n i) ≡ 1
entry_one n i = elim (cases_Bool (ltb i n)) [
  | inl t ↦ rw t refl
  | inr t ↦ rw t refl
]

pub unit_norm : (n i : ℕ) → i < 2 * n → norm (unit_vector n i) ≡ 1
unit_norm n i l = norm-unit n (unit_column n i) (unit_entry n i) (column_inside n i l) ∙ entry_one n i

units_ascend : (n i j : ℕ) → i < j → j < 2 * n → lex_cmp (unit_vector n i) (unit_vector n j) ≡ Less
units_ascend n i j l m = elim (cases_lt j n) [
  | inl b ↦ ap₂ lex_cmp (first_half n i (omega (arith, l, b))) (first_half n j b) ∙ negative_first n i j (negsuc 0) l b
  | inr b ↦ elim (cases_lt i n) [
    | inl a ↦ ap₂ lex_cmp (first_half n i a) (second_half n j b) ∙ elim (cases_order i (2 * n - 1 - j)) [
      | inl same ↦ subst (λ (k : ℕ). lex_cmp (unit n i (negsuc 0)) (unit n k (pos 1)) ≡ Less) same (same_column n i a)
      | inr (inl less) ↦ negative_first n i (2 * n - 1 - j) (pos 1) less (omega (arith, b, m))
      | inr (inr more) ↦ positive_last n i (2 * n - 1 - j) (negsuc 0) more a
    ]
    | inr a ↦ ap₂ lex_cmp (second_half n i a) (second_half n j b) ∙ positive_last n (2 * n - 1 - i) (2 * n - 1 - j) (pos 1) (omega (arith, l, m)) (omega (arith, a, l, m))
  ]
]

units_in_order : (n i j : ℕ) → i < j → j < 2 * n → solution_cmp (unit_vector n i) (unit_vector n j) ≡ Less
units_in_order n i j l m =
    ap (λ (o : Ordering). ordering_then o (lex_cmp (unit_vector n i) (unit_vector n j))) (sym (nat_cmp_is (norm (unit_vector n i)) (norm (unit_vector n j)) Equal (unit_norm n i (omega (arith, l, m)) ∙ sym (unit_norm n j m))))
    ∙ units_ascend n i j l m

-- ---- one more
ascends_push : (xs : List (List ℤ)) (y : List ℤ) → IsStrictlySortedBy solution_cmp xs → ((x : List ℤ) → Contains xs x → solution_cmp x y ≡ Less) → IsStrictlySortedBy solution_cmp (xs ++ (y ∷ []))
unfolding IsStrictlySortedBy
ascends_push [] y s h = (tt, tt)
ascends_push (x ∷ xs) y s h = (
  each_from_contained (λ z. solution_cmp x z ≡ Less) (xs ++ (y ∷ [])) (λ z c. elim (Contains-append_cases xs (y ∷ []) z c) [
    | inl a ↦ each_contained (λ z. solution_cmp x z ≡ Less) xs z s.0 a
    | inr b ↦ elim (contains_cases y [] z b) [
      | inl same ↦ subst (λ (w : List ℤ). solution_cmp x w ≡ Less) same (h x (contains_head x xs))
      | inr none ↦ absurd (contains_nothing z none)
    ]
  ]),
  ascends_push xs y s.1 (λ z c. h z (contains_tail x xs z c)),
)

no_units : (S : LinearSystem) → IsStrictlySortedBy solution_cmp []
unfolding IsStrictlySortedBy
no_units S = tt

pub units_none : (S : LinearSystem) → AreUnitsBefore S 0 []
units_none S = record { list = record { ascending = no_units S; members = λ v. (λ c. absurd (contains_nothing v c), λ u. absurd (omega (arith, u.before))) } }

unit_later : (S : LinearSystem) (i : ℕ) (v : List ℤ) → IsUnitBefore S i v → IsUnitBefore S (i + 1) v
unit_later S i v u = record { number = u.number; before = omega (arith, u.before); is = u.is; signs = u.signs; caps = u.caps }

unit_sooner : (S : LinearSystem) (i : ℕ) (v : List ℤ) → IsUnitBefore S (i + 1) v → (IsUnitBefore S i v) ⊎ (v ≡ unit_vector (width S) i)
unit_sooner S i v u = elim (cases_eq u.number i) [
  | inl same ↦ inr (u.is ∙ ap (unit_vector (width S)) same)
  | inr other ↦ inl (record { number = u.number; before = omega (arith, u.before, other); is = u.is; signs = u.signs; caps = u.caps })
]

pub units_more : (S : LinearSystem) (i : ℕ) (rows new : List (List ℤ)) (v : List ℤ) → i < 2 * width S → AreUnitsBefore S i rows → v ≡ unit_vector (width S) i → ObeysSigns S v × ObeysCaps S v → new ≡ rows ++ (v ∷ []) → AreUnitsBefore S (i + 1) new
units_more S i rows new v l h is obeys pushed = subst (λ (w : List (List ℤ)). AreUnitsBefore S (i + 1) w) (sym pushed) (record {
  list = record {
    ascending = ascends_push rows v h.list.ascending (λ x c.
        let u : IsUnitBefore S i x = (h.list.members x).0 c in
        subst₂ (λ (a b : List ℤ). solution_cmp a b ≡ Less) (sym u.is) (sym is) (units_in_order (width S) u.number i u.before l));
    members = λ x. (
      λ c. elim (Contains-append_cases rows (v ∷ []) x c) [
        | inl a ↦ unit_later S i x ((h.list.members x).0 a)
        | inr b ↦ elim (contains_cases v [] x b) [
          | inl same ↦ subst (λ (w : List ℤ). IsUnitBefore S (i + 1) w) same (record { number = i; before = omega arith; is = is; signs = obeys.0; caps = obeys.1 })
          | inr none ↦ absurd (contains_nothing x none)
        ]
      ],
      λ u. elim (unit_sooner S i x u) [
        | inl a ↦ Contains-append_left rows (v ∷ []) x ((h.list.members x).1 a)
        | inr b ↦ Contains-append_right rows (v ∷ []) x (subst (λ (w : List ℤ). Contains (v ∷ []) w) (is ∙ sym b) (contains_head v []))
      ],
    );
  };
})

pub units_less : (S : LinearSystem) (i : ℕ) (rows : List (List ℤ)) (v : List ℤ) → AreUnitsBefore S i rows → v ≡ unit_vector (width S) i → (ObeysSigns S v × ObeysCaps S v → ⊥) → AreUnitsBefore S (i + 1) rows
units_less S i rows v h is none = record {
  list = record {
    ascending = h.list.ascending;
    members = λ x. (
      λ c. unit_later S i x ((h.list.members x).0 c),
      λ u. elim (unit_sooner S i x u) [
        | inl a ↦ (h.list.members x).1 a
        | inr b ↦ absurd (none (subst (λ (w : List ℤ). ObeysSigns S w) (b ∙ sym is) u.signs, subst (λ (w : List ℤ). ObeysCaps S w) (b ∙ sym is) u.caps))
      ],
    );
  };
}

-- ---- all of them
one_or : (a : ℤ) → nat_abs a ≡ 1 → (a ≡ negsuc 0) ⊎ (a ≡ pos 1)
one_or (pos n) e = inr (ap pos e)
one_or (negsuc n) e = inl (ap negsuc (omega (arith, e)))

numbered_unit : (n j : ℕ) (a : ℤ) → j < n → nat_abs a ≡ 1 → (i : ℕ) × (i < 2 * n) × (unit n j a ≡ unit_vector n i)
numbered_unit n j a l e = elim (one_or a e) [
  | inl m ↦ (j, omega (arith, l), ap (unit n j) m ∙ sym (first_half n j l))
  | inr p ↦
      let q : 2 * n - 1 - (2 * n - 1 - j) ≡ j = omega (arith, l) in
      (2 * n - 1 - j, omega (arith, l), ap (unit n j) p ∙ ap (λ k. unit n k (pos 1)) (sym q) ∙ sym (second_half n (2 * n - 1 - j) (omega (arith, l))))
]

pub units_are_minimal : (S : LinearSystem) (i : ℕ) (rows : List (List ℤ)) → 2 * width S ≤ i → i ≤ 2 * width S → AreUnitsBefore S i rows → IsSolutionList S 0 rows
units_are_minimal S i rows from to h = record {
  ascending = h.list.ascending;
  members = λ v. (
    λ c.
        let u : IsUnitBefore S i v = (h.list.members v).0 c in
        let n : norm v ≡ 1 = ap norm u.is ∙ unit_norm (width S) u.number (omega (arith, u.before, to)) in
        record {
          member = record { signs = u.signs; caps = u.caps; rows = tt };
          nonzero = nonzero_from_norm v (omega (arith, n));
          least = λ w p z b. below_same w v b (omega (arith, norm_positive w z, n));
        },
    λ m.
        let s : IsSignedUnit S v = signed_unit_of S v m in
        let k : (i : ℕ) × (i < 2 * width S) × (unit (width S) s.column s.entry ≡ unit_vector (width S) i) = numbered_unit (width S) s.column s.entry s.inside s.one in
        (h.list.members v).1 (record { number = k.0; before = omega (arith, k.1, from); is = s.is ∙ k.2; signs = m.member.signs; caps = m.member.caps }),
  );
}

-- ---- what a stage asks of them
pub solution_norm : (S : LinearSystem) (rows : List (List ℤ)) → IsSolutionList S 0 rows → AllByRecursion (λ v. norm v ≡ 1) rows
solution_norm S rows h = each_from_contained (λ v. norm v ≡ 1) rows (λ v c. let s : IsSignedUnit S v = signed_unit_of S v ((h.members v).0 c) in ap norm s.is ∙ norm-unit (width S) s.column s.entry s.inside ∙ s.one)

pub solution_solves : (S : LinearSystem) (rows : List (List ℤ)) → IsSolutionList S 0 rows → AllByRecursion (Solves S 0) rows
solution_solves S rows h = each_from_contained (Solves S 0) rows (λ v c. ((h.members v).0 c).member)

dot-zeros : (r : List ℤ) (n : ℕ) → dot r (replicate n (pos 0)) ≡ pos 0
dot-zeros [] n = refl
dot-zeros (a ∷ r) zero = refl
dot-zeros (a ∷ r) (suc n) = rw (dot-zeros r n) (same_in (a *ℤ pos 0 +ℤ pos 0) (pos 0) (omega (arith, ints)))

one_times : (a x rest : ℤ) → nat_abs x ≡ 1 → rest ≡ pos 0 → nat_abs (a *ℤ x +ℤ rest) ≡ nat_abs a
one_times a x rest e z = elim (one_or x e) [
  | inl m ↦ rw (m, z) (grind (arith, ints))
  | inr p ↦ rw (p, z) (grind (arith, ints))
]

zero_times : (a rest : ℤ) → nat_abs (a *ℤ pos 0 +ℤ rest) ≡ nat_abs rest
zero_times a rest = omega (arith, ints)

-- the product of a row and a unit vector is an entry of the row, up to sign
dot-unit : (r : List ℤ) (n j : ℕ) (x : ℤ) (most : ℕ) → nat_abs x ≡ 1 → AllByRecursion (λ a. nat_abs a ≤ most) r → nat_abs (dot r (unit n j x)) ≤ most
dot-unit [] n j x most e h = omega arith
dot-unit (a ∷ r) zero j x most e h = omega arith
dot-unit (a ∷ r) (suc n) zero x most e h = omega (arith, one_times a x (dot r (replicate n (pos 0))) e (dot-zeros r n), h.0)
dot-unit (a ∷ r) (suc n) (suc j) x most e h = omega (arith, zero_times a (dot r (unit n j x)), dot-unit r n j x most e h.1)

none_found : (p : List ℤ → Bool) (xs : List (List ℤ)) (y : List ℤ) → find p xs ≡ Some y → ((x : List ℤ) → Contains xs x → p x ≡ false) → ⊥
none_found p [] y e h = cc
none_found p (x ∷ xs) y e h =
    let t : p x ≡ false = h x (contains_head x xs) in
    none_found p xs y (rw t at e) (λ z c. h z (contains_tail x xs z c))

-- no product of a row in range with a unit vector leaves the range
pub units_stay : (S : LinearSystem) (r v : List ℤ) (rows : List (List ℤ)) → IsSolutionList S 0 rows → AllByRecursion (λ a. nat_abs a ≤ largest) r → find (leaves_range r) rows ≡ Some v → ⊥
units_stay S r v rows h range e = none_found (leaves_range r) rows v e (λ x c.
    let s : IsSignedUnit S x = signed_unit_of S x ((h.members x).0 c) in
    le-ltb largest (nat_abs (dot r x)) (omega (arith, ap (λ w. nat_abs (dot r w)) s.is, dot-unit r (width S) s.column s.entry largest s.one range)))

-- ---- as the code writes them
pub unit_set : (items : List ℤ) (n w i column : ℕ) (x y : ℤ) → items ≡ replicate n (pos 0) → column ≡ unit_column n i → x ≡ y → y ≡ unit_entry n i → n ≡ w → set items column x ≡ unit_vector w i
unit_set items n w i column x y a b p q m =
    ap₂ (λ (l : List ℤ) (k : ℕ). set l k x) a b ∙ ap (λ (z : ℤ). set (replicate n (pos 0)) (unit_column n i) z) (p ∙ q) ∙ ap (λ k. unit_vector k i) m

pub unit_cleared : (items : List ℤ) (n column : ℕ) (x : ℤ) → items ≡ replicate n (pos 0) → column < n → set (set items column x) column (pos 0) ≡ replicate n (pos 0)
unit_cleared items n column x a l = ap (λ (l : List ℤ). set (set l column x) column (pos 0)) a ∙ unit_undone n column x l

entry_norm : (v : List ℤ) (k : ℕ) (d : ℤ) → k < length v → nat_abs (get_or v k d) ≤ norm v
entry_norm [] k d l = absurd (omega arith)
entry_norm (x ∷ v) zero d l = omega arith
entry_norm (x ∷ v) (suc k) d l = omega (arith, entry_norm v k d (omega arith))

pub unit_range : (v : List ℤ) (n i : ℕ) → v ≡ unit_vector n i → i < 2 * n → (k : ℕ) (d : ℤ) → k < length v → nat_abs (get_or v k d) ≤ largest
unit_range v n i is l k d m = omega (arith, entry_norm v k d m, ap norm is, unit_norm n i l)

pub solution_positive : (S : LinearSystem) (rows : List (List ℤ)) → IsSolutionList S 0 rows → AllByRecursion (λ v. 0 < norm v) rows
solution_positive S rows h = each_from_contained (λ v. 0 < norm v) rows (λ v c. omega (arith, each_contained (λ v. norm v ≡ 1) rows v (solution_norm S rows h) c))

pub solution_small : (S : LinearSystem) (rows : List (List ℤ)) → IsSolutionList S 0 rows → AllByRecursion (λ v. norm v ≤ largest) rows
solution_small S rows h = each_from_contained (λ v. norm v ≤ largest) rows (λ v c. omega (arith, each_contained (λ v. norm v ≡ 1) rows v (solution_norm S rows h) c))
