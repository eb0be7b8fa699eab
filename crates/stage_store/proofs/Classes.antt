-- Classes in order of norm.
use Rattle.std.proofs.Common.{◌≡◌, ℕ, zero, suc, ◌≤◌, ◌<◌, List, [], ◌∷◌, ◌++◌, length, get_or, refl, ap, ◌∙◌, subst, arith, inl, inr, Less, Equal, Greater, true}
use Rattle.std.specs.Prelude.{◌==◌}
use Rattle.std.specs.List.{AllByRecursion}
use Rattle.std.specs.List.Sorted.{IsStrictlySortedBy}
use Rattle.std.specs.Ordering.{nat_cmp}
use Rattle.std.proofs.lemmas.Bool.{cases_Bool, cases_order, cases_lt, cases_eq, eqb-true, eq-eqb}
use Rattle.std.specs.Cmp.{nat_cmp_is}
use Rattle.std.proofs.lemmas.List.{append-nil}
use Rattle.stage_store.specs.Classes.{ClassValue, class_cmp, ids_at, norm_at}

abbrev pub class_ids : ClassValue → List ℕ
class_ids c = c.ids

pub get_or-default : {A : Type 0} (xs : List A) (k : ℕ) (a b : A) → k < length xs → get_or xs k a ≡ get_or xs k b
get_or-default [] k a b l = absurd (omega arith)
get_or-default (x ∷ xs) zero a b l = refl
get_or-default (x ∷ xs) (suc k) a b l = get_or-default xs k a b (omega arith)

pub each_at : {A : Type 0} (P : A → Type 0) (xs : List A) (k : ℕ) (d : A) → AllByRecursion P xs → k < length xs → P (get_or xs k d)
each_at P [] k d h l = absurd (omega arith)
each_at P (x ∷ xs) zero d h l = h.0
each_at P (x ∷ xs) (suc k) d h l = each_at P xs k d h.1 (omega arith)

less_norm : (m n : ℕ) → nat_cmp m n ≡ Less → m < n
less_norm m n e = elim (cases_lt m n) [
  | inl l ↦ l
  | inr l ↦ elim (cases_eq m n) [
    | inl same ↦ let f : Equal ≡ nat_cmp m n = nat_cmp_is m n Equal same in cc
    | inr other ↦ let f : Greater ≡ nat_cmp m n = nat_cmp_is m n Greater (omega (arith, l, other)) in cc
  ]
]

pub sorted_at : (cs : List ClassValue) (i j : ℕ) → IsStrictlySortedBy class_cmp cs → i < j → j < length cs → norm_at cs i < norm_at cs j
unfolding IsStrictlySortedBy
sorted_at [] i j s h l = absurd (omega arith)
sorted_at (c ∷ cs) i zero s h l = absurd (omega arith)
sorted_at (c ∷ cs) zero (suc j) s h l = less_norm c.norm (norm_at cs j) (each_at (λ z. class_cmp c z ≡ Less) cs j (record { norm = 0; ids = [] }) s.0 (omega arith))
sorted_at (c ∷ cs) (suc i) (suc j) s h l = sorted_at cs i j s.1 (omega arith) (omega arith)

pub ids_at-none : (cs : List ClassValue) (n : ℕ) → ((k : ℕ) → k < length cs → norm_at cs k ≡ n → ⊥) → ids_at cs n ≡ []
ids_at-none [] n h = refl
ids_at-none (c ∷ cs) n h = elim (cases_Bool (c.norm == n)) [
  | inl e ↦ absurd (h 0 (omega arith) (eqb-true c.norm n e))
  | inr e ↦ rw e (ids_at-none cs n (λ k l m. h (suc k) (omega arith) m))
]

-- the class at place k is that of its norm
pub ids_at-one : (cs : List ClassValue) (k n : ℕ) → k < length cs → norm_at cs k ≡ n → ((i : ℕ) → i < length cs → (i ≡ k → ⊥) → norm_at cs i ≡ n → ⊥) → ids_at cs n ≡ (get_or cs k (record { norm = 0; ids = [] })).ids
ids_at-one [] k n l e h = absurd (omega arith)
ids_at-one (c ∷ cs) zero n l e h =
    let t : (c.norm == n) ≡ true = eq-eqb c.norm n e in
    rw t (ap (λ (xs : List ℕ). c.ids ++ xs) (ids_at-none cs n (λ k l m. h (suc k) (omega arith) (λ z. omega (arith, z)) m)) ∙ append-nil c.ids)
ids_at-one (c ∷ cs) (suc k) n l e h = elim (cases_Bool (c.norm == n)) [
  | inl t ↦ absurd (h 0 (omega arith) (λ z. omega (arith, z)) (eqb-true c.norm n t))
  | inr t ↦ rw t (ids_at-one cs k n (omega arith) e (λ i l d m. h (suc i) (omega arith) (λ z. d (omega (arith, z))) m))
]

-- where a search for norm n stopped
pub record IsPlaceFrom (cs : List ClassValue) (n place : ℕ) : Type 0 where
  pub within : place ≤ length cs
  pub before : (k : ℕ) → k < place → norm_at cs k < n
  pub from : (k : ℕ) → place ≤ k → k < length cs → n ≤ norm_at cs k

pub ids_at-found : (cs : List ClassValue) (n place : ℕ) → IsStrictlySortedBy class_cmp cs → IsPlaceFrom cs n place → place < length cs → norm_at cs place ≡ n → ids_at cs n ≡ (get_or cs place (record { norm = 0; ids = [] })).ids
ids_at-found cs n place s p l e = ids_at-one cs place n l e (λ i m d same. elim (cases_order i place) [
  | inl is ↦ d is
  | inr (inl less) ↦ omega (arith, p.before i less, same)
  | inr (inr more) ↦ omega (arith, sorted_at cs place i s more m, same, e)
])

pub ids_at-missing : (cs : List ClassValue) (n place : ℕ) → IsStrictlySortedBy class_cmp cs → IsPlaceFrom cs n place → (place < length cs → norm_at cs place ≡ n → ⊥) → ids_at cs n ≡ []
ids_at-missing cs n place s p other = ids_at-none cs n (λ i m same. elim (cases_order i place) [
  | inl is ↦ other (omega (arith, is, m)) (subst (λ j. norm_at cs j ≡ n) is same)
  | inr (inl less) ↦ omega (arith, p.before i less, same)
  | inr (inr more) ↦ omega (arith, sorted_at cs place i s more m, same, p.from place (omega arith) (omega (arith, more, m)))
])

-- where some row has norm n, the search stopped at its class
pub found : (cs : List ClassValue) (n place : ℕ) → IsStrictlySortedBy class_cmp cs → IsPlaceFrom cs n place → 0 < length (ids_at cs n) → (place < length cs) × (norm_at cs place ≡ n)
found cs n place s p some = elim (cases_lt place (length cs)) [
  | inl l ↦ elim (cases_eq (norm_at cs place) n) [
    | inl e ↦ (l, e)
    | inr d ↦ absurd (nothing some (ids_at-missing cs n place s p (λ m e. d e)))
  ]
  | inr l ↦ absurd (nothing some (ids_at-missing cs n place s p (λ m e. omega (arith, l, m))))
]
  where
    nothing : {A : Type 0} {xs : List A} → 0 < length xs → xs ≡ [] → ⊥
    nothing some e = omega (arith, some, ap length e)

-- an element of the list of classes
pub class_at : (cs : List ClassValue) (k : ℕ) (c : ClassValue) → k < length cs → c ≡ get_or cs k c → c ≡ get_or cs k (record { norm = 0; ids = [] })
class_at cs k c l e = e ∙ get_or-default cs k c (record { norm = 0; ids = [] }) l
