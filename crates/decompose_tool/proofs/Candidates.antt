-- The candidates are full vectors of solutions, and those of all minimal ones are among them where the set files hold the wanted lists.
use Rattle.std.proofs.Common.{◌≡◌, zero, suc, List, [], ◌∷◌, ◌++◌, length, get_or, drop, refl, ap, ap₂, sym, ◌∙◌, subst, inl, inr, ◌⊎◌, arith, Bool, true, false, not, Option, None, Some, append_assoc}
use Rattle.std.specs.Prelude.{ℤ, pos, negsuc, ◌≤ℤ◌}
use Rattle.std.specs.List.{AllByRecursion, Contains}
use Rattle.std.proofs.lemmas.Int.{ints}
use Rattle.int_vector.specs.Vectors.{IsZero, negated, leads_negative}
use Rattle.mat_files.specs.Cells.{Matrix}
use Rattle.lift_core.specs.declared.Tool.{Tool}
use Rattle.lift_core.specs.declared.Tool.TheVariants.{Graver, Hilbert, Zsolve}
use Rattle.lift_core.specs.Columns.{Homogeneous, Inhomogeneous, Every}
use Rattle.lift_core.proofs.Lists.{contains_cases, contains_head, contains_tail, contains_nothing}
use Rattle.lift_core.proofs.Systems.{test_same}
use Rattle.lift_core.proofs.Written.{one_leads_negative}
use Rattle.system_shape.specs.Problem.{UserSystem, IsX0, full_vector, IsUserSolution, IsMinimalForUser, IsMinimalOfKind, IsWantedForUser, IsWantedGraverForUser}
use Rattle.system_shape.specs.Shape.{has_x0}
use Rattle.system_files.specs.Kernel.{rows_in}
use Rattle.system_files.proofs.Negatives.{negated_twice}
use Rattle.decompose_tool.specs.declared.reading.Sets.{Sets}
use Rattle.decompose_tool.specs.Rows.{Part, IsSoundRow, AreSound, is_zero, unless_zero, AreOfRow, AreOfRows, AreCandidates, set_parts, second_part, HoldWanted, HoldsHomogeneous}

-- ---- a vector unless it is zero
pub zero_of_test : (v : List ℤ) → is_zero v ≡ true → IsZero v
zero_of_test [] e = tt
zero_of_test (pos zero ∷ v) e = (refl, zero_of_test v e)
zero_of_test (pos (suc a) ∷ v) e = absurd (cc)
zero_of_test (negsuc a ∷ v) e = absurd (cc)

pub test_of_zero : (v : List ℤ) → IsZero v → is_zero v ≡ true
test_of_zero [] h = refl
test_of_zero (pos zero ∷ v) h = test_of_zero v h.1
test_of_zero (pos (suc a) ∷ v) h = absurd (let e : pos (suc a) ≡ pos 0 = h.0 in cc)
test_of_zero (negsuc a ∷ v) h = absurd (let e : negsuc a ≡ pos 0 = h.0 in cc)

pub kept_vector : (v : List ℤ) → is_zero v ≡ false → unless_zero v ≡ v ∷ []
kept_vector v e = rw e refl

pub dropped_vector : (v : List ℤ) → is_zero v ≡ true → unless_zero v ≡ []
dropped_vector v e = rw e refl

nonzero_there : (v : List ℤ) → ¬ IsZero v → Contains (unless_zero v) v
nonzero_there v n =
    elim (is_zero v) as (λ b. is_zero v ≡ b → Contains (unless_zero v) v) [
      | true ↦ λ e. absurd (n (zero_of_test v e))
      | false ↦ λ e. subst (λ (us : List (List ℤ)). Contains us v) (sym (kept_vector v e)) (contains_head v [])
    ] refl

-- ---- joined lists
in_first : (us vs : List (List ℤ)) (v : List ℤ) → Contains us v → Contains (us ++ vs) v
in_first [] vs v h = absurd (contains_nothing v h)
in_first (u ∷ us) vs v h =
    elim (contains_cases u us v h) [
      | inl e ↦ subst (Contains (u ∷ (us ++ vs))) e (contains_head u (us ++ vs))
      | inr k ↦ contains_tail u (us ++ vs) v (in_first us vs v k)
    ]

in_second : (us vs : List (List ℤ)) (v : List ℤ) → Contains vs v → Contains (us ++ vs) v
in_second [] vs v h = h
in_second (u ∷ us) vs v h = contains_tail u (us ++ vs) v (in_second us vs v h)

pub each_append : {X : Type 0} (P : X → Type 0) (us vs : List X) → AllByRecursion P us → AllByRecursion P vs → AllByRecursion P (us ++ vs)
each_append P [] vs h k = k
each_append P (u ∷ us) vs h k = (h.0, each_append P us vs h.1 k)

pub each_first : {X : Type 0} (P : X → Type 0) (us vs : List X) → AllByRecursion P (us ++ vs) → AllByRecursion P us
each_first P [] vs h = tt
each_first P (u ∷ us) vs h = (h.0, each_first P us vs h.1)

pub each_second : {X : Type 0} (P : X → Type 0) (us vs : List X) → AllByRecursion P (us ++ vs) → AllByRecursion P vs
each_second P [] vs h = h
each_second P (u ∷ us) vs h = each_second P us vs h.1

-- ---- each candidate is a solution's
abbrev pub IsSolutions : UserSystem → List ℤ → Type 0
IsSolutions U u = (d : ℤ) × (y : List ℤ) × IsUserSolution U d y × (u ≡ full_vector U d y)

one_solution's : (U : UserSystem) (c : ℤ) (x : List ℤ) → IsUserSolution U c x → AllByRecursion (IsSolutions U) (unless_zero (full_vector U c x))
one_solution's U c x s =
    elim (is_zero (full_vector U c x)) as (λ b. is_zero (full_vector U c x) ≡ b → AllByRecursion (IsSolutions U) (unless_zero (full_vector U c x))) [
      | true ↦ λ e. subst (AllByRecursion (IsSolutions U)) (sym (dropped_vector (full_vector U c x) e)) tt
      | false ↦ λ e. subst (AllByRecursion (IsSolutions U)) (sym (kept_vector (full_vector U c x) e)) ((c, x, s, refl), tt)
    ] refl

of_row : (tool : Tool) (U : UserSystem) (c : ℤ) (x : List ℤ) (us : List (List ℤ)) → IsUserSolution U c x → AreOfRow tool U c x us → AllByRecursion (IsSolutions U) us
of_row Graver U c x us s (inl h) =
    subst (AllByRecursion (IsSolutions U)) (sym h.1)
    (each_append (IsSolutions U) (unless_zero (full_vector U c x)) (unless_zero (full_vector U c (negated x))) (one_solution's U c x s) (one_solution's U c (negated x) h.0))
of_row Graver U c x us s (inr h) = subst (AllByRecursion (IsSolutions U)) (sym h.1) (one_solution's U c x s)
of_row Hilbert U c x us s h = subst (AllByRecursion (IsSolutions U)) (sym h) (one_solution's U c x s)
of_row Zsolve U c x us s h = subst (AllByRecursion (IsSolutions U)) (sym h) (one_solution's U c x s)

of_rows : (tool : Tool) (U : UserSystem) (c : ℤ) (rows us : List (List ℤ)) → AllByRecursion (IsSoundRow U c) rows → AreOfRows tool U c rows us → AllByRecursion (IsSolutions U) us
of_rows tool U c [] us s h = subst (AllByRecursion (IsSolutions U)) (sym h) tt
of_rows tool U c (x ∷ rows) us s h =
    subst (AllByRecursion (IsSolutions U)) (sym h.4)
    (each_append (IsSolutions U) h.0 h.1 (of_row tool U c x h.0 (s.0).solution h.2) (of_rows tool U c rows h.1 s.1 h.3))

pub of_parts : (tool : Tool) (U : UserSystem) (parts : List Part) (us : List (List ℤ)) → AllByRecursion (AreSound U) parts → AreCandidates tool U parts us → AllByRecursion (IsSolutions U) us
of_parts tool U [] us s h = subst (AllByRecursion (IsSolutions U)) (sym h) tt
of_parts tool U (p ∷ parts) us s h =
    subst (AllByRecursion (IsSolutions U)) (sym h.4)
    (each_append (IsSolutions U) h.0 h.1 (of_rows tool U p.times p.rows h.0 s.0 h.2) (of_parts tool U parts h.1 s.1 h.3))

-- ---- a row's full vector is a candidate
row_there : (tool : Tool) (U : UserSystem) (c : ℤ) (x : List ℤ) (us : List (List ℤ)) → AreOfRow tool U c x us → ¬ IsZero (full_vector U c x) → Contains us (full_vector U c x)
row_there Graver U c x us (inl h) n =
    subst (λ (l : List (List ℤ)). Contains l (full_vector U c x)) (sym h.1)
    (in_first (unless_zero (full_vector U c x)) (unless_zero (full_vector U c (negated x))) (full_vector U c x) (nonzero_there (full_vector U c x) n))
row_there Graver U c x us (inr h) n = subst (λ (l : List (List ℤ)). Contains l (full_vector U c x)) (sym h.1) (nonzero_there (full_vector U c x) n)
row_there Hilbert U c x us h n = subst (λ (l : List (List ℤ)). Contains l (full_vector U c x)) (sym h) (nonzero_there (full_vector U c x) n)
row_there Zsolve U c x us h n = subst (λ (l : List (List ℤ)). Contains l (full_vector U c x)) (sym h) (nonzero_there (full_vector U c x) n)

rows_there : (tool : Tool) (U : UserSystem) (c : ℤ) (rows : List (List ℤ)) (x : List ℤ) (us : List (List ℤ)) → AreOfRows tool U c rows us → Contains rows x → ¬ IsZero (full_vector U c x) → Contains us (full_vector U c x)
rows_there tool U c [] x us h k n = absurd (contains_nothing x k)
rows_there tool U c (y ∷ rows) x us h k n =
    subst (λ (l : List (List ℤ)). Contains l (full_vector U c x)) (sym h.4)
    (elim (contains_cases y rows x k) [
      | inl e ↦ in_first h.0 h.1 (full_vector U c x)
          (subst (λ (z : List ℤ). Contains h.0 (full_vector U c z)) e (row_there tool U c y h.0 h.2 (subst (λ (z : List ℤ). ¬ IsZero (full_vector U c z)) (sym e) n)))
      | inr t ↦ in_second h.0 h.1 (full_vector U c x) (rows_there tool U c rows x h.1 h.3 t n)
    ])

-- and for graver that of its negative, where it is a solution
negative_there : (U : UserSystem) (c : ℤ) (rows : List (List ℤ)) (x : List ℤ) (us : List (List ℤ)) → AreOfRows Graver U c rows us → Contains rows x → IsUserSolution U c (negated x) →
    ¬ IsZero (full_vector U c (negated x)) → Contains us (full_vector U c (negated x))
negative_there U c [] x us h k s n = absurd (contains_nothing x k)
negative_there U c (y ∷ rows) x us h k s n =
    subst (λ (l : List (List ℤ)). Contains l (full_vector U c (negated x))) (sym h.4)
    (elim (contains_cases y rows x k) [
      | inl e ↦ in_first h.0 h.1 (full_vector U c (negated x)) (of_this e h.0 h.2)
      | inr t ↦ in_second h.0 h.1 (full_vector U c (negated x)) (negative_there U c rows x h.1 h.3 t s n)
    ])
  where
    of_this : y ≡ x → (first : List (List ℤ)) → AreOfRow Graver U c y first → Contains first (full_vector U c (negated x))
    of_this e first (inl g) =
        subst (λ (l : List (List ℤ)). Contains l (full_vector U c (negated x))) (sym g.1)
        (in_second (unless_zero (full_vector U c y)) (unless_zero (full_vector U c (negated y))) (full_vector U c (negated x))
        (subst (λ (z : List ℤ). Contains (unless_zero (full_vector U c (negated z))) (full_vector U c (negated x))) (sym e) (nonzero_there (full_vector U c (negated x)) n)))
    of_this e first (inr g) = absurd (g.0 (subst (λ (z : List ℤ). IsUserSolution U c (negated z)) (sym e) s))

-- ---- being there can be tried
same_vector : (u v : List ℤ) → (u ≡ v) ⊎ (u ≡ v → ⊥)
same_vector [] [] = inl refl
same_vector [] (y ∷ v) = inr (λ e. omega (arith, ap length e))
same_vector (x ∷ u) [] = inr (λ e. omega (arith, ap length e))
same_vector (x ∷ u) (y ∷ v) =
    elim (test_same x y) [
      | inr out ↦ inr (λ e. out (ap (λ l. get_or l 0 (pos 0)) e))
      | inl a ↦ elim (same_vector u v) [
        | inl b ↦ inl (ap₂ (λ z w. z ∷ w) a b)
        | inr out ↦ inr (λ e. out (ap (drop 1) e))
      ]
    ]

there_or_not : (us : List (List ℤ)) (v : List ℤ) → Contains us v ⊎ (Contains us v → ⊥)
there_or_not [] v = inr (λ c. contains_nothing v c)
there_or_not (u ∷ us) v =
    elim (same_vector u v) [
      | inl e ↦ inl (subst (Contains (u ∷ us)) e (contains_head u us))
      | inr out ↦ elim (there_or_not us v) [
        | inl c ↦ inl (contains_tail u us v c)
        | inr no_more ↦ inr (λ c. elim (contains_cases u us v c) [ inl e ↦ out e | inr d ↦ no_more d ])
      ]
    ]

not_not : (us : List (List ℤ)) (v : List ℤ) → ((Contains us v → ⊥) → ⊥) → Contains us v
not_not us v h = elim (there_or_not us v) [ inl c ↦ c | inr out ↦ absurd (h out) ]

-- ---- all minimal ones
is_true : (b : Bool) → (b ≡ false → ⊥) → b ≡ true
is_true true h = refl
is_true false h = absurd (h refl)

not_both : (b : Bool) → b ≡ true → not b ≡ true → ⊥
not_both true e f = cc
not_both false e f = cc

leads_nonzero : (y : List ℤ) → leads_negative y ≡ true → IsZero y → ⊥
leads_nonzero [] e z = cc
leads_nonzero (pos zero ∷ v) e z = leads_nonzero v e z.1
leads_nonzero (pos (suc a) ∷ v) e z = cc
leads_nonzero (negsuc a ∷ v) e z = let f : negsuc a ≡ pos 0 = z.0 in cc

zero_vector : (U : UserSystem) (c : ℤ) (x : List ℤ) → U.has_x0 ≡ false → IsX0 U.has_x0 c → c ≡ pos 0
zero_vector U c x e h = subst (λ (b : Bool). IsX0 b c) e h

module _ (U : UserSystem) (none : U.has_x0 ≡ false) where
  at_zero : (d : ℤ) (y : List ℤ) → IsMinimalForUser U d y → d ≡ pos 0
  at_zero d y m = zero_vector U d y none m.solution.factor

  written : (d : ℤ) (y : List ℤ) → IsMinimalForUser U d y → IsMinimalOfKind U Every y
  written d y m = record { c = d; of_kind = tt; minimal = m }

  pub hilbert_there : (rows us : List (List ℤ)) → IsWantedForUser U Every rows → AreOfRows Hilbert U (pos 0) rows us → (d : ℤ) (y : List ℤ) → IsMinimalForUser U d y → Contains us (full_vector U d y)
  hilbert_there rows us w h d y m =
      let e : d ≡ pos 0 = at_zero d y m in
      subst (λ (k : ℤ). Contains us (full_vector U k y)) (sym e)
      (rows_there Hilbert U (pos 0) rows y us h ((w.members y).1 (written d y m)) (subst (λ (k : ℤ). ¬ IsZero (full_vector U k y)) e m.nonzero))

  graver_there_at : (rows us : List (List ℤ)) → IsWantedGraverForUser U rows → AreOfRows Graver U (pos 0) rows us → (y : List ℤ) → IsMinimalForUser U (pos 0) y → (Contains us (full_vector U (pos 0) y) → ⊥) → ⊥
  graver_there_at rows us w h y m out =
      let not_row : Contains rows y → ⊥ = λ k. out (rows_there Graver U (pos 0) rows y us h k m.nonzero) in
      let not_negative : IsMinimalOfKind U Every (negated y) → ⊥ = λ t.
      let leads : leads_negative y ≡ true = is_true (leads_negative y) (λ e. not_row ((w.members y).1 (written (pos 0) y m, λ _ i. let f : leads_negative y ≡ true = i in cc))) in
      let minimal : IsMinimalForUser U (pos 0) (negated y) = subst (λ (k : ℤ). IsMinimalForUser U k (negated y)) (at_zero t.c (negated y) t.minimal) t.minimal in
      let row : Contains rows (negated y) = (w.members (negated y)).1 (
        t,
        λ back i.
            let nonzero : ¬ IsZero y = leads_nonzero y leads in
            not_both (leads_negative y) leads (sym (one_leads_negative y nonzero) ∙ i),
      ) in
      let back : negated (negated y) ≡ y = negated_twice y in
      out (subst (λ (z : List ℤ). Contains us (full_vector U (pos 0) z)) back
      (negative_there U (pos 0) rows (negated y) us h row (subst (IsUserSolution U (pos 0)) (sym back) m.solution) (subst (λ (z : List ℤ). ¬ IsZero (full_vector U (pos 0) z)) (sym back) m.nonzero))) in
      not_row ((w.members y).1 (written (pos 0) y m, λ t i. not_negative t))

  pub graver_there : (rows us : List (List ℤ)) → IsWantedGraverForUser U rows → AreOfRows Graver U (pos 0) rows us → (d : ℤ) (y : List ℤ) → IsMinimalForUser U d y → Contains us (full_vector U d y)
  graver_there rows us w h d y m =
      let e : d ≡ pos 0 = at_zero d y m in
      subst (λ (k : ℤ). Contains us (full_vector U k y)) (sym e)
      (not_not us (full_vector U (pos 0) y) (graver_there_at rows us w h y (subst (λ (k : ℤ). IsMinimalForUser U k y) e m)))

-- ---- zsolve has two files
zero_or_one : (U : UserSystem) (d : ℤ) → U.has_x0 ≡ true → IsX0 U.has_x0 d → (d ≡ pos 0) ⊎ (d ≡ pos 1)
zero_or_one U d e h = between d (subst (λ (b : Bool). IsX0 b d) e h)
  where
    between : (d : ℤ) → (pos 0 ≤ℤ d) × (d ≤ℤ pos 1) → (d ≡ pos 0) ⊎ (d ≡ pos 1)
    between (pos zero) h = inl refl
    between (pos (suc zero)) h = inr refl
    between (pos (suc (suc n))) h = absurd (omega (arith, ints, h.1))
    between (negsuc n) h = absurd (omega (arith, ints, h.0))

zsolve_there : (U : UserSystem) (first second us vs : List (List ℤ)) → U.has_x0 ≡ true → IsWantedForUser U Inhomogeneous first → IsWantedForUser U Homogeneous second →
    AreOfRows Zsolve U (pos 1) first us → AreOfRows Zsolve U (pos 0) second vs → (d : ℤ) (y : List ℤ) → IsMinimalForUser U d y → Contains (us ++ vs) (full_vector U d y)
zsolve_there U first second us vs e w v h k d y m =
    elim (zero_or_one U d e m.solution.factor) [
      | inl z ↦ in_second us vs (full_vector U d y)
          (subst (λ (c : ℤ). Contains vs (full_vector U c y)) (sym z)
          (rows_there Zsolve U (pos 0) second y vs k ((v.members y).1 (record { c = d; of_kind = z; minimal = m })) (subst (λ (c : ℤ). ¬ IsZero (full_vector U c y)) z m.nonzero)))
      | inr o ↦ in_first us vs (full_vector U d y)
          (subst (λ (c : ℤ). Contains us (full_vector U c y)) (sym o)
          (rows_there Zsolve U (pos 1) first y us h ((w.members y).1 (record { c = d; of_kind = o; minimal = m })) (subst (λ (c : ℤ). ¬ IsZero (full_vector U c y)) o m.nonzero)))
    ]

pub all_there : (tool : Tool) (U : UserSystem) (sets : Sets) (us : List (List ℤ)) → U.has_x0 ≡ has_x0 tool → HoldWanted tool U sets → AreCandidates tool U (set_parts tool sets) us →
    (d : ℤ) (y : List ℤ) → IsMinimalForUser U d y → Contains us (full_vector U d y)
all_there Graver U sets us e w h d y m =
    subst (λ (l : List (List ℤ)). Contains l (full_vector U d y)) (sym h.4) (in_first h.0 h.1 (full_vector U d y) (graver_there U e (rows_in sets.first) h.0 w h.2 d y m))
all_there Hilbert U sets us e w h d y m =
    subst (λ (l : List (List ℤ)). Contains l (full_vector U d y)) (sym h.4) (in_first h.0 h.1 (full_vector U d y) (hilbert_there U e (rows_in sets.first) h.0 w h.2 d y m))
all_there Zsolve U sets us e w h d y m = subst (λ (l : List (List ℤ)). Contains l (full_vector U d y)) (sym h.4) (with_second sets.second w.1 h.1 h.3)
  where
    with_second : (second : Option Matrix) → HoldsHomogeneous U second → (others : List (List ℤ)) → AreCandidates Zsolve U (second_part second) others → Contains (h.0 ++ others) (full_vector U d y)
    with_second None v others k = absurd v
    with_second (Some matrix) v others k =
        subst (λ (l : List (List ℤ)). Contains (h.0 ++ l) (full_vector U d y)) (sym k.4)
        (subst (λ (l : List (List ℤ)). Contains l (full_vector U d y)) (append_assoc h.0 k.0 k.1)
        (in_first (h.0 ++ k.0) k.1 (full_vector U d y) (zsolve_there U (rows_in sets.first) (rows_in matrix) h.0 k.0 e w.0 v h.2 k.2 d y m)))
