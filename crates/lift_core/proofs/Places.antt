-- From the lists at a place to those at the next: at the next norm, and from a finished stage to the first place of
-- the next stage.
-- The growth law gives the members of the new lists, and the orders are kept: stage vectors in order have their
-- solutions in order, and the other way
-- round. The rows of the next norm are in no pair of at most that norm, so the used pairs grow by the pairs of the
-- old list alone.
use Rattle.std.proofs.Common.{◌≡◌, ℕ, ◌+◌, ◌-◌, ◌≤◌, ◌<◌, List, [], ◌∷◌, ◌++◌, length, refl, ap, sym, ◌∙◌, subst, subst₂, arith, inl, inr, Bool, true, not, Less, Equal, Greater, eqb, leb}
use Rattle.std.specs.Prelude.{ℤ, pos, map, int_lt, ◌<ℤ◌}
use Rattle.std.specs.List.{Contains, AllByRecursion, filter}
use Rattle.std.specs.List.Sorted.{IsStrictlySortedBy}
use Rattle.std.specs.Ordering.{int_eq, ordering_reverse}
use Rattle.std.proofs.lemmas.Bool.{cases_lt, le-leb, leb-true, leb-false, ne_eqb, eqb-false, not-true}
use Rattle.std.proofs.lemmas.Bool.Decides.{Decides-int_eq}
use Rattle.std.proofs.lemmas.Int.{ints}
use Rattle.std.proofs.lemmas.List.Kept.{IsStrictlySortedBy-filter}
use Rattle.int_vector.specs.Vectors.{norm, dot}
use Rattle.lift_core.specs.Systems.{LinearSystem, row, Solves, IsMinimalSolution}
use Rattle.lift_core.specs.Stages.{extend, front, last, stage_norm, norm_cmp, IsStageVector, IsStageMinimal, IsListed, IsWaiting, IsStageList, IsNextNorm, HasNoNextNorm, pairs_within, all_pairs, ArePairsBefore, AreUsed}
use Rattle.lift_core.specs.Lists.{IsListOf}
use Rattle.lift_core.specs.Ends.{solution_cmp, IsSolutionList}
use Rattle.lift_core.specs.Walks.{solutions_in, still_waiting, IsGrown, used_up_to}
use Rattle.int_vector.proofs.Vectors.{norm_positive}
use Rattle.lift_core.proofs.Systems.{solution_length}
use Rattle.lift_core.proofs.Stages.{front-push}
use Rattle.lift_core.proofs.Growth.{stage_front, stage_same, stage_positive, none_between, below_listed, next_rows}
use Rattle.lift_core.proofs.Lists.{contains_nothing, each_from_contained, not_before_itself, not_both_before, one_list}
use Rattle.lift_core.proofs.Orders.{norm_cmp_total, solution_cmp_total, solution_same, before_pushed, in_filter, from_filter, in_map, from_map, map_ascending}
use Rattle.lift_core.proofs.Counts.{pairs_within-filter, pairs_within-all, pairs_within-more}
use Rattle.lift_core.proofs.Composition.{solution_of_stage_row, stage_row_of_solution, last_of_solution}

module _ (S : LinearSystem) (k d : ℕ) (listed waiting : List (List ℤ)) (is_listed : IsListed S k d listed) (is_waiting : IsWaiting S k d waiting) where
  module _ (e : ℕ) (next : IsNextNorm listed waiting d e) where
    -- the grown list is the one at the next norm
    pub grown_listed : (grown : List (List ℤ)) → IsGrown S listed waiting e grown → IsListed S k e grown
    grown_listed grown g = record {
      is = record {
        ascending = g.ascending;
        members = λ z. (
          λ c. elim ((g.members z).0 c) [
            | inl l ↦ let r : IsStageMinimal S k z × (stage_norm z ≤ d) = (is_listed.is.members z).0 l in (r.0, omega (arith, r.1, next.above))
            | inr n ↦ let r : IsStageMinimal S k z × (stage_norm z ≡ e) = (next_rows S k d listed waiting is_listed is_waiting e next z).1 n in (r.0, omega (arith, r.1))
          ],
          λ m. elim (cases_lt (stage_norm z) e) [
            | inl l ↦ (g.members z).1 (inl (below_listed S k d listed waiting is_listed is_waiting e next z m.0 l))
            | inr u ↦ (g.members z).1 (inr ((next_rows S k d listed waiting is_listed is_waiting e next z).0 (m.0, omega (arith, m.1))))
          ],
        );
      };
    }

    -- the rows of other norms wait on
    pub still_waits : IsWaiting S k e (still_waiting e waiting)
    still_waits = record {
      is = record {
        ascending = IsStrictlySortedBy-filter norm_cmp (λ z. not (eqb (stage_norm z) e)) waiting is_waiting.is.ascending;
        members = λ z. (
          λ c.
              let f : Contains waiting z × (not (eqb (stage_norm z) e) ≡ true) = from_filter (λ z. not (eqb (stage_norm z) e)) waiting z c in
              let r : IsStageVector S k z × IsMinimalSolution S (k - 1) (front z) × (d < stage_norm z) = (is_waiting.is.members z).0 f.0 in
              let u : e ≤ stage_norm z = next.least (stage_norm z) r.2 (inl (z, record { waits = f.0; norm_is = refl })) in
              let n : stage_norm z ≡ e → ⊥ = eqb-false (stage_norm z) e (not-true (eqb (stage_norm z) e) f.1) in
              (r.0, r.1, omega arith),
          λ m. in_filter (λ z. not (eqb (stage_norm z) e)) waiting z
              ((is_waiting.is.members z).1 (m.0, m.1, omega (arith, m.2, next.above)))
              (ap not (ne_eqb (stage_norm z) e (λ q. omega (arith, m.2, q)))),
        );
      };
    }

    -- there are as many pairs of norm at most e among the rows of norm at most e as among those before
    pub pairs_within-grown : (grown : List (List ℤ)) → IsListed S k e grown → pairs_within grown e ≡ pairs_within listed e
    pairs_within-grown grown g =
        let before : List ℤ → Bool = λ z. leb (stage_norm z) d in
        let old : IsListOf norm_cmp (λ z. IsStageMinimal S k z × (stage_norm z ≤ d)) (filter before grown) = record {
          ascending = IsStrictlySortedBy-filter norm_cmp before grown g.is.ascending;
          members = λ z. (
            λ c. let f : Contains grown z × (before z ≡ true) = from_filter before grown z c in (((g.is.members z).0 f.0).0, leb-true (stage_norm z) d f.1),
            λ m. in_filter before grown z ((g.is.members z).1 (m.0, omega (arith, m.1, next.above))) (le-leb (stage_norm z) d m.1),
          );
        } in
        let same : filter before grown ≡ listed = one_list norm_cmp norm_cmp_total (λ z. IsStageMinimal S k z × (stage_norm z ≤ d)) (filter before grown) listed old is_listed.is in
        sym (pairs_within-filter before grown e
        (λ z c. let m : IsStageMinimal S k z × (stage_norm z ≤ e) = (g.is.members z).0 c in stage_positive S k z m.0.member m.0.nonzero)
        (λ z c t. none_between S k d listed waiting is_listed is_waiting e next z ((g.is.members z).0 c).0 (leb-false (stage_norm z) d t)))
        ∙ ap (λ l. pairs_within l e) same

    pub used_next : (used : ℕ) → AreUsed S k d used → (grown : List (List ℤ)) → IsListed S k e grown → AreUsed S k e (used_up_to used listed d e)
    used_next used u grown g = record {
      before = u.before;
      pairs_before = u.pairs_before;
      listed = grown;
      is_listed = g;
      sum =
          let same : u.listed ≡ listed = one_list norm_cmp norm_cmp_total (λ z. IsStageMinimal S k z × (stage_norm z ≤ d)) u.listed listed u.is_listed.is is_listed.is in
          let n : pairs_within u.listed d ≡ pairs_within listed d = ap (λ l. pairs_within l d) same in
          omega (arith, u.sum, n, pairs_within-grown grown g, pairs_within-more listed d e (omega (arith, next.above)));
    }

  module _ (none : HasNoNextNorm listed waiting d) where
    -- all pairs of a finished stage are used
    pub all_used : (used : ℕ) → AreUsed S k d used → (m : ℕ) × ArePairsBefore S k m × (used ≡ m + all_pairs listed)
    all_used used u =
        let same : u.listed ≡ listed = one_list norm_cmp norm_cmp_total (λ z. IsStageMinimal S k z × (stage_norm z ≤ d)) u.listed listed u.is_listed.is is_listed.is in
        let n : pairs_within u.listed d ≡ pairs_within listed d = ap (λ l. pairs_within l d) same in
        let a : pairs_within listed d ≡ all_pairs listed = pairs_within-all listed d (λ f g c q p r. elim (cases_lt d (stage_norm f + stage_norm g)) [
          | inl l ↦ absurd (none (stage_norm f + stage_norm g) l (inr (f, g, record { first_listed = c; second_listed = q; above = is_less (pos 0) (last f) p; under = is_less (last g) (pos 0) r }, refl)))
          | inr h ↦ h
        ]) in
        (u.before, u.pairs_before, omega (arith, u.sum, n, a))
      where
        is_less : (x y : ℤ) → int_lt x y ≡ true → x <ℤ y
        is_less x y p = omega (arith, ints)

-- ---- from a finished stage to the next
int_eq-same : (x y : ℤ) → int_eq x y ≡ true → x ≡ y
int_eq-same x y = (Decides-int_eq x y).0

same-int_eq : (x y : ℤ) → x ≡ y → int_eq x y ≡ true
same-int_eq x y = (Decides-int_eq x y).1

-- the fronts of stage vectors in order are in order
pub fronts_before : (S : LinearSystem) (k : ℕ) (z y : List ℤ) → IsStageVector S k z → IsStageVector S k y → norm_cmp z y ≡ Less → solution_cmp (front z) (front y) ≡ Less
fronts_before S k z y p q e =
    let same_length : length (front z) ≡ length (front y) = ap length (stage_front S k z p) ∙ solution_length S (k - 1) p.part p.member ∙ sym (solution_length S (k - 1) q.part q.member) ∙ ap length (sym (stage_front S k y q)) in
    elim (solution_cmp (front z) (front y)) as (λ o. solution_cmp (front z) (front y) ≡ o → solution_cmp (front z) (front y) ≡ Less) [
      | Less ↦ λ f. f
      | Equal ↦ λ f.
          let s : z ≡ y = stage_same S k z y p q (solution_same (front z) (front y) f) in
          absurd (not_before_itself norm_cmp norm_cmp_total y (subst (λ w. norm_cmp w y ≡ Less) s e))
      | Greater ↦ λ f.
          let g : solution_cmp (front y) (front z) ≡ Less = solution_cmp_total.antisymm (front y) (front z) ∙ ap ordering_reverse f in
          let h : norm_cmp (front y ++ (dot (row S k) q.part ∷ [])) (front z ++ (dot (row S k) p.part ∷ [])) ≡ Less = before_pushed (front y) (front z) (dot (row S k) q.part) (dot (row S k) p.part) (sym same_length) g in
          let yz : norm_cmp y z ≡ Less = subst₂ (λ (a b : List ℤ). norm_cmp a b ≡ Less) (ap (λ w. w ++ (dot (row S k) q.part ∷ [])) (stage_front S k y q) ∙ sym q.is) (ap (λ w. w ++ (dot (row S k) p.part ∷ [])) (stage_front S k z p) ∙ sym p.is) h in
          absurd (not_both_before norm_cmp norm_cmp_total z y e yz)
    ] refl

-- the rows with last entry 0 of all minimal stage vectors, without it, are the minimal solutions
pub solutions_are : (S : LinearSystem) (k : ℕ) → 0 < k → k ≤ length S.rows → (rows : List (List ℤ)) → IsStageList S k rows → IsSolutionList S k (solutions_in rows)
solutions_are S k first up_to rows list =
    let zero_last : List ℤ → Bool = λ z. int_eq (last z) (pos 0) in
    let each : AllByRecursion (IsStageVector S k) (filter zero_last rows) = each_from_contained (IsStageVector S k) (filter zero_last rows) (λ z c. ((list.is.members z).0 (from_filter zero_last rows z c).0).member) in
    record {
      ascending = map_ascending front norm_cmp solution_cmp (IsStageVector S k) (fronts_before S k) (filter zero_last rows) each (IsStrictlySortedBy-filter norm_cmp zero_last rows list.is.ascending);
      members = λ v. (
        λ c.
            let m : (z : List ℤ) × Contains (filter zero_last rows) z × (v ≡ front z) = from_map front (filter zero_last rows) v c in
            let f : Contains rows m.0 × (zero_last m.0 ≡ true) = from_filter zero_last rows m.0 m.1 in
            subst (IsMinimalSolution S k) (sym m.2) (solution_of_stage_row S k first up_to m.0 ((list.is.members m.0).0 f.0) (int_eq-same (last m.0) (pos 0) f.1)),
        λ m.
            let z : List ℤ = extend (row S k) v in
            let c : Contains (filter zero_last rows) z = in_filter zero_last rows z ((list.is.members z).1 (stage_row_of_solution S k first up_to v m)) (same-int_eq (last z) (pos 0) (last_of_solution S k first up_to v m.member)) in
            subst (Contains (solutions_in rows)) (front-push v (dot (row S k) v)) (in_map front (filter zero_last rows) z c),
      );
    }

-- at norm 0 nothing is listed, and the minimal solutions wait
pub nothing_listed : (S : LinearSystem) (k : ℕ) → IsListed S k 0 []
unfolding IsStrictlySortedBy
nothing_listed S k = record {
  is = record {
    ascending = tt;
    members = λ z. (λ c. absurd (contains_nothing z c), λ m. absurd (omega (arith, m.1, stage_positive S k z m.0.member m.0.nonzero)));
  };
}

pub solutions_wait : (S : LinearSystem) (k : ℕ) (rows : List (List ℤ)) → IsSolutionList S k rows → IsWaiting S (k + 1) 0 (map (extend (row S (k + 1))) rows)
solutions_wait S k rows list =
    let r : List ℤ = row S (k + 1) in
    let same : k + 1 - 1 ≡ k = omega arith in
    record {
      is = record {
        ascending = map_ascending (extend r) solution_cmp norm_cmp (Solves S k)
            (λ u v p q e. before_pushed u v (dot r u) (dot r v) (solution_length S k u p ∙ sym (solution_length S k v q)) e)
            rows (each_from_contained (Solves S k) rows (λ v c. ((list.members v).0 c).member)) list.ascending;
        members = λ z. (
          λ c.
              let m : (v : List ℤ) × Contains rows v × (z ≡ extend r v) = from_map (extend r) rows z c in
              let q : IsMinimalSolution S k m.0 = (list.members m.0).0 m.1 in
              let f : front z ≡ m.0 = ap front m.2 ∙ front-push m.0 (dot r m.0) in (
                record { part = m.0; member = subst (λ n. Solves S n m.0) (sym same) q.member; is = m.2 },
                subst₂ (λ (n : ℕ) (v : List ℤ). IsMinimalSolution S n v) (sym same) (sym f) q,
                omega (arith, norm_positive m.0 q.nonzero, ap norm f),
              ),
          λ m.
              let f : front z ≡ m.0.part = stage_front S (k + 1) z m.0 in
              let q : IsMinimalSolution S k m.0.part = subst₂ (λ (n : ℕ) (v : List ℤ). IsMinimalSolution S n v) same f m.1 in
              subst (Contains (map (extend r) rows)) (sym m.0.is) (in_map (extend r) rows m.0.part ((list.members m.0.part).1 q)),
        );
      };
    }
