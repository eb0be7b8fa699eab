-- The completeness of the lifting by norms: what the minimal stage vectors of norm at most d say of those of the next
-- norm.
-- A minimal stage vector of norm above d waits, or is the sum of a pair of smaller norms; going down the norms, some
-- norm above d and not above its own
-- occurs. So none lies between d and the next norm e. Conversely a sum of norm e over no listed row is minimal, as
-- all below it of smaller norm is listed.
use Rattle.std.proofs.Common.{◌≡◌, ℕ, zero, suc, ◌+◌, ◌-◌, ◌≤◌, ◌<◌, List, refl, ap, ap₂, sym, ◌∙◌, subst, subst₂, arith, inl, inr, ◌⊎◌, le_refl}
use Rattle.std.specs.Prelude.{ℤ, ◌↔◌}
use Rattle.std.specs.List.{Contains}
use Rattle.std.proofs.lemmas.Bool.{cases_lt}
use Rattle.int_vector.specs.Vectors.{norm, dot, ◌⊑◌, IsZero}
use Rattle.int_vector.specs.Operations.{add, AreConformal}
use Rattle.lift_core.specs.Systems.{LinearSystem, row, Solves, ObeysCaps, IsMinimalSolution}
use Rattle.lift_core.specs.Stages.{extend, front, stage_norm, IsStageVector, IsStageMinimal, IsListed, IsWaiting, IsStageList, IsWaitingAt, Occurs, IsNextNorm, HasNoNextNorm}
use Rattle.lift_core.specs.PairSums.{HasSum, IsNewSum}
use Rattle.int_vector.proofs.Vectors.{below_trans, below_norm, below_same, norm_positive, nonzero_from_norm, sum_norm, length-conformal}
use Rattle.lift_core.proofs.Minimal.{minimal_below}
use Rattle.lift_core.proofs.Systems.{solves_closed, solves_sum}
use Rattle.lift_core.proofs.Extended.{pushed_below, extended_positive, positive_extended, extended_closed}
use Rattle.lift_core.proofs.Stages.{front-push, extend-add, minimal_or_pair}

-- a norm above d, and at most that of z, which a waiting row or a pair has
record OccursUpto (listed waiting : List (List ℤ)) (d : ℕ) (z : List ℤ) : Type 0 where
  at : ℕ
  above : d < at
  upto : at ≤ stage_norm z
  occurs : Occurs listed waiting at

-- ---- stage vectors below one another
module _ (S : LinearSystem) (k : ℕ) where
  pub stage_front : (z : List ℤ) (h : IsStageVector S k z) → front z ≡ h.part
  stage_front z h = ap front h.is ∙ front-push h.part (dot (row S k) h.part)

  pub stage_same : (u z : List ℤ) → IsStageVector S k u → IsStageVector S k z → front u ≡ front z → u ≡ z
  stage_same u z p q e =
      let f : p.part ≡ q.part = sym (stage_front u p) ∙ e ∙ stage_front z q in
      p.is ∙ ap (extend (row S k)) f ∙ sym q.is

  pub front_below : (u z : List ℤ) → IsStageVector S k u → IsStageVector S k z → u ⊑ z → front u ⊑ front z
  front_below u z p q b =
      subst₂ (λ (v w : List ℤ). v ⊑ w) (sym (stage_front u p)) (sym (stage_front z q))
      (pushed_below p.part q.part (dot (row S k) p.part) (dot (row S k) q.part) (subst₂ (λ (v w : List ℤ). v ⊑ w) p.is q.is b)).0

  -- of two stage vectors of one norm neither is below the other, unless they are the same
  pub stage_below_same : (u z : List ℤ) → IsStageVector S k u → IsStageVector S k z → u ⊑ z → stage_norm z ≤ stage_norm u → u ≡ z
  stage_below_same u z p q b n = stage_same u z p q (below_same (front u) (front z) (front_below u z p q b) n)

  pub stage_norm-below : (u z : List ℤ) → IsStageVector S k u → IsStageVector S k z → u ⊑ z → stage_norm u ≤ stage_norm z
  stage_norm-below u z p q b = below_norm (front u) (front z) (front_below u z p q b)

  pub stage_positive : (z : List ℤ) → IsStageVector S k z → ¬ IsZero z → 0 < stage_norm z
  stage_positive z p n = omega (arith, ap norm (stage_front z p), extended_positive (row S k) p.part (norm_positive (extend (row S k) p.part) (subst (λ w. ¬ IsZero w) p.is n)))

  pub stage_nonzero : (z : List ℤ) → IsStageVector S k z → 0 < stage_norm z → ¬ IsZero z
  stage_nonzero z p n = subst (λ w. ¬ IsZero w) (sym p.is) (nonzero_from_norm (extend (row S k) p.part) (positive_extended (row S k) p.part (omega (arith, ap norm (stage_front z p)))))

  -- a stage vector over a minimal solution is minimal
  pub stage_minimal_over : (z : List ℤ) → IsStageVector S k z → IsMinimalSolution S (k - 1) (front z) → IsStageMinimal S k z
  stage_minimal_over z p m = record {
    member = p;
    nonzero = stage_nonzero z p (norm_positive (front z) m.nonzero);
    least = λ w q n b. stage_same w z q p (m.least (front w)
        (subst (Solves S (k - 1)) (sym (stage_front w q)) q.member)
        (nonzero_from_norm (front w) (stage_positive w q n))
        (front_below w z q p b));
  }

  -- the sum of a pair of stage vectors, where it is taken, is one
  pub stage_sum : (f g : List ℤ) → IsStageVector S k f → IsStageVector S k g → HasSum S f g → IsStageVector S k (add f g) × (stage_norm (add f g) ≡ stage_norm f + stage_norm g)
  stage_sum f g p q h =
      let r : List ℤ = row S k in
      let c : AreConformal p.part q.part = subst₂ (λ (v w : List ℤ). AreConformal v w) (stage_front f p) (stage_front g q) h.conformal in
      let e : add f g ≡ extend r (add p.part q.part) = ap₂ add p.is q.is ∙ extend-add r p.part q.part (length-conformal p.part q.part c) in
      let fe : front (add f g) ≡ add p.part q.part = ap front e ∙ front-push (add p.part q.part) (dot r (add p.part q.part)) in (
        record {
          part = add p.part q.part;
          member = solves_sum S (k - 1) p.part q.part p.member q.member (subst (ObeysCaps S) fe h.caps);
          is = e;
        },
        omega (arith, ap norm fe, sum_norm p.part q.part c, ap norm (stage_front f p), ap norm (stage_front g q)),
      )

-- ---- the lists at a place
module _ (S : LinearSystem) (k d : ℕ) (listed waiting : List (List ℤ)) (is_listed : IsListed S k d listed) (is_waiting : IsWaiting S k d waiting) where
  in_list : (z : List ℤ) → IsStageMinimal S k z → stage_norm z ≤ d → Contains listed z
  in_list z m n = (is_listed.is.members z).1 (m, n)

  -- a minimal stage vector of norm above d: a waiting row or a pair has a norm above d that is no larger
  occurs_upto : (m : ℕ) (z : List ℤ) → stage_norm z < m → IsStageMinimal S k z → d < stage_norm z → OccursUpto listed waiting d z
  occurs_upto zero z h min a = absurd (omega arith)
  occurs_upto (suc m) z h min a =
      elim (minimal_or_pair S k z min) [
        | inl x ↦ record { at = stage_norm z; above = a; upto = le_refl (stage_norm z); occurs = inl (z, record { waits = (is_waiting.is.members z).1 (min.member, x, a); norm_is = refl }) }
        | inr p ↦ elim (cases_lt d (stage_norm p.first)) [
          | inl l ↦ let o : OccursUpto listed waiting d p.first = occurs_upto m p.first (omega (arith, p.norms, p.second_positive)) p.first_minimal l in
              record { at = o.at; above = o.above; upto = omega (arith, o.upto, p.norms); occurs = o.occurs }
          | inr u ↦ elim (cases_lt d (stage_norm p.second)) [
            | inl l ↦ let o : OccursUpto listed waiting d p.second = occurs_upto m p.second (omega (arith, p.norms, p.first_positive)) p.second_minimal l in
                record { at = o.at; above = o.above; upto = omega (arith, o.upto, p.norms); occurs = o.occurs }
            | inr v ↦ record {
              at = stage_norm z;
              above = a;
              upto = le_refl (stage_norm z);
              occurs = inr (p.first, p.second, record { first_listed = in_list p.first p.first_minimal u; second_listed = in_list p.second p.second_minimal v; above = p.above; under = p.under }, p.norms);
            }
          ]
        ]
      ]

  occurs_at : (z : List ℤ) → IsStageMinimal S k z → d < stage_norm z → OccursUpto listed waiting d z
  occurs_at z = occurs_upto (suc (stage_norm z)) z (omega arith)

  -- where no next norm is, all minimal stage vectors are listed
  pub complete : HasNoNextNorm listed waiting d → IsStageList S k listed
  complete none = record {
    is = record {
      ascending = is_listed.is.ascending;
      members = λ z. (
        λ c. ((is_listed.is.members z).0 c).0,
        λ m. elim (cases_lt d (stage_norm z)) [
          | inl a ↦ let o : OccursUpto listed waiting d z = occurs_at z m a in absurd (none o.at o.above o.occurs)
          | inr b ↦ in_list z m b
        ],
      );
    };
  }

  module _ (e : ℕ) (next : IsNextNorm listed waiting d e) where
    -- no minimal stage vector has a norm between d and the next norm
    pub none_between : (z : List ℤ) → IsStageMinimal S k z → d < stage_norm z → e ≤ stage_norm z
    none_between z m a = let o : OccursUpto listed waiting d z = occurs_at z m a in omega (arith, next.least o.at o.above o.occurs, o.upto)

    pub below_listed : (z : List ℤ) → IsStageMinimal S k z → stage_norm z < e → Contains listed z
    below_listed z m l = elim (cases_lt d (stage_norm z)) [
      | inl a ↦ absurd (omega (arith, none_between z m a))
      | inr b ↦ in_list z m b
    ]

    -- a minimal stage vector of the next norm waits, or is an irreducible sum of a pair
    new_row : (z : List ℤ) → IsStageMinimal S k z → stage_norm z ≡ e → IsWaitingAt waiting e z ⊎ IsNewSum S listed e z
    new_row z m n =
        elim (minimal_or_pair S k z m) [
          | inl x ↦ inl (record { waits = (is_waiting.is.members z).1 (m.member, x, omega (arith, next.above)); norm_is = n })
          | inr p ↦ inr (record {
            first = p.first;
            second = p.second;
            pair = record {
              first_listed = below_listed p.first p.first_minimal (omega (arith, p.norms, p.second_positive));
              second_listed = below_listed p.second p.second_minimal (omega (arith, p.norms, p.first_positive));
              above = p.above;
              under = p.under;
            };
            norms = omega (arith, p.norms);
            sum = record {
              conformal = p.conformal;
              caps = subst (λ w. ObeysCaps S (front w)) p.is (subst (ObeysCaps S) (sym (stage_front S k z m.member)) m.member.member.caps);
            };
            is = p.is;
            irreducible = λ u c b.
                let l : IsStageMinimal S k u × (stage_norm u ≤ d) = (is_listed.is.members u).0 c in
                omega (arith, l.1, next.above, ap stage_norm (m.least u l.0.member l.0.nonzero b));
          })
        ]

    -- and the other way round
    waiting_row_minimal : (z : List ℤ) → Contains waiting z → IsStageMinimal S k z
    waiting_row_minimal z c = let w : IsStageVector S k z × IsMinimalSolution S (k - 1) (front z) × (d < stage_norm z) = (is_waiting.is.members z).0 c in stage_minimal_over S k z w.0 w.1

    new_sum_minimal : (z : List ℤ) → IsNewSum S listed e z → IsStageMinimal S k z × (stage_norm z ≡ e)
    new_sum_minimal z s =
        let f : IsStageMinimal S k s.first × (stage_norm s.first ≤ d) = (is_listed.is.members s.first).0 s.pair.first_listed in
        let g : IsStageMinimal S k s.second × (stage_norm s.second ≤ d) = (is_listed.is.members s.second).0 s.pair.second_listed in
        let t : IsStageVector S k (add s.first s.second) × (stage_norm (add s.first s.second) ≡ stage_norm s.first + stage_norm s.second) = stage_sum S k s.first s.second f.0.member g.0.member s.sum in
        let p : IsStageVector S k z = subst (IsStageVector S k) (sym s.is) t.0 in
        let n : stage_norm z ≡ e = ap stage_norm s.is ∙ t.1 ∙ s.norms in (
          record {
            member = p;
            nonzero = stage_nonzero S k z p (omega (arith, next.above));
            least = λ w q nonzero b.
                let low : (u : List ℤ) × IsStageMinimal S k u × (u ⊑ w) = minimal_below (IsStageVector S k) (extended_closed (Solves S (k - 1)) (solves_closed S (k - 1)) (row S k)) w q (norm_positive w nonzero) in
                let c : low.0 ⊑ z = below_trans low.0 w z low.2 b in
                elim (cases_lt d (stage_norm low.0)) [
                  | inr l ↦ absurd (s.irreducible low.0 (in_list low.0 low.1 l) c)
                  | inl a ↦ stage_below_same S k w z q p b (omega (arith, none_between low.0 low.1 a, stage_norm-below S k low.0 w low.1.member q low.2))
                ];
          },
          n,
        )

    -- the minimal stage vectors of the next norm are the waiting rows of that norm and the irreducible sums
    pub next_rows : (z : List ℤ) → (IsStageMinimal S k z × (stage_norm z ≡ e)) ↔ (IsWaitingAt waiting e z ⊎ IsNewSum S listed e z)
    next_rows z = (
      λ p. new_row z p.0 p.1,
      λ c. elim c [
        | inl w ↦ (waiting_row_minimal z w.waits, w.norm_is)
        | inr s ↦ new_sum_minimal z s
      ],
    )
