-- At most one list is listed, waits, is the list of a stage or of the solutions, or is grown; at most one number is
-- that of the used pairs, and at most one
-- norm is next. Each list is an ascending list of the members of a set; the numbers are counts in such lists; the
-- next norm is a least one.
use Rattle.std.proofs.Common.{◌⊎◌, ◌≡◌, ℕ, zero, suc, ◌+◌, ◌-◌, ◌≤◌, ◌<◌, List, ap₂, sym, ◌∙◌, subst₂, arith, Option, Some, None}
use Rattle.std.specs.Prelude.{ℤ}
use Rattle.std.specs.List.{Contains}
use Rattle.lift_core.specs.Systems.{LinearSystem, IsMinimalSolution}
use Rattle.lift_core.specs.Stages.{stage_norm, norm_cmp, front, IsStageVector, IsStageMinimal, IsListed, IsWaiting, IsStageList, IsNextNorm, HasNoNextNorm, IsWaitingAt, pairs_within, all_pairs, ArePairsBefore, AreUsed}
use Rattle.lift_core.specs.PairSums.{IsNewSum}
use Rattle.lift_core.specs.Walks.{IsGrown}
use Rattle.lift_core.specs.Ends.{ListsAt, IsSolutionList, solution_cmp}
use Rattle.lift_core.proofs.Lists.{one_list}
use Rattle.lift_core.proofs.Orders.{norm_cmp_total, solution_cmp_total}

module _ (S : LinearSystem) where
  pub one_listed : (k d : ℕ) (a b : List (List ℤ)) → IsListed S k d a → IsListed S k d b → a ≡ b
  one_listed k d a b p q = one_list norm_cmp norm_cmp_total (λ z. IsStageMinimal S k z × (stage_norm z ≤ d)) a b p.is q.is

  pub one_waiting : (k d : ℕ) (a b : List (List ℤ)) → IsWaiting S k d a → IsWaiting S k d b → a ≡ b
  one_waiting k d a b p q = one_list norm_cmp norm_cmp_total (λ z. IsStageVector S k z × IsMinimalSolution S (k - 1) (front z) × (d < stage_norm z)) a b p.is q.is

  pub one_stage_list : (k : ℕ) (a b : List (List ℤ)) → IsStageList S k a → IsStageList S k b → a ≡ b
  one_stage_list k a b p q = one_list norm_cmp norm_cmp_total (IsStageMinimal S k) a b p.is q.is

  pub one_solution_list : (k : ℕ) (a b : List (List ℤ)) → IsSolutionList S k a → IsSolutionList S k b → a ≡ b
  one_solution_list k a b p q = one_list solution_cmp solution_cmp_total (IsMinimalSolution S k) a b p q

  one_before : (k m n : ℕ) → ArePairsBefore S k m → ArePairsBefore S k n → m ≡ n
  one_before zero m n p q = p ∙ sym q
  one_before (suc zero) m n p q = p ∙ sym q
  one_before (suc (suc j)) m n p q = p.4 ∙ ap₂ (λ a b. a + all_pairs b) (one_before (suc j) p.1 q.1 p.3 q.3) (one_stage_list (suc j) p.0 q.0 p.2 q.2) ∙ sym q.4

  pub one_used : (k e m n : ℕ) → AreUsed S k e m → AreUsed S k e n → m ≡ n
  one_used k e m n p q = p.sum ∙ ap₂ (λ a b. a + pairs_within b e) (one_before k p.before q.before p.pairs_before q.pairs_before) (one_listed k e p.listed q.listed p.is_listed q.is_listed) ∙ sym q.sum

  pub one_next : (k d e f : ℕ) (a b : ListsAt S k d) → IsNextNorm a.listed a.waiting d e → IsNextNorm b.listed b.waiting d f → e ≡ f
  one_next k d e f a b p q =
      let moved : IsNextNorm b.listed b.waiting d e = subst₂ (λ (l w : List (List ℤ)). IsNextNorm l w d e) (one_listed k d a.listed b.listed a.is_listed b.is_listed) (one_waiting k d a.waiting b.waiting a.is_waiting b.is_waiting) p in
      omega (arith, moved.least f q.above q.occurs, q.least e moved.above moved.occurs)

  pub next_or_none : (k d e : ℕ) (a b : ListsAt S k d) → IsNextNorm a.listed a.waiting d e → HasNoNextNorm b.listed b.waiting d → ⊥
  next_or_none k d e a b p q =
      let moved : IsNextNorm b.listed b.waiting d e = subst₂ (λ (l w : List (List ℤ)). IsNextNorm l w d e) (one_listed k d a.listed b.listed a.is_listed b.is_listed) (one_waiting k d a.waiting b.waiting a.is_waiting b.is_waiting) p in
      q e moved.above moved.occurs

pub next_same : (listed waiting : List (List ℤ)) (d e f : ℕ) → IsNextNorm listed waiting d e → IsNextNorm listed waiting d f → e ≡ f
next_same listed waiting d e f p q = omega (arith, p.least f q.above q.occurs, q.least e p.above p.occurs)

pub one_grown : (S : LinearSystem) (listed waiting : List (List ℤ)) (e : ℕ) (a b : List (List ℤ)) → IsGrown S listed waiting e a → IsGrown S listed waiting e b → a ≡ b
one_grown S listed waiting e a b p q = one_list norm_cmp norm_cmp_total (λ z. Contains listed z ⊎ (IsWaitingAt waiting e z ⊎ IsNewSum S listed e z)) a b p q

-- what is found is found once
pub not_found : {A : Type 0} (o : Option A) (h : A) → o ≡ Some h → o ≡ None → ⊥
not_found o h p q = cc

pub some_same : {A : Type 0} (o : Option A) (h g : A) → o ≡ Some h → o ≡ Some g → h ≡ g
some_same o h g p q = cc
