-- A walk of vectors of a stage finishes with solutions, whatever the lists are.
use Rattle.std.proofs.Common.{◌≡◌, ◌⊎◌, inl, inr, ℕ, ◌+◌, ◌-◌, ◌≤◌, ◌<◌, List, [], length, refl, sym, ap, ◌∙◌, subst, arith, Bool, not, eqb, true}
use Rattle.std.specs.Prelude.{ℤ, pos, map, ⊤, ◌==◌}
use Rattle.std.specs.List.{Contains, AllByRecursion, filter}
use Rattle.std.specs.Ordering.{int_eq}
use Rattle.std.proofs.lemmas.Bool.Decides.{Decides-int_eq}
use Rattle.int_vector.specs.Vectors.{norm, dot}
use Rattle.int_vector.specs.Operations.{add}
use Rattle.lift_core.specs.Systems.{LinearSystem, row, Solves}
use Rattle.lift_core.specs.Stages.{extend, front, last, stage_norm, IsStageVector, IsNextNorm}
use Rattle.lift_core.specs.Ends.{Limits, End, norm_overflow, row_overflow, pairs_spent, rows_spent, finished}
use Rattle.lift_core.specs.PairSums.{IsNewSum}
use Rattle.lift_core.specs.Walks.{WalkEnds, walk_norm_overflow, walk_pairs_spent, walk_rows_spent, walk_closing, walk_row_overflow, walk_next_stage, walk_finish, IsGrown, solutions_in, still_waiting}
use Rattle.lift_core.proofs.Lists.{each_from_contained, each_contained}
use Rattle.lift_core.proofs.Orders.{from_filter, from_map}
use Rattle.lift_core.proofs.Stages.{front-push, last-push}
use Rattle.lift_core.proofs.Growth.{stage_front, stage_sum}
use Rattle.lift_core.proofs.Composition.{solves_next}
use Rattle.stage_store.specs.Stage.{StageValue, IsStage, IsStageRow}
use Rattle.lift_run.specs.Runs.{StageWalks}
use Rattle.backups.specs.Standing.{IsSolution, AreSolutions}

abbrev zero_last : List ℤ → Bool
zero_last z = int_eq (last z) (pos 0)

-- a vector of stage k that is not zero
record IsVector (S : LinearSystem) (k : ℕ) (z : List ℤ) : Type 0 where
  pub vector : IsStageVector S k z
  pub positive : 0 < stage_norm z

abbrev AreVectors : LinearSystem → ℕ → List (List ℤ) → Type 0
AreVectors S k rows = AllByRecursion (IsVector S k) rows

-- ---- what a norm adds
module _ (S : LinearSystem) (k : ℕ) (listed waiting : List (List ℤ)) (l : AreVectors S k listed) (w
    : AreVectors S k waiting) (e : ℕ) (above : 0 < e) where
  sum_vector : (z : List ℤ) → IsNewSum S listed e z → IsVector S k z
  sum_vector z n =
      let f : IsVector S k n.first = each_contained (IsVector S k) listed n.first l n.pair.first_listed in
      let g : IsVector S k n.second = each_contained (IsVector S k) listed n.second l n.pair.second_listed in
      let v : IsStageVector S k (add n.first n.second) × (stage_norm (add n.first n.second) ≡
      stage_norm n.first + stage_norm n.second) = stage_sum S k n.first n.second f.vector
      g.vector n.sum in
      record {
        vector = subst (λ (y : List ℤ). IsStageVector S k y) (sym n.is) v.0;
        positive = omega (arith, ap stage_norm n.is, v.1, n.norms, above);
      }

  grown_vectors : (grown : List (List ℤ)) → IsGrown S listed waiting e grown → AreVectors S k grown
  grown_vectors grown g = each_from_contained (IsVector S k) grown (λ z c. elim ((g.members z).0 c) [
    | inl a ↦ each_contained (IsVector S k) listed z l a
    | inr b ↦ elim b [
      | inl q ↦ each_contained (IsVector S k) waiting z w q.waits
      | inr n ↦ sum_vector z n
    ]
  ])

  still_vectors : AreVectors S k (still_waiting e waiting)
  still_vectors = each_from_contained (IsVector S k) (still_waiting e waiting) (λ z c.
      each_contained (IsVector S k) waiting z w (from_filter (λ z. not (stage_norm z == e)) waiting z c).0)

-- ---- what a stage finishes with
module _ (S : LinearSystem) (k : ℕ) (from : 0 < k) (to : k ≤ length S.rows) (listed : List (List ℤ))
    (l : AreVectors S k listed) where
  solution_of : (v : List ℤ) → Contains (solutions_in listed) v → Solves S k v × (0 < norm v)
  solution_of v c =
      let m : (z : List ℤ) × Contains (filter zero_last listed) z × (v ≡ front z) = from_map front
      (filter zero_last listed) v c in
      let f : Contains listed m.0 × (zero_last m.0 ≡ true) = from_filter zero_last listed m.0 m.1 in
      let z : IsVector S k m.0 = each_contained (IsVector S k) listed m.0 l f.0 in
      let nothing : last m.0 ≡ pos 0 = (Decides-int_eq (last m.0) (pos 0)).0 f.1 in
      let part : v ≡ z.vector.part = m.2 ∙ stage_front S k m.0 z.vector in
      let t : dot (row S k) z.vector.part ≡ pos 0 = sym (last-push z.vector.part (dot (row S k)
      z.vector.part)) ∙ ap last (sym z.vector.is) ∙ nothing in (
        subst (λ (y : List ℤ). Solves S k y) (sym part) (solves_next S k from to z.vector.part
            z.vector.member t),
        omega (arith, ap norm m.2, z.positive),
      )

  -- they wait in the next stage
  next_vectors : AreVectors S (k + 1) (map (extend (row S (k + 1))) (solutions_in listed))
  next_vectors = each_from_contained (IsVector S (k + 1)) (map (extend (row S (k + 1)))
      (solutions_in listed)) (λ z c.
      let m : (v : List ℤ) × Contains (solutions_in listed) v × (z ≡ extend (row S (k + 1)) v) =
      from_map (extend (row S (k + 1))) (solutions_in listed) z c in
      let s : Solves S k m.0 × (0 < norm m.0) = solution_of m.0 m.1 in
      let n : stage_norm z ≡ norm m.0 = ap stage_norm m.2 ∙ ap norm (front-push m.0 (dot (row S (k +
      1)) m.0)) in
      let before : k ≡ k + 1 - 1 = omega arith in
      record {
        vector = record { part = m.0; member = subst (λ (j : ℕ). Solves S j m.0) before s.0; is = m.2 };
        positive = omega (arith, n, s.1);
      })

  -- they solve all rows where there is no row behind
  last_solutions : length S.rows ≤ k → AreSolutions S (solutions_in listed)
  last_solutions last_row =
      let all : k ≡ length S.rows = omega (arith, to, last_row) in
      each_from_contained (IsSolution S) (solutions_in listed) (λ v c.
      let s : Solves S k v × (0 < norm v) = solution_of v c in
      record { solves = subst (λ (j : ℕ). Solves S j v) all s.0; positive = s.1 })

-- ---- the whole walk
abbrev IsSoundEnd : LinearSystem → End → Type 0
IsSoundEnd S (finished rows pairs) = AreSolutions S rows
IsSoundEnd S end = ⊤

walk_sound : (S : LinearSystem) (limits : Limits) {k d used : ℕ} {listed waiting : List (List ℤ)}
    {end : End} → WalkEnds S limits k d used listed waiting end
    → 0 < k
    → k ≤ length S.rows
    → AreVectors S k listed
    → AreVectors S k waiting
    → IsSoundEnd S end
walk_sound S limits (walk_norm_overflow next large) from to l w = tt
walk_sound S limits (walk_pairs_spent next small over) from to l w = tt
walk_sound S limits (walk_rows_spent grown next small fits g over) from to l w = tt
walk_sound S limits {k} {listed = listed} {waiting = waiting} (walk_closing {e = e} grown next small
    fits g room rest) from to l w =
    walk_sound S limits rest from to (grown_vectors S k listed waiting l w e (omega (
      arith,
      next.above,
    )) grown g) (still_vectors S k listed waiting l w e (omega (arith, next.above)))
walk_sound S limits (walk_row_overflow none more found) from to l w = tt
walk_sound S limits {k} {listed = listed} (walk_next_stage none more found rest) from to l w =
    walk_sound S limits rest (omega arith) (omega (arith, more)) tt (next_vectors S k from to listed l)
walk_sound S limits {k} {listed = listed} (walk_finish none last_row) from to l w = last_solutions S
    k from to listed l last_row

are_vectors : (S : LinearSystem) (k : ℕ) (rows : List (List ℤ))
    → AllByRecursion (IsStageRow S k) rows → AreVectors S k rows
are_vectors S k rows h = each_from_contained (IsVector S k) rows (λ z c.
    let r : IsStageRow S k z = each_contained (IsStageRow S k) rows z h c in
    record { vector = r.vector; positive = r.positive })

-- the rows of a finished walk from a stage
pub finished_sound : (limits : Limits) (s : StageValue) (rows : List (List ℤ)) (pairs : ℕ)
    → IsStage s → StageWalks limits s (finished rows pairs) → AreSolutions s.system.equations rows
finished_sound limits s rows pairs h walk =
    walk_sound s.system.equations limits walk h.number_from h.number_to
    (are_vectors s.system.equations s.number s.listed h.listed_rows) (are_vectors s.system.equations
    s.number s.waiting h.waiting_rows)
