-- A stage at norm 0 is a stage, and its lists are the defined ones where its solutions are.
use Rattle.std.proofs.Common.{◌≡◌, ℕ, suc, ◌+◌, ◌-◌, ◌*◌, ◌^◌, ◌≤◌, ◌<◌, List, [], ◌∷◌, length, refl, ap, ap₂, sym, ◌∙◌, subst, subst₂, arith, Bool, length-append}
use Rattle.std.specs.Prelude.{ℤ, map, Result, Ok, Err, IfOk}
use Rattle.std.specs.List.{All, Contains, AllByRecursion}
use Rattle.std.proofs.lemmas.List.Elements.{All-get_or}
use Rattle.std.specs.List.Sorted.{IsStrictlySortedBy}
use Rattle.std.proofs.lemmas.List.{length-map}
use Rattle.int_vector.specs.Vectors.{norm, dot, largest}
use Rattle.lift_core.specs.Systems.{ToolSystem, row, Solves}
use Rattle.lift_core.specs.ToolSystems.{IsToolSystem, width}
use Rattle.int_vector.specs.Range.{InRange}
use Rattle.lift_core.specs.Stages.{extend, stage_norm, norm_cmp, has_positive_last, has_negative_last, IsStageList, ArePairsBefore, AreUsed, all_pairs, HasNoNextNorm}
use Rattle.lift_core.specs.Ends.{solution_cmp, IsSolutionList}
use Rattle.lift_core.specs.Walks.{solutions_in}
use Rattle.lift_core.proofs.Lists.{each_from_contained, each_contained}
use Rattle.lift_core.proofs.Stages.{front-push}
use Rattle.lift_core.proofs.Systems.{solution_length}
use Rattle.lift_core.proofs.Growth.{complete}
use Rattle.lift_core.proofs.Places.{all_used, solutions_are, nothing_listed, solutions_wait}
use Rattle.lift_core.proofs.Walks.{first_used, pairs_before_next}
use Rattle.lift_core.proofs.Orders.{before_pushed, from_map, map_ascending}
use Rattle.row_pool.specs.Rows.{PoolValue}
use Rattle.reduce_tree.specs.Tree.{TreeValue}
use Rattle.stage_store.specs.Classes.{ClassValue, AreClasses}
use Rattle.stage_store.specs.Stage.{StageValue, IsStage, IsStageRow, IsDefined, used_of}
use Rattle.stage_store.specs.Fields.{Holds}
use Rattle.stage_store.specs.Sieve.{IsNewSieve}
use Rattle.stage_store.specs.Opened.{AscendWithin}
use Rattle.stage_store.specs.declared.sieve.Sieve.{Sieve}
use Rattle.std.specs.Prelude.{false}
use Rattle.stage_store.specs.declared.opened.Opened.{Opened}
use Rattle.stage_store.proofs.MoreRows.{unknown, nothing_ahead}
use Rattle.stage_store.specs.declared.stage.Following.{Following}
use Rattle.stage_store.specs.declared.tally.Tally.{Tally}
use Rattle.stage_store.specs.Tallies.{IsInRange}
use Rattle.stage_store.proofs.Tallies.{tally_empty}
use Rattle.stage_store.proofs.Sifting.{new_sieve}
use Rattle.stage_store.specs.Lifted.{AreExtended, IsStart, StartsAt, StartsOr, IsFirst, IsLift, IsLiftedDefined}
use Rattle.stage_store.specs.declared.stage.Lifted.{Lifted}
use Rattle.stage_store.specs.declared.stage.Lifted.TheVariants.{Next, Last}
use Rattle.stage_store.specs.declared.stage.LiftEnd.{LiftEnd}
use Rattle.stage_store.specs.declared.stage.LiftEnd.TheVariants.{Overflow}
use Rattle.stage_store.proofs.UnitVectors.{units_stay}
use Rattle.stage_store.proofs.Indexed.{holds_nothing}
use Rattle.stage_store.proofs.ClosedNorm.{value_of}

nothing_sorted : IsStrictlySortedBy norm_cmp []
unfolding IsStrictlySortedBy
nothing_sorted = tt

no_classes : (test : List ℤ → Bool) → AreClasses [] test []
unfolding IsStrictlySortedBy
no_classes test = record { each = tt; ascending = tt; rows = refl }

module _ (S : ToolSystem) (k : ℕ) (solutions : List (List ℤ)) (solve : AllByRecursion (Solves S.equations (k - 1)) solutions) (positive : AllByRecursion (λ v. 0 < norm v) solutions) (small : AllByRecursion (λ v. norm v ≤ largest) solutions) where
  extended_row : (z : List ℤ) → Contains (map (extend (row S.equations k)) solutions) z → IsStageRow S.equations k z
  extended_row z c =
      let r : List ℤ = row S.equations k in
      let m : (v : List ℤ) × Contains solutions v × (z ≡ extend (row S.equations k) v) = from_map (extend (row S.equations k)) solutions z c in
      let s : Solves S.equations (k - 1) m.0 = each_contained (Solves S.equations (k - 1)) solutions m.0 solve m.1 in
      let n : stage_norm z ≡ norm m.0 = ap stage_norm m.2 ∙ ap norm (front-push m.0 (dot (row S.equations k) m.0)) in
      record {
        vector = record { part = m.0; member = s; is = m.2 };
        positive = omega (arith, n, each_contained (λ v. 0 < norm v) solutions m.0 positive m.1);
        small = omega (arith, n, each_contained (λ v. norm v ≤ largest) solutions m.0 small m.1);
        entries = omega (arith, ap length m.2, length-append m.0 (dot (row S.equations k) m.0 ∷ []), solution_length S.equations (k - 1) m.0 s);
      }

  extended_ascend : IsStrictlySortedBy solution_cmp solutions → IsStrictlySortedBy norm_cmp (map (extend (row S.equations k)) solutions)
  extended_ascend order = map_ascending (extend (row S.equations k)) solution_cmp norm_cmp (Solves S.equations (k - 1))
      (λ u v p q e. before_pushed u v (dot (row S.equations k) u) (dot (row S.equations k) v) (solution_length S.equations (k - 1) u p ∙ sym (solution_length S.equations (k - 1) v q)) e) solutions solve order

  pub start_is_stage : (used : ℕ) → IsToolSystem S → 0 < k → k ≤ length S.equations.rows → used ≤ 2 ^ 62 + k * 2 ^ 42 → IsStrictlySortedBy solution_cmp solutions → length solutions ≤ 2 ^ 21
      → IsStage (value_of S k 0 used [] (map (extend (row S.equations k)) solutions))
  start_is_stage used kept from to most order count = record {
    system_kept = kept;
    number_from = from;
    number_to = to;
    norm_small = omega arith;
    before_small = most;
    listed_rows = tt;
    waiting_rows = each_from_contained (IsStageRow S.equations k) (map (extend (row S.equations k)) solutions) extended_row;
    listed_ascending = nothing_sorted;
    waiting_ascending = extended_ascend order;
    listed_norms = tt;
    waiting_norms = each_from_contained (λ z. 0 < stage_norm z) (map (extend (row S.equations k)) solutions) (λ z c. (extended_row z c).positive);
    listed_length = omega arith;
    waiting_length = omega (arith, length-map solutions (extend (row S.equations k)), count);
  }

pub start_holds : (S : ToolSystem) (k used : ℕ) (solutions : List (List ℤ)) (listed : PoolValue) (tree : TreeValue) (waiting : PoolValue) (plus minus : List ClassValue) (sieve : Sieve) (following : Following) (tally : Tally) (ahead : Opened)
    → AllByRecursion (Solves S.equations (k - 1)) solutions → AllByRecursion (λ v. 0 < norm v) solutions → AllByRecursion (λ v. norm v ≤ largest) solutions
    → IsToolSystem S → 0 < k → k ≤ length S.equations.rows → used ≤ 2 ^ 62 + k * 2 ^ 42 → IsStrictlySortedBy solution_cmp solutions → length solutions ≤ 2 ^ 21
    → listed.width ≡ width S.equations + 1 → listed.rows ≡ [] → tree.width ≡ width S.equations + 1 → tree.filed ≡ [] → AreExtended S k solutions waiting → plus ≡ [] → minus ≡ [] → IsNewSieve sieve → following.known ≡ false → IsInRange tally → tally.span ≡ 0 → (ahead.known ≡ false) × (ahead.defined ≡ false)
    → Holds (value_of S k 0 used listed.rows waiting.rows) listed tree waiting 0 used plus minus sieve following tally ahead
start_holds S k used solutions listed tree waiting plus minus sieve following tally ahead solve positive small kept from to most order count w nothing tw none e p m v f o z a =
    let is : value_of S k 0 used [] (map (extend (row S.equations k)) solutions) ≡ value_of S k 0 used listed.rows waiting.rows = ap₂ (λ (l r : List (List ℤ)). value_of S k 0 used l r) (sym nothing) (sym e.rows_are) in
    record {
      stage = subst (λ (v : StageValue). IsStage v) is (start_is_stage S k solutions solve positive small used kept from to most order count);
      listed_width = w;
      indexed = holds_nothing tree listed (tw ∙ sym w) none nothing;
      waiting_width = e.width_is;
      waited_inside = omega arith;
      waiting_most = omega (arith, ap length e.rows_are, length-map solutions (extend (row S.equations k)), count);
      used_is = omega (arith, ap used_of is);
      plus_classes = subst₂ (λ (l : List (List ℤ)) (cs : List ClassValue). AreClasses l has_positive_last cs) (sym nothing) (sym p) (no_classes has_positive_last);
      minus_classes = subst₂ (λ (l : List (List ℤ)) (cs : List ClassValue). AreClasses l has_negative_last cs) (sym nothing) (sym m) (no_classes has_negative_last);
      plus_ids = subst AscendWithin (sym p) tt;
      minus_ids = subst AscendWithin (sym m) tt;
      sieve_is = new_sieve S.equations listed.rows 0 sieve v;
      following_is = λ t. absurd (unknown following.known f t);
      tally_is = tally_empty plus minus tally o z;
      ahead_is = nothing_ahead (value_of S k 0 used listed.rows waiting.rows) ahead a;
    }

-- ---- the defined lists
start_defined : (S : ToolSystem) (j used : ℕ) (solutions : List (List ℤ)) (s : StageValue) → IsSolutionList S.equations j solutions → AreUsed S.equations (j + 1) 0 used → IsStart S (j + 1) used solutions s → IsDefined s
start_defined S j used solutions s list u start =
    let is : value_of S (j + 1) 0 used [] (map (extend (row S.equations (j + 1))) solutions) ≡ s = same s start in
    subst (λ (v : StageValue). IsDefined v) is (record {
      listed = nothing_listed S.equations (j + 1);
      waiting = solutions_wait S.equations j solutions list;
      used = subst (λ (n : ℕ). AreUsed S.equations (j + 1) 0 n) (omega arith) u;
    })
  where
    same : (s : StageValue) → IsStart S (j + 1) used solutions s → value_of S (j + 1) 0 used [] (map (extend (row S.equations (j + 1))) solutions) ≡ s
    same s h = sym (
        ap (λ (T : ToolSystem). value_of T s.number s.norm s.before s.listed s.waiting) h.system
        ∙ ap (λ (k : ℕ). value_of S k s.norm s.before s.listed s.waiting) h.number
        ∙ ap (λ (d : ℕ). value_of S (j + 1) d s.before s.listed s.waiting) h.norm
        ∙ ap (λ (b : ℕ). value_of S (j + 1) 0 b s.listed s.waiting) h.before
        ∙ ap₂ (λ (l w : List (List ℤ)). value_of S (j + 1) 0 used l w) h.listed h.waiting)

pub first_defined : (S : ToolSystem) (l : Lifted) → IsFirst S l → IsLiftedDefined l
first_defined S (Next s) h = start_defined S 0 0 h.solutions s h.minimal (first_used S.equations) h.starts.2
first_defined S (Last f) h =
    let none : length S.equations.rows ≡ 0 = omega (arith, h.starts.0) in
    let e : 0 ≡ length f.system.equations.rows = omega (arith, none, ap (λ (T : ToolSystem). length T.equations.rows) h.starts.1.system) in
    subst₂ (λ (T : ToolSystem) (k : ℕ). IsSolutionList T.equations k f.rows.rows) (sym h.starts.1.system) e (subst (λ (l : List (List ℤ)). IsSolutionList S.equations 0 l) (sym h.starts.1.rows_are) h.minimal)

pub lift_defined : (s : StageValue) (l : Lifted) → 0 < s.number → s.number ≤ length s.system.equations.rows → HasNoNextNorm s.listed s.waiting s.norm → IsDefined s → StartsAt s.system (s.number + 1) (used_of s) (solutions_in s.listed) l → IsLiftedDefined l
lift_defined s (Next t) from to none h starts =
    let all : IsStageList s.system.equations s.number s.listed = complete s.system.equations s.number s.norm s.listed s.waiting h.listed h.waiting none in
    let p : (m : ℕ) × ArePairsBefore s.system.equations s.number m × (used_of s ≡ m + all_pairs s.listed) = all_used s.system.equations s.number s.norm s.listed s.waiting h.listed h.waiting none (used_of s) h.used in
    start_defined s.system s.number (used_of s) (solutions_in s.listed) t (solutions_are s.system.equations s.number from to s.listed all)
    (record { before = used_of s; pairs_before = pairs_before_next s.system.equations s.number from s.listed all p.0 (used_of s) p.1 p.2; listed = []; is_listed = nothing_listed s.system.equations (s.number + 1); sum = omega arith }) starts.2
lift_defined s (Last f) from to none h starts =
    let all : IsStageList s.system.equations s.number s.listed = complete s.system.equations s.number s.norm s.listed s.waiting h.listed h.waiting none in
    let e : s.number ≡ length f.system.equations.rows = omega (arith, starts.0, to, ap (λ (T : ToolSystem). length T.equations.rows) starts.1.system) in
    subst₂ (λ (T : ToolSystem) (k : ℕ). IsSolutionList T.equations k f.rows.rows) (sym starts.1.system) e
    (subst (λ (l : List (List ℤ)). IsSolutionList s.system.equations s.number l) (sym starts.1.rows_are) (solutions_are s.system.equations s.number from to s.listed all))

pub lift_result_defined : (s : StageValue) (r : Result Lifted LiftEnd) → 0 < s.number → s.number ≤ length s.system.equations.rows → HasNoNextNorm s.listed s.waiting s.norm → IsLift s r → IsDefined s → IfOk r IsLiftedDefined
lift_result_defined s (Ok l) from to none starts h = lift_defined s l from to none h starts
lift_result_defined s (Err e) from to none starts h = tt

-- ---- the first stage
each_of_all : (r : List ℤ) → All InRange r → AllByRecursion InRange r
each_of_all [] h = tt
each_of_all (a ∷ r) h = (h 0 a (omega arith), each_of_all r (λ k d l. h (suc k) d (omega arith)))

pub first_stays : (S : ToolSystem) (solutions : List (List ℤ)) (r : Result Lifted LiftEnd) (e : LiftEnd) (k : ℕ) (v : List ℤ) → IsToolSystem S → IsSolutionList S.equations 0 solutions
    → StartsOr S 1 0 solutions r → r ≡ Err e → e ≡ Overflow k v → ⊥
first_stays S solutions r e k v kept list starts is over =
    let s : StartsOr S 1 0 solutions (Err (Overflow k v)) = subst (λ (r : Result Lifted LiftEnd). StartsOr S 1 0 solutions r) (is ∙ ap (λ (x : LiftEnd). Err x) over) starts in
    let inside : 0 < length S.equations.rows = omega (arith, s.0) in
    units_stay S.equations (row S.equations 1) v solutions list (each_of_all (row S.equations 1) (All-get_or (λ r. All InRange r) S.equations.rows 0 [] inside kept.entries)) s.2
