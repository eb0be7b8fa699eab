-- From defined lists a walk leads through the places of the system: each stage that is closed has the defined lists of its
-- place, and where an end is met these are all the places that are closed on the way to it.
use Rattle.std.proofs.Common.{◌≡◌, ℕ, ◌+◌, ◌≤◌, ◌<◌, List, [], length, refl, sym, subst, ap, arith}
use Rattle.std.specs.Prelude.{ℤ, Ok}
use Rattle.std.specs.List.{AllByRecursion}
use Rattle.lift_core.specs.Systems.{LinearSystem, ToolSystem}
use Rattle.lift_core.specs.Stages.{IsListed, IsWaiting, IsStageList, AreUsed, ArePairsBefore, all_pairs, HasNoNextNorm}
use Rattle.lift_core.specs.Ends.{Limits, End, ListsAt, EndsIn, by_norm_overflow, by_pairs_spent, by_rows_spent, by_closing, by_row_overflow, by_next_stage, by_finish, IsSolutionList}
use Rattle.lift_core.specs.Walks.{WalkEnds, walk_norm_overflow, walk_pairs_spent, walk_rows_spent, walk_closing, walk_row_overflow, walk_next_stage, walk_finish, IsGrown, solutions_in}
use Rattle.lift_core.proofs.Growth.{complete}
use Rattle.lift_core.proofs.Places.{grown_listed, used_next, all_used, solutions_are, nothing_listed, solutions_wait}
use Rattle.lift_core.proofs.Grown.{grown_exists}
use Rattle.lift_core.proofs.Walks.{pairs_before_next}
use Rattle.stage_store.specs.Stage.{StageValue, IsDefined, used_of}
use Rattle.stage_store.specs.declared.stage.Lifted.TheVariants.{Next}
use Rattle.stage_store.proofs.ClosedNorm.{defined_after}
use Rattle.stage_store.proofs.Starting.{lift_result_defined}
use Rattle.lift_run.specs.Counts.{closed_norms}
use Rattle.lift_run.specs.Keeps.{Leads, leads_nowhere, leads_on, leads_up, EndsHere}
use Rattle.lift_run.specs.Places.{closed_places, AreStagesAt}

-- ---- an end that is met with no norm closed
lists : (S : LinearSystem) (k d : ℕ) (listed waiting : List (List ℤ)) → IsListed S k d listed → IsWaiting S k d waiting → ListsAt S k d
lists S k d listed waiting l q = record { listed = listed; waiting = waiting; is_listed = l; is_waiting = q }

-- the pairs used at norm 0 of the next stage are those of the finished one
used_at_start : (S : LinearSystem) (k d used : ℕ) (listed waiting : List (List ℤ)) → 0 < k → IsListed S k d listed → IsWaiting S k d waiting → HasNoNextNorm listed waiting d → AreUsed S k d used → AreUsed S (k + 1) 0 used
used_at_start S k d used listed waiting from l q none u =
    let p : (before : ℕ) × ArePairsBefore S k before × (used ≡ before + all_pairs listed) = all_used S k d listed waiting l q none used u in
    record {
      before = used;
      pairs_before = pairs_before_next S k from listed (complete S k d listed waiting l q none) p.0 used p.1 p.2;
      listed = [];
      is_listed = nothing_listed S (k + 1);
      sum = omega arith;
    }

abbrev ComesWithout : LinearSystem → Limits → ℕ → ℕ → End → Type 0
ComesWithout S limits k d end = (e : EndsIn S limits k d end) × (closed_places S limits e ≡ [])

comes_without : (S : LinearSystem) (limits : Limits) {k d used : ℕ} {listed waiting : List (List ℤ)} {end : End} (walk : WalkEnds S limits k d used listed waiting end)
    → closed_norms S limits walk ≡ 0
    → 0 < k
    → k ≤ length S.rows
    → IsListed S k d listed
    → IsWaiting S k d waiting
    → AreUsed S k d used
    → ComesWithout S limits k d end
unfolding lists
comes_without S limits {k} {d} {used} {listed} {waiting} (walk_norm_overflow next large) none f m l q u = (by_norm_overflow (lists S k d listed waiting l q) next large, refl)
comes_without S limits {k} {d} {used} {listed} {waiting} (walk_pairs_spent {e = e} next small over) none f m l q u =
    let g : (grown : List (List ℤ)) × IsGrown S listed waiting e grown = grown_exists S listed waiting e in
    let n : IsListed S k e g.0 = grown_listed S k d listed waiting l q e next g.0 g.1 in
    (by_pairs_spent (lists S k d listed waiting l q) next small (used_next S k d listed waiting l q e next used u g.0 n) over, refl)
comes_without S limits {k} {d} {used} {listed} {waiting} (walk_rows_spent {e = e} grown next small fits g over) none f m l q u =
    let n : IsListed S k e grown = grown_listed S k d listed waiting l q e next grown g in
    (by_rows_spent (lists S k d listed waiting l q) grown next small (used_next S k d listed waiting l q e next used u grown n) fits n over, refl)
comes_without S limits (walk_closing grown next small fits g room rest) none f m l q u = absurd (omega (arith, none))
comes_without S limits {k} {d} {used} {listed} {waiting} (walk_row_overflow no_next more found) none f m l q u =
    (by_row_overflow (lists S k d listed waiting l q) (solutions_in listed) no_next more (solutions_are S k f m listed (complete S k d listed waiting l q no_next)) found, refl)
comes_without S limits {k} {d} {used} {listed} {waiting} {end} (walk_next_stage no_next more found rest) none f m l q u =
    let rows : IsSolutionList S k (solutions_in listed) = solutions_are S k f m listed (complete S k d listed waiting l q no_next) in
    let later : ComesWithout S limits (k + 1) 0 end = comes_without S limits rest none (omega arith) (omega arith) (nothing_listed S (k + 1)) (solutions_wait S k (solutions_in listed) rows) (used_at_start S k d used listed waiting f l q no_next u) in
    (by_next_stage (lists S k d listed waiting l q) (solutions_in listed) no_next more rows found later.0, later.1)
comes_without S limits {k} {d} {used} {listed} {waiting} (walk_finish no_next last) none f m l q u =
    (by_finish (lists S k d listed waiting l q) (solutions_in listed) no_next last (solutions_are S k f m listed (complete S k d listed waiting l q no_next)) u, refl)

-- ---- from stage to stage
-- what is said of the stage's place is said of the place (k, d) of S
moved : (P : ToolSystem → ℕ → ℕ → Type 0) (s : StageValue) (S : ToolSystem) (k d : ℕ) → s.system ≡ S → s.number ≡ k → s.norm ≡ d → P s.system s.number s.norm → P S k d
moved P s S k d p q r h = subst (λ (e : ℕ). P S k e) r (subst (λ (j : ℕ). P S j s.norm) q (subst (λ (T : ToolSystem). P T s.number s.norm) p h))

abbrev Passes : Limits → ToolSystem → ℕ → ℕ → End → List StageValue → Type 0
Passes limits S k d end closed = (e : EndsIn S.equations limits k d end) × AreStagesAt S (closed_places S.equations limits e) closed

pub passes : (limits : Limits) (end : End) {s u : StageValue} {closed : List StageValue} → Leads limits s closed u
    → 0 < s.number
    → s.number ≤ length s.system.equations.rows
    → IsDefined s
    → EndsHere limits u end
    → Passes limits s.system s.number s.norm end closed
unfolding lists
passes limits end {s} leads_nowhere f m h e =
    let here : ComesWithout s.system.equations limits s.number s.norm end = comes_without s.system.equations limits e.0 e.1 f m h.listed h.waiting h.used in
    (here.0, subst (λ (places : List (ℕ × ℕ)). AreStagesAt s.system places []) (sym here.1) tt)
passes limits end {s} (leads_on {t = t} {rest = rest} c leads) f m h e =
    let new : IsDefined t = defined_after s t t.norm c.allowed.next c.published h in
    let system_is : t.system ≡ s.system = c.published.system in
    let number_is : t.number ≡ s.number = c.published.number in
    let to : t.number ≤ length t.system.equations.rows = omega (arith, number_is, m, ap (λ (T : ToolSystem). length T.equations.rows) system_is) in
    let later : Passes limits s.system s.number t.norm end rest = moved (λ T j n. Passes limits T j n end rest) t s.system s.number t.norm system_is number_is refl (passes limits end leads (omega (arith, number_is, f)) to new e) in
    let used : AreUsed s.system.equations s.number t.norm (used_of t) = moved (λ T j n. AreUsed T.equations j n (used_of t)) t s.system s.number t.norm system_is number_is refl new.used in
    let listed : IsListed s.system.equations s.number t.norm t.listed = moved (λ T j n. IsListed T.equations j n t.listed) t s.system s.number t.norm system_is number_is refl new.listed in
    let fits : used_of t ≤ limits.pairs = omega (arith, c.published.used, c.allowed.fits) in (
      by_closing (lists s.system.equations s.number s.norm s.listed s.waiting h.listed h.waiting) t.listed c.allowed.next c.allowed.small used fits listed c.room later.0,
      (record { system_is = system_is; number_is = number_is; norm_is = refl; defined = new }, later.1),
    )
passes limits end {s} {closed = closed} (leads_up {t = t} none l leads) f m h e =
    let new : IsDefined t = lift_result_defined s (Ok (Next t)) f m none l h in
    let to : t.number ≤ length t.system.equations.rows = omega (arith, l.0, l.2.number, ap (λ (T : ToolSystem). length T.equations.rows) l.2.system) in
    let later : Passes limits s.system (s.number + 1) 0 end closed =
    moved (λ T j n. Passes limits T j n end closed) t s.system (s.number + 1) 0 l.2.system l.2.number l.2.norm (passes limits end leads (omega (arith, l.2.number)) to new e)
    in
    let all : IsStageList s.system.equations s.number s.listed = complete s.system.equations s.number s.norm s.listed s.waiting h.listed h.waiting none in
    (by_next_stage (lists s.system.equations s.number s.norm s.listed s.waiting h.listed h.waiting) (solutions_in s.listed) none (omega (arith, l.0)) (solutions_are s.system.equations s.number f m s.listed all) l.1 later.0, later.1)

-- also where no end is met
pub stay_defined : (limits : Limits) {s u : StageValue} {closed : List StageValue} → Leads limits s closed u
    → 0 < s.number
    → s.number ≤ length s.system.equations.rows
    → IsDefined s
    → AllByRecursion (λ t. IsDefined t × (t.system ≡ s.system)) closed
stay_defined limits leads_nowhere f m h = tt
stay_defined limits {s} (leads_on {t = t} {rest = rest} c leads) f m h =
    let new : IsDefined t = defined_after s t t.norm c.allowed.next c.published h in
    let same : t.system ≡ s.system = c.published.system in
    let to : t.number ≤ length t.system.equations.rows = omega (arith, c.published.number, m, ap (λ (T : ToolSystem). length T.equations.rows) same) in
    ((new, same), subst (λ (T : ToolSystem). AllByRecursion (λ x. IsDefined x × (x.system ≡ T)) rest) same (stay_defined limits leads (omega (arith, c.published.number, f)) to new))
stay_defined limits {s} {closed = closed} (leads_up {t = t} none l leads) f m h =
    let new : IsDefined t = lift_result_defined s (Ok (Next t)) f m none l h in
    let to : t.number ≤ length t.system.equations.rows = omega (arith, l.0, l.2.number, ap (λ (T : ToolSystem). length T.equations.rows) l.2.system) in
    subst (λ (T : ToolSystem). AllByRecursion (λ x. IsDefined x × (x.system ≡ T)) closed) l.2.system (stay_defined limits leads (omega (arith, l.2.number)) to new)
