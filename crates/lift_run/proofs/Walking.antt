-- What each step of a run says: where it leads, what the Keep was told, and that an end of the lists after the step is one of
-- the lists before it.
use Rattle.std.proofs.Common.{◌≡◌, inl, inr, ℕ, ◌-◌, ◌≤◌, ◌<◌, length, List, [], ◌∷◌, ◌++◌, refl, sym, subst, ap, ◌∙◌, arith, add-zero}
use Rattle.std.specs.Prelude.{Option, Some, None, Result, Ok, Err, IfSome, IsErrAnd}
use Rattle.std.specs.Option.{option_map}
use Rattle.std.specs.List.{fold}
use Rattle.std.proofs.lemmas.List.Sums.{fold-append}
use Rattle.lift_core.specs.Systems.{ToolSystem}
use Rattle.lift_core.specs.ToolSystems.{width}
use Rattle.lift_core.specs.Stages.{HasNoNextNorm, IsNextNorm}
use Rattle.lift_core.specs.Ends.{End, norm_overflow, pairs_spent, rows_spent, EndsIn, RunEnds, without_rows, from_stage_one, Limits as Bounds}
use Rattle.int_vector.specs.Vectors.{largest}
use Rattle.lift_core.specs.Walks.{walk_norm_overflow, walk_pairs_spent, walk_rows_spent, walk_closing, walk_row_overflow, walk_next_stage, walk_finish, used_up_to}
use Rattle.lift_core.proofs.Walks.{walk_ends}
use Rattle.stage_store.specs.Stage.{StageValue, IsStage, IsDefined, used_of}
use Rattle.stage_store.specs.Published.{IsPublished, IsTooLong, IsPublish}
use Rattle.stage_store.specs.declared.stage.PublishEnd.{PublishEnd}
use Rattle.stage_store.specs.declared.stage.PublishEnd.TheVariants.{Rows}
use Rattle.stage_store.specs.Lifted.{IsLift, IsFirst, IsLiftedDefined}
use Rattle.stage_store.specs.declared.stage.Finish.{Finish}
use Rattle.stage_store.specs.declared.stage.Lifted.{Lifted}
use Rattle.stage_store.specs.declared.stage.Lifted.TheVariants.{Next, Last}
use Rattle.stage_store.specs.declared.stage.LiftEnd.{LiftEnd}
use Rattle.stage_store.specs.declared.stage.LiftEnd.TheVariants.{Overflow, Memory}
use Rattle.lift_run.specs.declared.ends.RunEnd.{RunEnd}
use Rattle.outside.specs.declared.ends.PutEnd.{PutEnd}
use Rattle.outside.specs.declared.ends.PutEnd.TheVariants.{Failed}
use Rattle.outside.specs.declared.ends.PutEnd.TheVariants as put
use Rattle.lift_run.specs.Lifts.{run_end, run_end_kept}
use Rattle.lift_run.specs.Runs.{StageWalks, end_of, end_of_error, IsOfSystem, HasAllSolutions, AnswersEnd, KeepsSystem}
use Rattle.lift_run.specs.Keeps.{IsAllowed, IsClosing, Leads, leads_nowhere, leads_on, leads_up, EndsHere, MayStand, TellsTo}
use Rattle.lift_run.specs.Inside.Steps.{GoesOn, ClosesNorm, ClosesAll, IsFinished, RunsFrom}

-- what follows for each end follows for the one that is named
of_named : (P Q : End → Type 0) (named : Option End) → ((end : End) → P end → Q end) → IfSome named P → IfSome named Q
of_named P Q None follows h = tt
of_named P Q (Some end) follows h = follows end h

-- ---- the ends of a stage
pub over_norm : (limits : Bounds) (s : StageValue) (k e : ℕ) → k ≡ s.number → IsNextNorm s.listed s.waiting s.norm e → largest < e → EndsHere limits s (norm_overflow k e)
over_norm limits s k e number next large = rw number (walk_norm_overflow next large, refl)

pub over_pairs : (limits : Bounds) (s : StageValue) (k e n : ℕ) → k ≡ s.number → IsNextNorm s.listed s.waiting s.norm e → e ≤ largest → n ≡ used_up_to (used_of s) s.listed s.norm e → limits.pairs < n → EndsHere limits s (pairs_spent k e n)
over_pairs limits s k e n number next small is more = rw (number, is) (walk_pairs_spent next small (rw is at more), refl)

-- a norm that lists more rows than a limit which is no smaller
pub over_rows : (limits : Bounds) (s t : StageValue) (k e n limit count : ℕ) (end : PublishEnd) → end ≡ Rows count → IsPublish s n limit t (Err end) → limits.rows ≤ limit → k ≡ t.number → n ≡ e → IsAllowed limits s e → EndsHere limits s (rows_spent k e count)
over_rows limits s t k e n limit count end is published most number same a =
    let p : (t ≡ s) × IsTooLong s n limit count = subst (λ (x : PublishEnd). IsPublish s n limit t (Err x)) is published in
    let long : IsTooLong s e limit count = subst (λ m. IsTooLong s m limit count) same p.1 in
    rw (number, p.0, long.length_is) (walk_rows_spent long.grown a.next a.small a.fits long.listed (omega (arith, long.length_is, long.above)), refl)

over_row : (limits : Bounds) (s : StageValue) → HasNoNextNorm s.listed s.waiting s.norm → (end : LiftEnd) → IsLift s (Err end) → IfSome (end_of_error (run_end end)) (EndsHere limits s)
over_row limits s none (Overflow stage first) l = let more : s.number < length s.system.equations.rows = omega (arith, l.0) in rw l.1 (walk_row_overflow none more l.2, refl)
over_row limits s none Memory l = tt

-- ---- from stage to stage
pub closing : (limits : Bounds) (old new : StageValue) (e n : ℕ) → IsAllowed limits old e → n ≡ e → IsPublished old n new → length new.listed ≤ limits.rows → IsClosing limits old new × (new.norm ≡ e)
closing limits old new e n a same published room =
    let norm_is : new.norm ≡ e = published.norm ∙ same in (
      record {
        allowed = subst (λ m. IsAllowed limits old m) (sym norm_is) a;
        published = subst (λ m. IsPublished old m new) (sym published.norm) published;
        room = room;
      },
      norm_is,
    )

pub leads_further : (limits : Bounds) {s t u : StageValue} {a b : List StageValue} → Leads limits s a t → Leads limits t b u → Leads limits s (a ++ b) u
leads_further limits leads_nowhere q = q
leads_further limits (leads_on c rest) q = leads_on c (leads_further limits rest q)
leads_further limits (leads_up none l rest) q = leads_up none l (leads_further limits rest q)

pub leads_system : (limits : Bounds) {s u : StageValue} {a : List StageValue} → Leads limits s a u → u.system ≡ s.system
leads_system limits leads_nowhere = refl
leads_system limits (leads_on c rest) = leads_system limits rest ∙ c.published.system
leads_system limits (leads_up none l rest) = leads_system limits rest ∙ l.2.system

back_closed : (limits : Bounds) (s t : StageValue) (end : End) → IsClosing limits s t → StageWalks limits t end → StageWalks limits s end
back_closed limits s t end c h =
    walk_closing t.listed c.allowed.next c.allowed.small c.allowed.fits c.published.listed c.room
    (rw (c.published.used, c.published.system, c.published.number, c.published.waiting) at h)

back_lifted : (limits : Bounds) (s t : StageValue) (end : End) → HasNoNextNorm s.listed s.waiting s.norm → IsLift s (Ok (Next t)) → StageWalks limits t end → StageWalks limits s end
back_lifted limits s t end none l h =
    let more : s.number < length s.system.equations.rows = omega (arith, l.0) in
    walk_next_stage none more l.1 (rw (l.2.listed, l.2.system, l.2.number, l.2.norm, l.2.before, l.2.waiting, add-zero) at h)

-- an end of the stage that is led to is one of the stage that it is led from
pub leads_back : (limits : Bounds) (end : End) {s u : StageValue} {a : List StageValue} → Leads limits s a u → StageWalks limits u end → StageWalks limits s end
leads_back limits end leads_nowhere h = h
leads_back limits end {s} (leads_on {t = t} c rest) h = back_closed limits s t end c (leads_back limits end rest h)
leads_back limits end {s} (leads_up {t = t} none l rest) h = back_lifted limits s t end none l (leads_back limits end rest h)

-- ---- the Keep's state after the stages that were closed
module _ {X : Type 0} (after : X → StageValue → X) where
  folds_on : (a b : List StageValue) (old : Option X) → option_map (λ x. fold after x b) (option_map (λ x. fold after x a) old) ≡ option_map (λ x. fold after x (a ++ b)) old
  folds_on a b None = refl
  folds_on a b (Some x) = ap Some (sym (fold-append after x a b))

  untouched : (now : Option X) → now ≡ option_map (λ x. fold after x []) now
  untouched None = refl
  untouched (Some x) = refl

  pub stays : (limits : Bounds) (s : StageValue) (now : Option X) → GoesOn after limits s s now now
  stays limits s now = record { closed = []; leads = leads_nowhere; told = untouched now; defined = λ d. d }

  pub goes_further : (limits : Bounds) (a b c : StageValue) (old mid now : Option X) → GoesOn after limits a b old mid → GoesOn after limits b c mid now → GoesOn after limits a c old now
  goes_further limits a b c old mid now p q = record {
    closed = p.closed ++ q.closed;
    leads = leads_further limits p.leads q.leads;
    told = q.told ∙ ap (option_map (λ x. fold after x q.closed)) p.told ∙ folds_on p.closed q.closed old;
    defined = λ d. q.defined (p.defined d);
  }

  -- a norm is closed, and the Keep was told
  pub goes_closed : (limits : Bounds) (s t : StageValue) (old now : Option X) → IsClosing limits s t → (IsDefined s → IsDefined t) → now ≡ option_map (λ x. after x t) old → GoesOn after limits s t old now
  goes_closed limits s t old now c defined told = record { closed = t ∷ []; leads = leads_on c leads_nowhere; told = told ∙ one old; defined = defined }
    where
      one : (o : Option X) → option_map (λ x. after x t) o ≡ option_map (λ x. fold after x (t ∷ [])) o
      one None = refl
      one (Some x) = refl

  goes_lifted : (limits : Bounds) (s t : StageValue) (now : Option X) → HasNoNextNorm s.listed s.waiting s.norm → IsLift s (Ok (Next t)) → (IsDefined s → IsDefined t) → GoesOn after limits s t now now
  goes_lifted limits s t now none l defined = record { closed = []; leads = leads_up none l leads_nowhere; told = untouched now; defined = defined }

  -- what was lifted is the next stage, or the finish, or nothing
  pub goes_next : (limits : Bounds) (first s d t : StageValue) (old mid now : Option X) (lifted : Lifted) → lifted ≡ Next t → GoesOn after limits first s old mid → GoesOn after limits s d mid now → HasNoNextNorm d.listed d.waiting d.norm → IsLift d (Ok lifted) → (IsDefined d → IsLiftedDefined lifted) → GoesOn after limits first t old now
  goes_next limits first s d t old mid now lifted is goes done none l defined =
      goes_further limits first d t old now now (goes_further limits first s d old mid now goes done) (goes_lifted limits d t now none (rw is at l) (rw is at defined))

  finishes : (limits : Bounds) (first s : StageValue) (f : Finish) (old now : Option X) → GoesOn after limits first s old now → HasNoNextNorm s.listed s.waiting s.norm → IsLift s (Ok (Last f)) → (IsDefined s → HasAllSolutions f) → IsFinished after limits first f old now
  finishes limits first s f old now goes none l solutions =
      let last : length s.system.equations.rows ≤ s.number = omega (arith, l.0) in
      let same : s.system ≡ first.system = leads_system limits goes.leads in
      record {
        comes = record {
          closed = goes.closed;
          final = s;
          leads = goes.leads;
          ends = rw (l.1.rows_are, l.1.pairs_are) (walk_finish none last, refl);
          told = goes.told;
        };
        system = record { system_is = l.1.system ∙ same; width_is = l.1.width_is ∙ ap (λ (S : ToolSystem). width S.equations) same };
        solutions = λ d. solutions (goes.defined d);
      }

  pub goes_last : (limits : Bounds) (first s d : StageValue) (f : Finish) (old mid now : Option X) (lifted : Lifted) → lifted ≡ Last f → GoesOn after limits first s old mid → GoesOn after limits s d mid now → HasNoNextNorm d.listed d.waiting d.norm → IsLift d (Ok lifted) → (IsDefined d → IsLiftedDefined lifted) → IsFinished after limits first f old now
  goes_last limits first s d f old mid now lifted is goes done none l defined =
      finishes limits first d f old now (goes_further limits first s d old mid now goes done) none (rw is at l) (rw is at defined)

  -- ---- where the run stops
  module _ (torn : X → StageValue → X → Type 0) (limits : Bounds) where
    -- what was told on the way to a stage and what is told from it on is what is told on the whole way
    told_along : (first s : StageValue) (named : Option End) (old mid now : Option X) → GoesOn after limits first s old mid → TellsTo after torn limits s named mid now → TellsTo after torn limits first named old now
    told_along first s (Some end) old mid now goes h = record {
      closed = goes.closed ++ h.closed;
      final = h.final;
      leads = leads_further limits goes.leads h.leads;
      ends = h.ends;
      told = h.told ∙ ap (option_map (λ x. fold after x h.closed)) goes.told ∙ folds_on goes.closed h.closed old;
    }
    told_along first s None old mid now goes h = record {
      closed = goes.closed ++ h.closed;
      final = h.final;
      leads = leads_further limits goes.leads h.leads;
      stands = elim h.stands as (λ _. MayStand after torn limits h.final (goes.closed ++ h.closed) old now) [
        | inl same ↦ inl (same ∙ ap (option_map (λ x. fold after x h.closed)) goes.told ∙ folds_on goes.closed h.closed old)
        | inr more ↦ inr (more.0, more.1, torn_along old mid goes.closed goes.told more.0 h.closed now more.2)
      ];
    }
      where
        torn_along : (old mid : Option X) (a : List StageValue) → mid ≡ option_map (λ x. fold after x a) old → (t : StageValue) (b : List StageValue) (now : Option X) → IfSome mid (λ x. IfSome now (torn (fold after x b) t)) → IfSome old (λ x. IfSome now (torn (fold after x (a ++ b)) t))
        torn_along None mid a is t b now h = tt
        torn_along (Some x) mid a is t b now h = rw (fold-append after x a b) (rw is at h)

    -- an end that is met at the stage in hand
    pub told_here : (s : StageValue) (named : Option End) (now : Option X) → IfSome named (EndsHere limits s) → TellsTo after torn limits s named now now
    told_here s (Some end) now h = record { closed = []; final = s; leads = leads_nowhere; ends = h; told = untouched now }
    told_here s None now h = record { closed = []; final = s; leads = leads_nowhere; stands = inl (untouched now) }

    -- a stage whose keeping was refused
    pub told_torn : (s t : StageValue) (named : Option End) (old now : Option X) → named ≡ None → IsClosing limits s t → IfSome old (λ x. IfSome now (torn x t)) → TellsTo after torn limits s named old now
    told_torn s t named old now none c h = rw none (record { closed = []; final = s; leads = leads_nowhere; stands = inr (t, c, h) })

    -- ---- a refusal that is handed on
    pub runs_stop : (first s : StageValue) (end : RunEnd) (answer : Result Finish RunEnd) (old mid now : Option X) → IsErrAnd answer (λ e. e ≡ end) → GoesOn after limits first s old mid → TellsTo after torn limits s (end_of_error end) mid now → RunsFrom after torn limits first old now answer
    runs_stop first s end (Ok f) old mid now is goes h = absurd is
    runs_stop first s end (Err e) old mid now is goes h = rw is (told_along first s (end_of_error end) old mid now goes h)

    pub closes_stop : (first s new : StageValue) (end : RunEnd) (answer : Result (Unit {0}) RunEnd) (old mid now : Option X) → IsErrAnd answer (λ e. e ≡ end) → GoesOn after limits first s old mid → TellsTo after torn limits s (end_of_error end) mid now → ClosesAll after torn limits first new old now answer
    closes_stop first s new end (Ok u) old mid now is goes h = absurd is
    closes_stop first s new end (Err e) old mid now is goes h = rw is (told_along first s (end_of_error end) old mid now goes h)

    pub norm_stop : (e : ℕ) (s t : StageValue) (end : RunEnd) (answer : Result (Unit {0}) RunEnd) (now : Option X) → IsErrAnd answer (λ e. e ≡ end) → IfSome (end_of_error end) (EndsHere limits s) → ClosesNorm after torn limits e s t now now answer
    norm_stop e s t end (Ok u) now is h = absurd is
    norm_stop e s t end (Err x) now is h = rw is (told_here s (end_of_error end) now h)

    pub norm_torn : (e : ℕ) (s t : StageValue) (end : PutEnd) (answer : Result (Unit {0}) RunEnd) (old now : Option X) → IsErrAnd answer (λ e. e ≡ run_end_kept end) → IsClosing limits s t → IfSome old (λ x. IfSome now (torn x t)) → ClosesNorm after torn limits e s t old now answer
    norm_torn e s t end (Ok u) old now is c h = absurd is
    norm_torn e s t end (Err x) old now is c h = rw is (told_torn s t (end_of_error (run_end_kept end)) old now (none end) c h)
      where
        none : (p : PutEnd) → end_of_error (run_end_kept p) ≡ None
        none Failed = refl
        none put.Memory = refl

    pub goes_nowhere : (first s d : StageValue) (end : LiftEnd) (answer : Result Finish RunEnd) (old mid now : Option X) → IsErrAnd answer (λ e. e ≡ run_end end) → GoesOn after limits first s old mid → GoesOn after limits s d mid now → HasNoNextNorm d.listed d.waiting d.norm → IsLift d (Err end) → RunsFrom after torn limits first old now answer
    goes_nowhere first s d end (Ok f) old mid now is goes done none l = absurd is
    goes_nowhere first s d end (Err e) old mid now is goes done none l =
        rw is (told_along first d (end_of_error (run_end end)) old now now (goes_further limits first s d old mid now goes done) (told_here d (end_of_error (run_end end)) now (over_row limits d none end l)))

    -- ---- the run
    walk_told : (s : StageValue) (named : Option End) (old now : Option X) → TellsTo after torn limits s named old now → IfSome named (StageWalks limits s)
    walk_told s None old now h = tt
    walk_told s (Some end) old now h = leads_back limits end h.leads h.ends.0

    pub told_of : (s : StageValue) (answer : Result Finish RunEnd) (old now : Option X) → RunsFrom after torn limits s old now answer → TellsTo after torn limits s (end_of answer) old now
    told_of s (Ok f) old now h = h.comes
    told_of s (Err end) old now h = h

    pub walk_of : (s : StageValue) (answer : Result Finish RunEnd) (old now : Option X) → RunsFrom after torn limits s old now answer → IfSome (end_of answer) (StageWalks limits s)
    walk_of s answer old now h = walk_told s (end_of answer) old now (told_of s answer old now h)

    pub end_from : (from : Lifted) (s : StageValue) (answer : Result Finish RunEnd) (old now : Option X) → from ≡ Next s → IsStage s → RunsFrom after torn limits s old now answer → IsLiftedDefined from → AnswersEnd limits from answer
    end_from from s answer old now is stage h d =
        let defined : IsDefined s = rw is at d in
        rw is (of_named (StageWalks limits s) (EndsIn s.system.equations limits s.number s.norm) (end_of answer)
        (λ end walk. walk_ends s.system.equations limits walk stage.number_from stage.number_to defined.listed defined.waiting defined.used)
        (walk_of s answer old now h))

-- as many stages are left as there are rows past the stage's
pub fewer_left : (s d t : StageValue) → d.system ≡ s.system → d.number ≡ s.number → IsLift d (Ok (Next t)) → length t.system.equations.rows - t.number < length s.system.equations.rows - s.number
fewer_left s d t same number l =
    let rows : length t.system.equations.rows ≡ length s.system.equations.rows = ap (λ (S : ToolSystem). length S.equations.rows) (l.2.system ∙ same) in
    let rows_done : length d.system.equations.rows ≡ length s.system.equations.rows = ap (λ (S : ToolSystem). length S.equations.rows) same in
    omega (arith, l.0, l.2.number, number)

pub run_ends : (limits : Bounds) (S : ToolSystem) (from : Lifted) (answer : Result Finish RunEnd) → IsFirst S from → AnswersEnd limits from answer → IfSome (end_of answer) (RunEnds S.equations limits)
run_ends limits S (Next s) answer first h = of_named (EndsIn s.system.equations limits s.number s.norm) (RunEnds S.equations limits) (end_of answer)
    (λ end e. from_stage_one (omega (arith, first.starts.0)) (rw (first.starts.2.system, first.starts.2.number, first.starts.2.norm) at e))
    h
run_ends limits S (Last f) answer first h =
    let no_rows : length S.equations.rows ≡ 0 = omega (arith, first.starts.0) in
    rw (h, first.starts.1.rows_are, first.starts.1.pairs_are) (without_rows first.solutions no_rows first.minimal)

pub of_first : (S : ToolSystem) (from : Lifted) (f : Finish) → IsFirst S from → KeepsSystem from f → IsOfSystem S f
of_first S (Next s) f first h = record { system_is = h.system_is ∙ first.starts.2.system; width_is = h.width_is ∙ ap (λ (T : ToolSystem). width T.equations) first.starts.2.system }
of_first S (Last g) f first h = record { system_is = ap (λ (x : Finish). x.system) h ∙ first.starts.1.system; width_is = ap (λ (x : Finish). x.rows.width) h ∙ first.starts.1.width_is }
