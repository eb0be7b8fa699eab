-- The rows with last entry 0 solve the row and are in order, so the next stage can start with them; where the lists are
-- the defined ones, they are the minimal solutions.
use Rattle.std.proofs.Common.{◌≡◌, sym, ap, arith, subst, subst₂, ◌+◌, ◌-◌, ◌≤◌, ◌<◌, length}
use Rattle.std.specs.Prelude.{List, ℤ, ℕ, Ok, Err}
use Rattle.std.specs.List.{AllByRecursion}
use Rattle.std.specs.List.Sorted.{IsStrictlySortedBy}
use Rattle.int_vector.specs.Vectors.{norm}
use Rattle.lift_core.specs.Systems.{Solves}
use Rattle.lift_core.specs.Ends.{solution_cmp}
use Rattle.stage_store.specs.Stage.{StageValue, IsStage, IsDefined}
use Rattle.stage_store.specs.declared.stage.Lifted.{Lifted}
use Rattle.stage_store.specs.Lifted.{IsLift, StartsOr}
use Rattle.stage_store.proofs.StageFields.{stage_of}
use Rattle.stage_store.proofs.Used.{pairs_within-most}
use Rattle.stage_store.proofs.FirstRows.{kept_solve, kept_positive, kept_small, kept_ascend, kept_count}
use Rattle.stage_store.proofs.Sound.{lift_is_sound}
use Rattle.stage_store.proofs.Starting.{lift_defined, lift_result_defined}
use Rattle.stage_store.proofs.stage.Stage.lift.Goals as goal

pub start-requires-clause-used : goal.start-requires-clause-used
start-requires-clause-used c = omega (arith, c.self.invariant.used_is, c.self.invariant.stage.before_small, pairs_within-most c.self.inside.listed.rows c.self.inside.norm c.self.invariant.stage.listed_length)

pub start-requires-clause-solutions : goal.start-requires-clause-solutions
start-requires-clause-solutions c =
    let e : c.self.inside.number + 1 - 1 ≡ c.self.inside.number = omega arith in
    subst₂ (λ (k : ℕ) (l : List (List ℤ)). AllByRecursion (Solves c.self.inside.system.equations k) l) (sym e) (sym c.in_ok-solutions.ensures.rows) (kept_solve _ c.self.invariant.stage)

pub start-requires-clause-positive : goal.start-requires-clause-positive
start-requires-clause-positive c = subst (λ (l : List (List ℤ)). AllByRecursion (λ v. 0 < norm v) l) (sym c.in_ok-solutions.ensures.rows) (kept_positive _ c.self.invariant.stage)

pub start-requires-clause-small : goal.start-requires-clause-small
start-requires-clause-small c = subst (λ (l : List (List ℤ)). AllByRecursion (λ v. norm v ≤ 9223372036854775807) l) (sym c.in_ok-solutions.ensures.rows) (kept_small _ c.self.invariant.stage)

pub start-requires-clause-ascending : goal.start-requires-clause-ascending
start-requires-clause-ascending c = subst (λ (l : List (List ℤ)). IsStrictlySortedBy solution_cmp l) (sym c.in_ok-solutions.ensures.rows) (kept_ascend _ c.self.invariant.stage)

pub start-requires-clause-count : goal.start-requires-clause-count
start-requires-clause-count c = omega (arith, ap (λ (l : List (List ℤ)). length l) c.in_ok-solutions.ensures.rows, kept_count _ c.self.invariant.stage)

pub returns-clause-lifted : goal.returns-clause-lifted
returns-clause-lifted c =
    subst (λ (s : StageValue). IsLift s (Err c.in-Err.end)) c.self.view_is
    (subst₂ (λ (n : ℕ) (l : List (List ℤ)). StartsOr c.self.inside.system (c.self.inside.number + 1) n l (Err c.in-Err.end)) c.self.invariant.used_is c.in_ok-solutions.ensures.rows c.in-Err.ensures)

pub vouched-requires : goal.vouched-requires
vouched-requires c = λ t.
    let s : IsStage c.args.self = stage_of c.self.view_is c.self.invariant.stage in
    let l : IsLift c.args.self (Ok c.in-Ok.lifted) =
    subst (λ (s : StageValue). IsLift s (Ok c.in-Ok.lifted)) c.self.view_is
    (subst₂ (λ (n : ℕ) (l : List (List ℤ)). StartsOr c.self.inside.system (c.self.inside.number + 1) n l (Ok c.in-Ok.lifted)) c.self.invariant.used_is c.in_ok-solutions.ensures.rows c.in-Ok.ensures) in
    lift_defined c.args.self c.in-Ok.lifted s.number_from s.number_to c.requires.done (subst IsDefined c.self.view_is (c.self.invariant.ahead_is.defined t)) l

pub returns-in-Ok-clause-lifted : goal.returns-in-Ok-clause-lifted
returns-in-Ok-clause-lifted c =
    subst (λ (l : Lifted). IsLift c.args.self (Ok l)) (sym c.vouched.ensures)
    (subst (λ (s : StageValue). IsLift s (Ok c.in-Ok.lifted)) c.self.view_is
    (subst₂ (λ (n : ℕ) (l : List (List ℤ)). StartsOr c.self.inside.system (c.self.inside.number + 1) n l (Ok c.in-Ok.lifted)) c.self.invariant.used_is c.in_ok-solutions.ensures.rows c.in-Ok.ensures))

pub returns-in-Ok-clause-defined : goal.returns-in-Ok-clause-defined
returns-in-Ok-clause-defined c = λ h.
    let s : IsStage c.args.self = stage_of c.self.view_is c.self.invariant.stage in
    lift_result_defined c.args.self (Ok c.vouched.result) s.number_from s.number_to c.requires.done (returns-in-Ok-clause-lifted c) h

pub returns-in-Ok-clause-sound : goal.returns-in-Ok-clause-sound
returns-in-Ok-clause-sound c = lift_is_sound c.args.self (Ok c.vouched.result) (stage_of c.self.view_is c.self.invariant.stage) (returns-in-Ok-clause-lifted c)
