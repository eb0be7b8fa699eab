-- The probe is the row with last entry 0 and a raised entry: where a listed row is below it, that row is near.
use Rattle.std.proofs.Common.{subst, rules, set, get_or, SFits, w64, to_z-of_z, List, ℤ}
use Rattle.std.specs.Prelude.{pos}
use Rattle.lift_core.specs.Halves.{IsReducible}
use Rattle.stage_store.specs.Levels.{IsRaised}
use Rattle.stage_store.proofs.marks.fill_raised.Goals as goal

pub returns-clause-raised : goal.returns-clause-raised
returns-clause-raised c =
    let f : SFits w64 (get_or c.args.row.now c.args.column (pos 0)) = search rules in
    let g : SFits w64 c.raised.result = search rules in
    let r : IsRaised c.args.positive c.args.level (get_or c.args.row.now c.args.column (pos 0)) c.raised.result = simp to_z-of_z at c.raised.ensures in
    λ listed h.
    let k : IsReducible listed (set c.fill_probe.new.probe c.args.column c.raised.result) = simp to_z-of_z at h in
    record { entry = c.raised.result; raised = r; reduced = subst (λ (l : List ℤ). IsReducible listed (set l c.args.column c.raised.result)) c.fill_probe.ensures k }
