-- The copy of the row with its last entry set against the sign is the row with that reach.
use Rattle.std.proofs.Common.{◌≡◌, ◌∙◌, ◌-◌, ap₂, arith, rules, set, get_or, length, SFits, w64, to_z-of_z, List, ℤ}
use Rattle.std.specs.Prelude.{pos}
use Rattle.stage_store.specs.Reaches.{entry_against}
use Rattle.stage_store.proofs.Reaches.{probe_is}
use Rattle.stage_store.proofs.reach.fill_probe.Goals as goal

pub returns : goal.returns
returns c =
    let f : SFits w64 (get_or c.args.row.now (length c.args.row.now - 1) (pos 0)) = search rules in
    let g : SFits w64 c.entry_against.result = search rules in
    let e : c.entry_against.result ≡ entry_against (get_or c.args.row.now (length c.args.row.now - 1) (pos 0)) c.args.reach = simp to_z-of_z at c.entry_against.ensures in
    simp to_z-of_z (ap₂ (λ (l : List ℤ) (v : ℤ). set l (length c.args.row.now - 1) v) c.copy_from_slice.ensures.after e ∙ probe_is c.args.row.now (length c.args.row.now - 1) c.args.reach (omega (arith, c.requires.some)))
