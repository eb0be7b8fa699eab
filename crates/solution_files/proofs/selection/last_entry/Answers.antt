use Rattle.std.proofs.Common.{rules, ◌-◌, sym, pos, length, get_or, arith, SFits, w64, to_z-of_z}
use Rattle.lift_core.proofs.Stages.{last-get_or}
use Rattle.solution_files.proofs.selection.last_entry.Goals as goal

pub returns : goal.returns
returns c =
    let fits : SFits w64 (get_or c.args.row.now (length c.args.row.now - 1) (pos 0)) = search rules in
    simp to_z-of_z (sym (last-get_or c.args.row.now (length c.args.row.now - 1) (pos 0) (omega (arith, c.requires))))
