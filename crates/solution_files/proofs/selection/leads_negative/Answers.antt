use Rattle.std.proofs.Common.{rules, ap, ◌∙◌, pos, SFits, w8, to_z-of_z}
use Rattle.std.specs.Prelude.{int_lt}
use Rattle.solution_files.proofs.SelectedRows.{leading_sign}
use Rattle.solution_files.proofs.selection.leads_negative.Goals as goal

pub returns : goal.returns
returns c =
    let fits : SFits w8 c.lead.result = search rules in
    simp to_z-of_z (ap (λ s. int_lt s (pos 0)) c.lead.ensures ∙ leading_sign c.args.row.now)
