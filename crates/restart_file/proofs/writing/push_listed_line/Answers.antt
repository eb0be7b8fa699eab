use Rattle.std.proofs.Common.{rules}
use Rattle.restart_file.proofs.Sending.{behind_rows}
use Rattle.restart_file.proofs.writing.push_listed_line.Goals as goal

pub returns-in_default : goal.returns-in_default
returns-in_default c =
    let s = c.args.stage.now in
    rw (behind_rows s.listed s.waiting _ _ c.args.i c.len-listed.result c.len-listed.ensures c.if-i-listed.false (search rules) c.requires, ← c.waiting_row.ensures.row) c.push_cells-in_default.ensures
