-- The rows stand behind three lines in the first version, and behind four in the second.
use Rattle.std.proofs.Common.{rules, ◌≤◌}
use Rattle.restart_file.specs.Texts.{tool_line, shape_line, signs_line, caps_line}
use Rattle.restart_file.proofs.Spacing.{row_behind_three, row_behind_four}
use Rattle.restart_file.proofs.lines.push_system_line.Goals as goal

pub returns-in-First : goal.returns-in-First
returns-in-First c =
    let S = c.args.system.now in
    let from : 3 ≤ c.args.i = search rules in
    rw (c.in-First.is, row_behind_three (tool_line S.tool) (shape_line S) (signs_line S) S.equations.rows c.args.i from (rw c.in-First.is at c.requires)) c.push_row.ensures

pub returns-in-Second-2 : goal.returns-in-Second-2
returns-in-Second-2 c =
    let S = c.args.system.now in
    let from : 4 ≤ c.args.i = search rules in
    rw (c.in-Second.is, row_behind_four (tool_line S.tool) (shape_line S) (signs_line S) (caps_line S) S.equations.rows c.args.i from (rw c.in-Second.is at c.requires)) c.push_row-in-Second-2.ensures
