use Rattle.tool_top.proofs.Wanted.{selected_output}
use Rattle.tool_top.proofs.outputs.select_output.Goals as goal

pub returns : goal.returns
returns c = selected_output c.args.finish.now.system c.args.finish.now.rows.rows c.args.kind c.args.part c.in_ok-grid.grid c.in_ok-grid.ensures
