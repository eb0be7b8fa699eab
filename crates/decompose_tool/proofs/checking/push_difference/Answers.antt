-- A difference that is out of range makes the whole too wide.
use Rattle.std.proofs.Common.{rules, SFits, to_z-of_z}
use mir.Syntax.{w128}
use Rattle.decompose_tool.proofs.Filling.{one_too_wide}
use Rattle.decompose_tool.proofs.checking.push_difference.Goals as goal

pub returns-in-None : goal.returns-in-None
returns-in-None c =
    let fd : SFits w128 c.in-Some.difference = search rules in
    rw c.in-Some.is (one_too_wide c.args.full.now.items c.in-Some.difference (simp to_z-of_z at c.in-None.ensures))
