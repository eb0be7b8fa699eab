use Rattle.lift_core.proofs.Caps.{caps_decide}
use Rattle.std.proofs.lemmas.Slice.Eq.{slice_eq-Decides}
use Rattle.lift_core.proofs.system.same_caps.Goals as goal

pub returns : goal.returns
returns c = slice_eq-Decides caps_decide c.args.caps.now c.args.others.now c.eq.result c.eq.ensures
