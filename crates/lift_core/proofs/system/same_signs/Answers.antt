use Rattle.std.specs.Cmp.Rules.{signed_items}
use Rattle.std.proofs.Common.{rules}
use Rattle.lift_core.proofs.system.same_signs.Goals as goal

pub returns : goal.returns
returns c = search (rules, signed_items)
