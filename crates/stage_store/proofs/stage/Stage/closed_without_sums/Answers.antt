-- The empty list is that of the norm's irreducible sums, since there are none.
use Rattle.std.proofs.Common.{ap, refl, arith}
use Rattle.lift_core.specs.PairSums.{IsNewSum}
use Rattle.stage_store.specs.Stage.{width_of}
use Rattle.stage_store.proofs.NumberedSums.{list_of_none}
use Rattle.stage_store.proofs.stage.Stage.closed_without_sums.Goals as goal

pub returns : goal.returns
returns c = record {
  norm_is = refl;
  width_is = omega (arith, c.new.ensures.0, c.width.ensures.width, ap width_of c.self.view_is);
  sums = list_of_none (IsNewSum c.args.self.now.system.equations c.args.self.now.listed c.args.norm) (c.if-not-has_no_sums.ensures refl) c.new.result.rows c.new.ensures.1;
}
