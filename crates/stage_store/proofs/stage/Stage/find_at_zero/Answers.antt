-- The entry is put back, so the vector is what it was; what is below it with 0 there is below it.
use Rattle.std.proofs.Common.{pos, sym}
use Rattle.stage_store.proofs.Halves.{set_back, found_at_zero}
use Rattle.stage_store.proofs.stage.Stage.find_at_zero.Goals as goal

pub returns-clause-same : goal.returns-clause-same
returns-clause-same c = set_back c.args.z.now c.args.column (pos 0) (pos 1) (sym c.requires.one)

pub returns-clause-found : goal.returns-clause-found
returns-clause-found c = found_at_zero c.find_below-found.result c.args.self.now.listed c.args.z.now c.args.column c.requires.one c.find_below-found.ensures
