-- Between the stage's norm and the next one no norm has pairs, so the pairs up to it are those used before and its own.
use Rattle.std.proofs.Common.{arith, ap}
use Rattle.stage_store.specs.Stage.{IsStage, used_of}
use Rattle.stage_store.proofs.StageFields.{stage_of}
use Rattle.stage_store.proofs.Used.{used_to_next, used_most}
use Rattle.stage_store.proofs.stage.Stage.used_at.Goals as goal

pub overflow_add-result : goal.overflow_add-result
overflow_add-result c =
    let s : IsStage c.args.self.now = stage_of c.self.view_is c.self.invariant.stage in
    omega (arith, c.self.invariant.used_is, ap used_of c.self.view_is, used_most c.args.self.now s, c.pairs_at.ensures.most)

pub returns : goal.returns
returns c =
    omega (arith, c.self.invariant.used_is, ap used_of c.self.view_is, c.pairs_at.ensures.number, used_to_next c.args.self.now.listed c.args.self.now.waiting c.args.self.now.norm c.args.norm (used_of c.args.self.now) c.requires)
