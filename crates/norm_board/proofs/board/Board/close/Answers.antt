-- The blocks of the book and those that are left are all blocks, so the list is that of the norm.
use Rattle.std.proofs.Common.{refl, arith, ◌≡◌, ◌+◌, ◌≤◌, sym, ◌∙◌, ap, subst}
use Rattle.lift_core.specs.ToolSystems.{width}
use Rattle.lift_core.specs.Times.{once_below}
use Rattle.stage_store.specs.Stage.{StageValue, IsStage}
use Rattle.norm_board.specs.Blocks.{blocks_of, pair_count}
use Rattle.norm_board.specs.Rule.{IsBookOf}
use Rattle.norm_board.specs.Puts.{Open}
use Rattle.norm_board.specs.Seen.{BoardValue, view}
use Rattle.norm_board.specs.declared.rule.Plan.{Plan}
use Rattle.norm_board.proofs.Puts.{may_back, has_back, closes}
use Rattle.norm_board.proofs.Closing.{closed_by}
use Rattle.norm_board.proofs.board.Board.close.Goals as goal

pub returns-in-Ok-clause-ok : goal.returns-in-Ok-clause-ok
returns-in-Ok-clause-ok c =
    let f = c.in-Some.ensures.some.1 in
    let v = view c.args.pass in
    let i = c.self.invariant in
    let own = c.self.inside.plan in
    let of : v.plan ≡ c.args.self.plan = c.requires.own.plan in
    let plan : own ≡ c.args.self.plan = ap (λ (b : BoardValue). b.plan) c.self.view_is in
    let turn : IsBookOf c.args.self.plan c.in-Some.turn = subst (λ (p : Plan). IsBookOf p c.in-Some.turn) of f.is_of in
    let stage : IsStage c.args.self.plan.stage.value = subst (λ (p : Plan). IsStage p.stage.value) plan (subst IsStage (sym i.stage_is) c.keeps.ensures) in
    let small : c.args.self.plan.norm ≤ 9223372036854775807 = subst (λ (p : Plan). p.norm ≤ 9223372036854775807) plan i.small in
    let blocks : c.args.self.plan.blocks ≡ blocks_of (pair_count c.args.self.plan.stage.value c.args.self.plan.norm)
    = subst (λ (p : Plan). p.blocks ≡ blocks_of (pair_count p.stage.value p.norm)) plan (i.blocks_is ∙ ap (λ (s : StageValue). blocks_of (pair_count s own.norm)) (sym i.stage_is)) in
    record {
      norm_is = ap (λ (p : Plan). p.norm) plan;
      width_is = c.in-Ok.ensures.width ∙ (c.rows.ensures.width ∙ ap (λ (s : StageValue). width s.system.equations + 1) turn.stage);
      sums = closed_by c.args.self.plan c.in-Some.turn c.args.left _ _ _ turn c.requires.left c.rows.ensures.rows c.rows-2.ensures.rows c.rows.ensures.sums c.rows-2.ensures.sums
          (λ x. closes v c.in-Some.turn c.args.left.blocks f (c.requires.weight ∙ ap (λ (p : Plan). p.passes) (sym of)) c.requires.done c.requires.blocks x ∙ ap (once_below x) (ap (λ (p : Plan). p.blocks) of ∙ blocks))
          c.in-Ok.ensures.rows stage small;
    }

pub give-requires-clause-blocks : goal.give-requires-clause-blocks
give-requires-clause-blocks c =
    let t = c.in-Some.ensures.some in
    let may : Open (view c.args.pass) c.args.left.blocks = λ x. let h = c.requires.blocks x in omega arith in
    rw t.0 (may_back _ c.in-Some.turn t.1 _ may)

pub returns-clause-err : goal.returns-clause-err
returns-clause-err c =
    let t = c.in-Some.ensures.some in
    let may : Open (view c.args.pass) c.args.left.blocks = λ x. let h = c.requires.blocks x in omega arith in
    (refl, c.give.ensures.same, c.give.ensures.view ∙ rw t.0 (has_back _ c.in-Some.turn t.1 _ may c.requires.free c.take.ensures.clean), refl)
