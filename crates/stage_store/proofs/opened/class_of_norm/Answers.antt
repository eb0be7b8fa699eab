-- Norms ascend, so where the class at the first place that is not below n has another norm, or there is none, no class
-- has norm n.
use Rattle.std.proofs.Common.{ℕ, arith, ap, ◌∙◌}
use Rattle.stage_store.specs.Classes.{class_norm}
use Rattle.stage_store.proofs.Classes.{class_at, IsPlaceFrom}
use Rattle.stage_store.proofs.Opening.{no_class_of}
use Rattle.stage_store.proofs.opened.class_of_norm.Goals as goal
use Rattle.stage_store.proofs.opened.class_of_norm.Goals.{else-place-classes-via-then-place-classes+else-norm-n, else-place-classes-via-else-place-classes}

pub returns-else-place-classes : goal.returns-else-place-classes
returns-else-place-classes c =
    let cs = c.args.classes.now in
    let place : ℕ = c.place_from-place.result in
    let p : IsPlaceFrom cs c.args.n place = record { within = c.place_from-place.ensures.within; before = c.place_from-place.ensures.before; from = c.place_from-place.ensures.from } in
    no_class_of cs c.args.n place c.requires p (elim c.else-place-classes.branch [
      | else-place-classes-via-then-place-classes+else-norm-n w ↦ λ l e. w.if-norm-n.false (w.norm.ensures ∙ ap class_norm (class_at cs place w.index-classes-place.result l w.index-classes-place.is) ∙ e)
      | else-place-classes-via-else-place-classes w ↦ λ l e. omega (arith, w.if-place-classes.false, l)
    ])
