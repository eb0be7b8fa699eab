-- Norms ascend, so the class of norm n is the one at the place or there is none.
use Rattle.std.proofs.Common.{ℕ, arith, ap, sym, ◌∙◌, ◌≡◌}
use Rattle.stage_store.specs.Classes.{norm_at, class_norm}
use Rattle.stage_store.proofs.Classes.{class_at, IsPlaceFrom, ids_at-found, ids_at-missing, class_ids}
use Rattle.stage_store.proofs.class.ids_from.Goals as goal
use Rattle.stage_store.proofs.class.ids_from.Goals.{else-place-classes-via-then-place-classes+else-norm-n, else-place-classes-via-else-place-classes}

pub returns-then-norm-n : goal.returns-then-norm-n
returns-then-norm-n c =
    let cs = c.args.classes.now in
    let place : ℕ = c.args.place in
    let p : IsPlaceFrom cs c.args.n place = record { within = c.requires.within; before = c.requires.before; from = c.requires.from } in
    let at : c.index-classes-place.result.norm ≡ norm_at cs place = ap class_norm (class_at cs place c.index-classes-place.result c.if-place-classes.true c.index-classes-place.is) in
    c.ids.ensures ∙ ap class_ids (class_at cs place c.index-classes-place-then-norm-n.result c.if-place-classes.true c.index-classes-place-then-norm-n.is)
    ∙ sym (ids_at-found cs c.args.n place c.requires.sorted p c.if-place-classes.true (omega (arith, at, c.norm.ensures, c.if-norm-n.true)))

pub returns-else-place-classes : goal.returns-else-place-classes
returns-else-place-classes c =
    let cs = c.args.classes.now in
    let place : ℕ = c.args.place in
    let p : IsPlaceFrom cs c.args.n place = record { within = c.requires.within; before = c.requires.before; from = c.requires.from } in
    sym (ids_at-missing cs c.args.n place c.requires.sorted p (elim c.else-place-classes.branch [
      | else-place-classes-via-then-place-classes+else-norm-n w ↦ λ l e. w.if-norm-n.false (w.norm.ensures ∙ ap class_norm (class_at cs place w.index-classes-place.result l w.index-classes-place.is) ∙ e)
      | else-place-classes-via-else-place-classes w ↦ λ l e. omega (arith, w.if-place-classes.false, l)
    ]))
