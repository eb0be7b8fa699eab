-- The class at the first place whose norm is not below d + 1 has the least norm above d.
use Rattle.std.proofs.Common.{ℕ, ◌+◌, ap, ◌∙◌, sym, subst, Some}
use Rattle.stage_store.specs.Classes.{class_norm}
use Rattle.stage_store.specs.Least.{IsLeastAbove, HasNorm}
use Rattle.stage_store.proofs.Classes.{class_at, IsPlaceFrom}
use Rattle.stage_store.proofs.Least.{norm_found}
use Rattle.stage_store.proofs.class.norm_above.Goals as goal

pub returns-then-place-classes : goal.returns-then-place-classes
returns-then-place-classes c =
    let cs = c.args.classes.now in
    let place : ℕ = c.place_next-place.result in
    let p : IsPlaceFrom cs (c.args.d + 1) place = record { within = c.place_next-place.ensures.within; before = c.place_next-place.ensures.before; from = c.place_next-place.ensures.from } in
    subst (λ n. IsLeastAbove (HasNorm c.args.classes.now) c.args.d (Some n)) (sym (c.norm.ensures ∙ ap class_norm (class_at cs place c.index-classes-place.result c.if-place-classes.true c.index-classes-place.is)))
    (norm_found cs c.args.d place c.requires.sorted p c.if-place-classes.true)
