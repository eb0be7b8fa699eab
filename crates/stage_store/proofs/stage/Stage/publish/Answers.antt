-- The rows of the norm come behind the listed ones, and are taken into tree, classes and tally: what holds of the stage
-- holds of the next one. Where the lists were the defined ones, they are so still, since the norm's rows are.
use Rattle.std.proofs.Common.{◌≡◌, ◌∙◌, ℕ, ◌<◌, sym, arith, ap, subst, ◌+◌, length, length-append, ◌++◌, drop}
use Rattle.std.specs.List.Sorted.{IsStrictlySortedBy}
use Rattle.std.specs.Prelude.{List, ℤ, false}
use Rattle.std.proofs.Common.{refl}
use Rattle.lift_core.specs.Stages.{IsNextNorm}
use Rattle.stage_store.specs.Classes.{ClassValue, class_cmp, norm_at, with_class}
use Rattle.stage_store.specs.Tallies.{HasGained}
use Rattle.stage_store.specs.Stage.{StageValue, IsStage, used_of}
use Rattle.stage_store.specs.Published.{IsGrowth, IsPublished}
use Rattle.stage_store.proofs.StageFields.{stage_of}
use Rattle.stage_store.proofs.Used.{used_most, pairs_to_next, pairs_within-most}
use Rattle.stage_store.proofs.Tallies.{positive_at}
use Rattle.stage_store.proofs.ClosedNorm.{value_of, value_after, plus_after, published_is, holds_after, defined_after, further_after}
use Rattle.stage_store.proofs.stage.Stage.publish.Goals as goal

pub overflow_add-self-2 : goal.overflow_add-self-2
overflow_add-self-2 c =
    let s : IsStage c.args.self.now = stage_of c.self.view_is c.self.invariant.stage in
    let g : IsGrowth c.args.self.now c.args.closed.now.norm c.args.limit c.in_ok-growth.growth = c.in_ok-growth.ensures in
    omega (
      arith,
      c.self.invariant.used_is,
      ap used_of c.self.view_is,
      used_most c.args.self.now s,
      g.pairs_are,
      pairs_to_next c.args.self.now.listed c.args.self.now.waiting c.args.self.now.norm c.args.closed.now.norm c.requires.next,
      pairs_within-most c.args.self.now.listed c.args.closed.now.norm s.listed_length,
    )

pub add-requires-clause-sorted : goal.add-requires-clause-sorted
add-requires-clause-sorted c = subst (λ (l : List ClassValue). IsStrictlySortedBy class_cmp l) (sym (c.deref.ensures.value ∙ c.make_room.ensures.minus)) c.self.invariant.minus_classes.ascending

pub add-requires-clause-positive : goal.add-requires-clause-positive
add-requires-clause-positive c = subst (λ (l : List ClassValue). (k : ℕ) → k < length l → 0 < norm_at l k) (sym (c.deref.ensures.value ∙ c.make_room.ensures.minus))
    (positive_at c.self.inside.listed.rows c.self.inside.minus.items c.self.invariant.minus_classes.each)

pub add-requires-2-clause-sorted : goal.add-requires-2-clause-sorted
add-requires-2-clause-sorted c =
    let v : StageValue = value_of c.self.inside.system c.self.inside.number c.self.inside.norm c.self.inside.before c.self.inside.listed.rows (drop c.self.inside.waited c.self.inside.waiting.rows) in
    let is : c.deref-2.result.now ≡ with_class c.in_ok-growth.growth.plus.norm c.in_ok-growth.growth.plus.ids c.self.inside.plus.items =
    c.deref-2.ensures.value ∙ c.add_class.ensures ∙ ap (λ (l : List ClassValue). with_class c.in_ok-growth.growth.plus.norm c.in_ok-growth.growth.plus.ids l) c.make_room.ensures.plus in
    subst (λ (l : List ClassValue). IsStrictlySortedBy class_cmp l) (sym is)
    (plus_after v c.args.closed.now.norm c.args.limit c.in_ok-growth.growth c.self.invariant.stage (subst (λ (s : StageValue). IsNextNorm s.listed s.waiting s.norm c.args.closed.now.norm) (sym c.self.view_is) c.requires.next) c.requires.small c.requires.limit
    (subst (λ (s : StageValue). IsGrowth s c.args.closed.now.norm c.args.limit c.in_ok-growth.growth) (sym c.self.view_is) c.in_ok-growth.ensures) c.self.inside.plus.items c.self.invariant.plus_classes).ascending

pub add-requires-2-clause-positive : goal.add-requires-2-clause-positive
add-requires-2-clause-positive c =
    let v : StageValue = value_of c.self.inside.system c.self.inside.number c.self.inside.norm c.self.inside.before c.self.inside.listed.rows (drop c.self.inside.waited c.self.inside.waiting.rows) in
    let is : c.deref-2.result.now ≡ with_class c.in_ok-growth.growth.plus.norm c.in_ok-growth.growth.plus.ids c.self.inside.plus.items =
    c.deref-2.ensures.value ∙ c.add_class.ensures ∙ ap (λ (l : List ClassValue). with_class c.in_ok-growth.growth.plus.norm c.in_ok-growth.growth.plus.ids l) c.make_room.ensures.plus in
    subst (λ (l : List ClassValue). (k : ℕ) → k < length l → 0 < norm_at l k) (sym is)
    (positive_at (c.self.inside.listed.rows ++ c.in_ok-growth.growth.rows.rows) (with_class c.in_ok-growth.growth.plus.norm c.in_ok-growth.growth.plus.ids c.self.inside.plus.items)
    (plus_after v c.args.closed.now.norm c.args.limit c.in_ok-growth.growth c.self.invariant.stage (subst (λ (s : StageValue). IsNextNorm s.listed s.waiting s.norm c.args.closed.now.norm) (sym c.self.view_is) c.requires.next) c.requires.small c.requires.limit
    (subst (λ (s : StageValue). IsGrowth s c.args.closed.now.norm c.args.limit c.in_ok-growth.growth) (sym c.self.view_is) c.in_ok-growth.ensures) c.self.inside.plus.items c.self.invariant.plus_classes).each)

pub invariant_of-self-2 : goal.invariant_of-self-2
invariant_of-self-2 c =
    holds_after c.self.inside.system c.self.inside.number c.self.inside.norm c.self.inside.before c.args.closed.now.norm c.args.limit c.self.inside.waited c.self.inside.used c.self.inside.listed c.list_rows.new.listed c.self.inside.tree c.list_rows.new.tree c.self.inside.waiting
    c.self.inside.plus.items c.self.inside.minus.items c.add_class.new.classes.items c.add_class-2.new.classes.items c.self.inside.sieve c.self.inside.following (record { known = false; next = c.self.inside.following.next }) c.self.inside.tally c.add.new.self c.add-2.new.self c.self.inside.ahead (record { known = false; norm = c.self.inside.ahead.norm; pairs = c.self.inside.ahead.pairs; halves = c.self.inside.ahead.halves; defined = c.self.inside.ahead.defined }) c.in_ok-growth.growth
    c.self.invariant (subst (λ (s : StageValue). IsNextNorm s.listed s.waiting s.norm c.args.closed.now.norm) (sym c.self.view_is) c.requires.next) c.requires.small c.requires.limit
    (subst (λ (s : StageValue). IsGrowth s c.args.closed.now.norm c.args.limit c.in_ok-growth.growth) (sym c.self.view_is) c.in_ok-growth.ensures)
    (c.list_rows.ensures.width ∙ c.make_room.ensures.listed.0)
    (c.in_ok-list_rows.ensures.ok ∙ ap (λ (l : List (List ℤ)). l ++ c.in_ok-growth.growth.rows.rows) c.make_room.ensures.listed.1) c.list_rows.ensures.held
    (c.add_class.ensures ∙ ap (λ (l : List ClassValue). with_class c.in_ok-growth.growth.plus.norm c.in_ok-growth.growth.plus.ids l) c.make_room.ensures.plus)
    (c.add_class-2.ensures ∙ ap (λ (l : List ClassValue). with_class c.in_ok-growth.growth.minus.norm c.in_ok-growth.growth.minus.ids l) c.make_room.ensures.minus) refl
    (subst (λ (l : List ClassValue). HasGained c.self.inside.tally c.add.new.self l c.in_ok-growth.growth.plus) (c.deref.ensures.value ∙ c.make_room.ensures.minus) c.add.ensures.gained)
    (subst (λ (l : List ClassValue). HasGained c.add.new.self c.add-2.new.self l c.in_ok-growth.growth.minus) c.deref-2.ensures.value c.add-2.ensures.gained) c.add-2.ensures.range refl refl

pub returns-clause-end : goal.returns-clause-end
returns-clause-end c =
    let rows : c.list_rows.new.listed.rows ≡ c.self.inside.listed.rows ++ c.in_ok-growth.growth.rows.rows = c.in_ok-list_rows.ensures.ok ∙ ap (λ (l : List (List ℤ)). l ++ c.in_ok-growth.growth.rows.rows) c.make_room.ensures.listed.1 in
    let g : IsGrowth (value_of c.self.inside.system c.self.inside.number c.self.inside.norm c.self.inside.before c.self.inside.listed.rows (drop c.self.inside.waited c.self.inside.waiting.rows)) c.args.closed.now.norm c.args.limit c.in_ok-growth.growth =
    subst (λ (s : StageValue). IsGrowth s c.args.closed.now.norm c.args.limit c.in_ok-growth.growth) (sym c.self.view_is) c.in_ok-growth.ensures in
    let t : c.prepare.new.self ≡ value_of c.self.inside.system c.self.inside.number c.args.closed.now.norm c.self.inside.before c.list_rows.new.listed.rows (drop (c.self.inside.waited + c.in_ok-growth.growth.taken) c.self.inside.waiting.rows) = c.prepare.ensures in (
      subst (λ (w : StageValue). IsPublished c.args.self.now c.args.closed.now.norm w) (sym t) (subst (λ (s : StageValue). IsPublished s c.args.closed.now.norm (value_of c.self.inside.system c.self.inside.number c.args.closed.now.norm c.self.inside.before c.list_rows.new.listed.rows (drop (c.self.inside.waited + c.in_ok-growth.growth.taken) c.self.inside.waiting.rows))) c.self.view_is
          (published_is (value_of c.self.inside.system c.self.inside.number c.self.inside.norm c.self.inside.before c.self.inside.listed.rows (drop c.self.inside.waited c.self.inside.waiting.rows)) c.args.closed.now.norm c.args.limit c.in_ok-growth.growth
          c.self.invariant.stage (subst (λ (s : StageValue). IsNextNorm s.listed s.waiting s.norm c.args.closed.now.norm) (sym c.self.view_is) c.requires.next) c.requires.small c.requires.limit g
          (value_of c.self.inside.system c.self.inside.number c.args.closed.now.norm c.self.inside.before c.list_rows.new.listed.rows (drop (c.self.inside.waited + c.in_ok-growth.growth.taken) c.self.inside.waiting.rows))
          (value_after c.self.inside.system c.self.inside.number c.self.inside.norm c.self.inside.before c.args.closed.now.norm c.self.inside.waited c.in_ok-growth.growth.taken c.self.inside.listed.rows c.in_ok-growth.growth.rows.rows c.list_rows.new.listed.rows c.self.inside.waiting.rows rows))),
      omega (arith, ap (λ (w : StageValue). length w.listed) t, ap length rows, length-append c.self.inside.listed.rows c.in_ok-growth.growth.rows.rows, g.within),
    )

pub returns-clause-defined : goal.returns-clause-defined
returns-clause-defined c = λ h.
    defined_after c.args.self.now _ c.args.closed.now.norm c.requires.next (returns-clause-end c).0 h

pub returns-clause-further : goal.returns-clause-further
returns-clause-further c = further_after c.args.self.now _ c.args.closed.now.norm c.requires.next (returns-clause-end c).0
