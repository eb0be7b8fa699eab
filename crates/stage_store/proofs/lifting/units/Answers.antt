-- Of no rows the minimal solutions are the unit vectors and their negatives that obey signs and caps. They are tried in
-- order, in one vector of zeros that has one entry set and cleared again.
use Rattle.std.proofs.Common.{◌≡◌, ◌∙◌, sym, ap, arith, rules, subst, SFits, w64, to_z-of_z, to_z, of_z, ◌<◌, ◌+◌, ◌*◌, refl, length, length-append, ◌++◌, ◌∷◌, []}
use Rattle.std.specs.Prelude.{List, ℤ}
use Rattle.lift_core.specs.ToolSystems.{width}
use Rattle.row_pool.specs.Rows.{PoolValue}
use Rattle.stage_store.proofs.Sums.{not_true}
use Rattle.stage_store.specs.UnitVectors.{unit_vector, AreUnitsBefore}
use Rattle.stage_store.proofs.UnitVectors.{units_none, units_more, units_less, units_are_minimal, unit_set, unit_cleared, unit_range, column_inside}
use Rattle.stage_store.proofs.lifting.units.Goals as goal
use Rattle.stage_store.proofs.lifting.units.Goals.{then-obeys, else-obeys}

pub loop-i-init : goal.loop-i-init
loop-i-init c = record {
  width = c.reserve.ensures.same.0 ∙ c.new-units.ensures.0;
  room = omega (arith, c.in_ok-reserve.ensures.ok);
  count = omega (arith, ap (λ (l : List (List ℤ)). length l) (c.reserve.ensures.same.1 ∙ c.new-units.ensures.1));
  unit = c.in_ok-unit.ensures.items_if_clones_equal (λ y h. h);
  list = subst (λ (l : List (List ℤ)). AreUnitsBefore c.args.system.now.equations 0 l) (sym (c.reserve.ensures.same.1 ∙ c.new-units.ensures.1)) (units_none c.args.system.now.equations);
}

pub push-requires-clause-range : goal.push-requires-clause-range
push-requires-clause-range c =
    let r : SFits w64 c.unit_at-column.result.1 = search rules in
    let x : to_z w64 (of_z w64 c.unit_at-column.result.1) ≡ c.unit_at-column.result.1 = simp to_z-of_z in
    unit_range c.deref-then-obeys.result.now c.width-width.result c.loop-i.i
    (c.deref-then-obeys.ensures.value ∙ unit_set c.loop-i.unit.items c.width-width.result c.width-width.result c.loop-i.i c.unit_at-column.result.0 (to_z w64 (of_z w64 c.unit_at-column.result.1)) c.unit_at-column.result.1 c.loop-i.invariant.unit c.unit_at-column.ensures.column x c.unit_at-column.ensures.entry refl)
    c.loop-i-test.true

pub loop-i-preserved : goal.loop-i-preserved
loop-i-preserved c =
    let r : SFits w64 c.unit_at-column.result.1 = search rules in
    let x : to_z w64 (of_z w64 c.unit_at-column.result.1) ≡ c.unit_at-column.result.1 = simp to_z-of_z in
    let l : c.unit_at-column.result.0 < c.width-width.result = omega (arith, c.unit_at-column.ensures.column, column_inside c.width-width.result c.loop-i.i c.loop-i-test.true) in
    let m : c.loop-i.i < 2 * width c.args.system.now.equations = omega (arith, c.loop-i-test.true, c.width-width.ensures.width) in
    let v : c.deref.result.now ≡ unit_vector (width c.args.system.now.equations) c.loop-i.i =
    c.deref.ensures.value ∙ unit_set c.loop-i.unit.items c.width-width.result (width c.args.system.now.equations) c.loop-i.i c.unit_at-column.result.0 (to_z w64 (of_z w64 c.unit_at-column.result.1)) c.unit_at-column.result.1 c.loop-i.invariant.unit c.unit_at-column.ensures.column x c.unit_at-column.ensures.entry c.width-width.ensures.width in
    elim c.if-obeys.branch [
      | then-obeys w ↦ record {
        width = ap (λ (p : PoolValue). p.width) w.units-is ∙ w.push.ensures.width ∙ c.loop-i.invariant.width;
        room = omega (arith, ap (λ (p : PoolValue). p.spare) w.units-is, w.push.ensures.spare, c.loop-i.invariant.room);
        count = omega (arith, ap (λ (p : PoolValue). length p.rows) w.units-is, ap (λ (l : List (List ℤ)). length l) w.push.ensures.rows, length-append c.loop-i.units.rows (w.deref-then-obeys.result.now ∷ []), c.loop-i.invariant.count);
        unit = unit_cleared c.loop-i.unit.items c.width-width.result c.unit_at-column.result.0 (to_z w64 (of_z w64 c.unit_at-column.result.1)) c.loop-i.invariant.unit l;
        list = units_more c.args.system.now.equations c.loop-i.i c.loop-i.units.rows c.if-obeys.units.rows c.deref.result.now m c.loop-i.invariant.list v (c.obeys.ensures.0 w.if-obeys.true)
            (ap (λ (p : PoolValue). p.rows) w.units-is ∙ w.push.ensures.rows ∙ ap (λ (r : List ℤ). c.loop-i.units.rows ++ (r ∷ [])) (w.deref-then-obeys.ensures.value ∙ sym c.deref.ensures.value));
      }
      | else-obeys w ↦ record {
        width = ap (λ (p : PoolValue). p.width) w.units-is ∙ c.loop-i.invariant.width;
        room = omega (arith, ap (λ (p : PoolValue). p.spare) w.units-is, c.loop-i.invariant.room);
        count = omega (arith, ap (λ (p : PoolValue). length p.rows) w.units-is, c.loop-i.invariant.count);
        unit = unit_cleared c.loop-i.unit.items c.width-width.result c.unit_at-column.result.0 (to_z w64 (of_z w64 c.unit_at-column.result.1)) c.loop-i.invariant.unit l;
        list = subst (λ (p : PoolValue). AreUnitsBefore c.args.system.now.equations (c.loop-i.i + 1) p.rows) (sym w.units-is)
            (units_less c.args.system.now.equations c.loop-i.i c.loop-i.units.rows c.deref.result.now c.loop-i.invariant.list v (λ o. not_true c.obeys.result w.if-obeys.false (c.obeys.ensures.1 o)));
      }
    ]

pub returns-clause-solutions : goal.returns-clause-solutions
returns-clause-solutions c = units_are_minimal c.args.system.now.equations c.loop-i.i c.loop-i.units.rows (omega (arith, c.loop-i-test.false, c.width-width.ensures.width)) (omega (arith, c.loop-i.auto.i-end, c.width-width.ensures.width)) c.loop-i.invariant.list
