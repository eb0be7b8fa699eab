-- A column without a cap allows each sum, so the columns that have one decide.
use Rattle.std.proofs.Common.{get_or, arith, rules, pos, w64, SFits, to_z-of_z}
use Rattle.std.specs.Prelude.{IsTrue, ◌↔◌}
use Rattle.std.specs.List.{AllZip}
use Rattle.int_vector.specs.Operations.{add}
use Rattle.lift_core.specs.Columns.{IsCapped}
use Rattle.lift_core.proofs.Caps.{IsSumCapped, place_inside, sum_capped_decide, left_decide, left_refutes}
use Rattle.lift_core.proofs.system.sum_has_caps.Goals as goal

pub loop-place-init : goal.loop-place-init
loop-place-init c = sum_capped_decide c.args.caps.now c.args.u.now c.args.v.now c.args.places.now c.requires.places c.requires.first c.requires.second

pub bounds-caps-j : goal.bounds-caps-j
bounds-caps-j c = place_inside c.args.caps.now c.args.places.now c.loop-place.place-index c.requires.places c.loop-place-test.true

pub bounds-u-j : goal.bounds-u-j
bounds-u-j c = omega (arith, place_inside c.args.caps.now c.args.places.now c.loop-place.place-index c.requires.places c.loop-place-test.true, c.requires.first)

pub bounds-v-j : goal.bounds-v-j
bounds-v-j c = omega (arith, place_inside c.args.caps.now c.args.places.now c.loop-place.place-index c.requires.places c.loop-place-test.true, c.requires.second)

pub returns-then-not-is_sum_capped : goal.returns-then-not-is_sum_capped
returns-then-not-is_sum_capped c =
    let j = get_or c.args.places.now c.loop-place.place-index 0 in
    let first : SFits w64 (get_or c.args.u.now j (pos 0)) = search rules in
    let second : SFits w64 (get_or c.args.v.now j (pos 0)) = search rules in
    let decided : IsTrue c.is_sum_capped.result ↔ IsSumCapped c.args.caps.now c.args.u.now c.args.v.now j = simp to_z-of_z at c.is_sum_capped.ensures in
    let out = left_refutes (IsSumCapped c.args.caps.now c.args.u.now c.args.v.now) (AllZip IsCapped c.args.caps.now (add c.args.u.now c.args.v.now)) c.args.places.now c.loop-place.place-index c.loop-place-test.true
    (λ p. let t : IsTrue c.is_sum_capped.result = decided.1 p in cc) c.loop-place.invariant in
    ((λ t. cc), (λ a. absurd (out a)))

pub loop-place-preserved : goal.loop-place-preserved
loop-place-preserved c =
    let j = get_or c.args.places.now c.loop-place.place-index 0 in
    let first : SFits w64 (get_or c.args.u.now j (pos 0)) = search rules in
    let second : SFits w64 (get_or c.args.v.now j (pos 0)) = search rules in
    let decided : IsTrue c.is_sum_capped.result ↔ IsSumCapped c.args.caps.now c.args.u.now c.args.v.now j = simp to_z-of_z at c.is_sum_capped.ensures in
    left_decide (IsSumCapped c.args.caps.now c.args.u.now c.args.v.now) (AllZip IsCapped c.args.caps.now (add c.args.u.now c.args.v.now)) c.args.places.now c.loop-place.place-index
    c.loop-place-test.true (decided.0 c.if-not-is_sum_capped.false) c.loop-place.invariant
