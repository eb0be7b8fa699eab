-- The quotient tells how often the entry can be moved, up or down.
use Rattle.std.proofs.Common.{◌≡◌, arith, ap₂, ◌/◌, SFits, w64, to_z-of_z}
use Rattle.std.specs.Prelude.{ℤ, pos, nat_abs, ◌-ℤ◌, ◌<ℤ◌}
use Rattle.std.proofs.lemmas.Int.{ints}
use Rattle.climb_tool.proofs.Entries.{room_up, room_down, less_true}
use Rattle.climb_tool.proofs.points.room.Goals as goal

pub returns-then-step-gt0-clause-room : goal.returns-then-step-gt0-clause-room
returns-then-step-gt0-clause-room c = λ d small.
    let u : ℤ = c.args.upper in
    let a : ℤ = c.args.entry in
    let s : ℤ = c.args.step in
    let fu : SFits w64 u = c.ranges.upper in
    let fa : SFits w64 a = c.ranges.entry in
    let fs : SFits w64 s = c.ranges.step in
    let fd : SFits w64 (u -ℤ a) = omega (arith, ints, c.requires.low, c.requires.high, fu) in
    let above : pos 0 <ℤ s = less_true (pos 0) s (simp to_z-of_z at c.if-step-gt0.true) in
    let e : c.unsigned_abs.result ≡ nat_abs (u -ℤ a) = simp to_z-of_z at c.unsigned_abs.ensures.value in
    let f : c.unsigned_abs-then-step-gt0.result ≡ nat_abs s = simp to_z-of_z at c.unsigned_abs-then-step-gt0.ensures.value in
    room_up u a s (c.unsigned_abs.result / c.unsigned_abs-then-step-gt0.result) d c.requires.low c.requires.high above (ap₂ (λ m n. m / n) e f)

pub returns-then-step-lt0-clause-room : goal.returns-then-step-lt0-clause-room
returns-then-step-lt0-clause-room c = λ d small.
    let u : ℤ = c.args.upper in
    let a : ℤ = c.args.entry in
    let s : ℤ = c.args.step in
    let fa : SFits w64 a = c.ranges.entry in
    let fs : SFits w64 s = c.ranges.step in
    let under : s <ℤ pos 0 = less_true s (pos 0) (simp to_z-of_z at c.if-step-lt0.true) in
    let e : c.unsigned_abs-then-step-lt0.result ≡ nat_abs a = simp to_z-of_z at c.unsigned_abs-then-step-lt0.ensures.value in
    let f : c.unsigned_abs-then-step-lt0-2.result ≡ nat_abs s = simp to_z-of_z at c.unsigned_abs-then-step-lt0-2.ensures.value in
    room_down u a s (c.unsigned_abs-then-step-lt0.result / c.unsigned_abs-then-step-lt0-2.result) d c.requires.low c.requires.high under
    (ap₂ (λ m n. m / n) e f)
