-- One difference more is appended, or it is too wide, and then so is the whole.
use Rattle.std.proofs.Common.{◌≡◌, ◌≤◌, ◌<◌, ◌++◌, [], length, get_or, SFits, w64, to_z-of_z, arith}
use Rattle.int_vector.specs.Vectors.{norm, largest}
use Rattle.decompose_tool.specs.Inside.Steps.{user_of, in_front, no_row, IsStanding}
use Rattle.decompose_tool.proofs.Filling.{next_pushed, too_wide, all_pushed, not_negative_each, stands_at}
use Rattle.decompose_tool.proofs.FullVectors.{too_long, pushed_whole}
use Rattle.decompose_tool.proofs.UserRows.{few_user_rows}
use Rattle.decompose_tool.proofs.checking.push_differences.Goals as goal

pub push_difference-requires : goal.push_difference-requires
push_difference-requires c =
    let ft : SFits w64 c.args.times = c.ranges.times in
    let rows = (user_of c.args.shaped.now).rows in
    let h : IsStanding (get_or rows c.loop-i.i no_row) c.args.times c.args.x.now c.standing_at.result = simp to_z-of_z at c.standing_at.ensures.stands in
    not_negative_each c.standing_at.result c.difference.result (stands_at rows c.loop-i.i c.args.times c.args.x.now c.standing_at.result c.standing_at.ensures.inside h c.requires.stand) c.difference.ensures

pub returns-then-not-branch : goal.returns-then-not-branch
returns-then-not-branch c =
    let ft : SFits w64 c.args.times = c.ranges.times in
    let rows = (user_of c.args.shaped.now).rows in
    let h : IsStanding (get_or rows c.loop-i.i no_row) c.args.times c.args.x.now c.standing_at.result = simp to_z-of_z at c.standing_at.ensures.stands in
    let wide : largest < norm (c.loop-i.full.items ++ in_front c.difference.result []) =
    too_long c.loop-i.full.items (in_front c.difference.result []) c.push_difference.new.full.items c.in_ok-push_difference.field-0 c.if-not-branch.true c.in_ok-push_difference.ensures in
    too_wide rows c.loop-i.i c.args.times c.args.x.now c.standing_at.result c.difference.result c.loop-i.full.items _ c.standing_at.ensures.inside h c.difference.ensures wide (simp to_z-of_z at c.loop-i.invariant)

pub loop-i-preserved : goal.loop-i-preserved
loop-i-preserved c =
    let ft : SFits w64 c.args.times = c.ranges.times in
    let rows = (user_of c.args.shaped.now).rows in
    let h : IsStanding (get_or rows c.loop-i.i no_row) c.args.times c.args.x.now c.standing_at.result = simp to_z-of_z at c.standing_at.ensures.stands in
    let new : c.push_difference.new.full.items ≡ c.loop-i.full.items ++ in_front c.difference.result [] =
    pushed_whole c.loop-i.full.items (in_front c.difference.result []) c.push_difference.new.full.items c.in_ok-push_difference.field-0 c.if-not-branch.false c.in_ok-push_difference.ensures in
    simp to_z-of_z (next_pushed rows c.loop-i.i c.args.times c.args.x.now c.standing_at.result c.difference.result c.loop-i.full.items c.push_difference.new.full.items _ c.standing_at.ensures.inside h c.difference.ensures new
    (simp to_z-of_z at c.loop-i.invariant))

pub returns : goal.returns
returns c =
    let s = c.args.shaped.now in
    let ft : SFits w64 c.args.times = c.ranges.times in
    let none : length (user_of s).rows ≤ c.loop-i.i = omega (arith, few_user_rows s.system.tool s.input, c.row_count-i-end.ensures.rows, c.loop-i-test.false) in
    all_pushed (user_of s).rows c.loop-i.i c.args.times c.args.x.now c.loop-i.full.items _ none (simp to_z-of_z at c.loop-i.invariant)
