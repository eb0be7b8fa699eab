-- So many times at most, and what is left, decide.
use Rattle.std.proofs.Common.{◌≡◌, ◌<◌, ◌≤◌, ◌∙◌, ℕ, arith, rules, sym, length, get_or, pos, SFits, w64, to_z-of_z}
use Rattle.std.specs.Prelude.{ℤ, ◌↔◌, ◌*ℤ◌, List}
use Rattle.climb_tool.specs.Inside.Turns.{turned_entry, vector_of}
use Rattle.climb_tool.proofs.Entries.{Fits, length-turned, entry_turned, entry_within, greatest_step, greatest_end}
use Rattle.climb_tool.proofs.points.greatest.Goals as goal

pub room-requires-clause-low : goal.room-requires-clause-low
room-requires-clause-low c =
    let l : c.loop-i.i < length c.args.upper.now = omega arith in
    let fx : SFits w64 (get_or c.args.x.now c.loop-i.i (pos 0)) = search rules in
    simp to_z-of_z ((entry_within c.args.upper.now c.args.x.now c.loop-i.i (pos 0) l c.requires.point).0)

pub room-requires-clause-high : goal.room-requires-clause-high
room-requires-clause-high c =
    let l : c.loop-i.i < length c.args.upper.now = omega arith in
    let fx : SFits w64 (get_or c.args.x.now c.loop-i.i (pos 0)) = search rules in
    let fu : SFits w64 (get_or c.args.upper.now c.loop-i.i (pos 0)) = search rules in
    simp to_z-of_z ((entry_within c.args.upper.now c.args.x.now c.loop-i.i (pos 0) l c.requires.point).1)

pub loop-i-preserved : goal.loop-i-preserved
loop-i-preserved c =
    let upper : List ℤ = c.args.upper.now in
    let x : List ℤ = c.args.x.now in
    let v : List ℤ = c.args.candidate.vector.now in
    let g : List ℤ = vector_of c.args.candidate in
    let i : ℕ = c.loop-i.i in
    let l : i < length upper = omega arith in
    let fu : SFits w64 (get_or upper i (pos 0)) = search rules in
    let fx : SFits w64 (get_or x i (pos 0)) = search rules in
    let fv : SFits w64 (get_or v i (pos 0)) = search rules in
    let s : ℤ = c.turned_entry-step.result in
    let fs : SFits w64 s = search rules in
    let is : s ≡ turned_entry c.args.candidate.negative (get_or v i (pos 0)) = simp to_z-of_z at c.turned_entry-step.ensures in
    let t : s ≡ get_or g i (pos 0) = is ∙ sym (entry_turned c.args.candidate.negative v i (pos 0) (omega (arith, l, c.requires.vector))) in
    let long : length g ≡ length upper = length-turned c.args.candidate.negative v ∙ c.requires.vector in
    let r : (d : ℕ) → d ≤ 9223372036854775807 → Fits (get_or upper i (pos 0)) (get_or x i (pos 0)) (pos d *ℤ s) ↔ (d ≤ c.room.result) =
    simp to_z-of_z at c.room.ensures.room in
    record {
      most = omega (arith, c.loop-i.invariant.most, c.min-most.ensures);
      decides = λ d small.
          greatest_step upper x g i d c.loop-i.most c.room.result c.min-most.result s l c.requires.point long t c.min-most.ensures (r d small)
          (c.loop-i.invariant.decides d small);
    }

pub returns-clause-greatest : goal.returns-clause-greatest
returns-clause-greatest c =
    greatest_end c.args.upper.now c.args.x.now (vector_of c.args.candidate) c.loop-i.i c.loop-i.most (omega arith) c.requires.upper c.requires.point
    (length-turned c.args.candidate.negative c.args.candidate.vector.now ∙ c.requires.vector) c.requires.nonzero c.loop-i.invariant.most
    c.loop-i.invariant.decides

pub loop-i-init : goal.loop-i-init
loop-i-init c = search rules
