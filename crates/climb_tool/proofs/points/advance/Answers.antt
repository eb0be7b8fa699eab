-- Each entry is moved from where it was.
use Rattle.std.proofs.Common.{◌≡◌, ◌<◌, ◌∙◌, ℕ, arith, rules, sym, ap, subst, length, get_or, pos, SFits, w64, to_z-of_z}
use Rattle.std.specs.Prelude.{ℤ, ◌+ℤ◌, ◌*ℤ◌, ◌≤ℤ◌, List}
use Rattle.std.proofs.lemmas.Int.{ints}
use Rattle.std.proofs.lemmas.List.{length-set}
use Rattle.int_vector.specs.Range.{InRange}
use Rattle.climb_tool.specs.Paths.{times}
use Rattle.climb_tool.specs.Inside.Turns.{turned_entry, vector_of}
use Rattle.climb_tool.proofs.Entries.{Fits, length-turned, length-times, entry_times, entry_turned, entry_within, entry_of_sum}
use Rattle.climb_tool.proofs.Entries.{entry_same, within_length, range_at, moved_entry, moved_taken, moved_others, moved_all}
use Rattle.climb_tool.proofs.points.advance.Goals as goal

in_word : (u a : ℤ) → InRange u → (pos 0 ≤ℤ a) × (a ≤ℤ u) → (pos 0 ≤ℤ a) × (a ≤ℤ pos 9223372036854775807)
in_word u a f h = (h.0, omega (arith, ints, f, h.0, h.1))

pub moved-requires-clause-before : goal.moved-requires-clause-before
moved-requires-clause-before c =
    let upper : List ℤ = c.args.upper.now in
    let start : List ℤ = c.args.x.now in
    let x : List ℤ = c.loop-i.x in
    let i : ℕ = c.loop-i.i in
    let l : i < length upper = omega arith in
    let m : i < length x = omega (arith, l, c.loop-i.invariant.length) in
    let same : get_or x i (pos 0) ≡ get_or start i (pos 0) =
    entry_same x start i (pos 0) c.loop-i.invariant.others m (omega (arith, l, within_length upper start c.requires.point)) in
    let fu : InRange (get_or upper i (pos 0)) = range_at upper i (pos 0) l c.requires.upper in
    let fx : SFits w64 (get_or x i (pos 0)) = search rules in
    simp to_z-of_z
    (subst (λ (a : ℤ). (pos 0 ≤ℤ a) × (a ≤ℤ pos 9223372036854775807)) (sym same)
    (in_word (get_or upper i (pos 0)) (get_or start i (pos 0)) fu (entry_within upper start i (pos 0) l c.requires.point)))

pub moved-requires-clause-after : goal.moved-requires-clause-after
moved-requires-clause-after c =
    let upper : List ℤ = c.args.upper.now in
    let start : List ℤ = c.args.x.now in
    let x : List ℤ = c.loop-i.x in
    let v : List ℤ = c.args.candidate.vector.now in
    let g : List ℤ = vector_of c.args.candidate in
    let n : ℕ = c.args.count in
    let i : ℕ = c.loop-i.i in
    let l : i < length upper = omega arith in
    let m : i < length x = omega (arith, l, c.loop-i.invariant.length) in
    let same : get_or x i (pos 0) ≡ get_or start i (pos 0) =
    entry_same x start i (pos 0) c.loop-i.invariant.others m (omega (arith, l, within_length upper start c.requires.point)) in
    let fu : InRange (get_or upper i (pos 0)) = range_at upper i (pos 0) l c.requires.upper in
    let fx : SFits w64 (get_or x i (pos 0)) = search rules in
    let fv : SFits w64 (get_or v i (pos 0)) = search rules in
    let s : ℤ = c.turned_entry-step.result in
    let fs : SFits w64 s = search rules in
    let is : s ≡ turned_entry c.args.candidate.negative (get_or v i (pos 0)) = simp to_z-of_z at c.turned_entry-step.ensures in
    let long : length g ≡ length upper = length-turned c.args.candidate.negative v ∙ c.requires.vector in
    let at : get_or (times n g) i (pos 0) ≡ pos n *ℤ s =
    entry_times n g i (pos 0) (omega (arith, l, long))
    ∙ ap (λ z. pos n *ℤ z) (entry_turned c.args.candidate.negative v i (pos 0) (omega (arith, l, c.requires.vector)) ∙ sym is) in
    let f : Fits (get_or upper i (pos 0)) (get_or start i (pos 0)) (get_or (times n g) i (pos 0)) =
    entry_of_sum upper start (times n g) i (pos 0) l (sym (within_length upper start c.requires.point)) (length-times n g ∙ long) c.requires.within in
    let k : Fits (get_or upper i (pos 0)) (get_or x i (pos 0)) (pos n *ℤ s) =
    subst (λ (a : ℤ). Fits (get_or upper i (pos 0)) a (pos n *ℤ s)) (sym same) (subst (Fits (get_or upper i (pos 0)) (get_or start i (pos 0))) at f) in
    simp to_z-of_z (in_word (get_or upper i (pos 0)) (get_or x i (pos 0) +ℤ (pos n *ℤ s)) fu k)

pub loop-i-preserved : goal.loop-i-preserved
loop-i-preserved c =
    let upper : List ℤ = c.args.upper.now in
    let start : List ℤ = c.args.x.now in
    let x : List ℤ = c.loop-i.x in
    let v : List ℤ = c.args.candidate.vector.now in
    let g : List ℤ = vector_of c.args.candidate in
    let n : ℕ = c.args.count in
    let i : ℕ = c.loop-i.i in
    let l : i < length upper = omega arith in
    let m : i < length x = omega (arith, l, c.loop-i.invariant.length) in
    let fx : SFits w64 (get_or x i (pos 0)) = search rules in
    let fv : SFits w64 (get_or v i (pos 0)) = search rules in
    let s : ℤ = c.turned_entry-step.result in
    let fs : SFits w64 s = search rules in
    let y : ℤ = c.moved.result in
    let fy : SFits w64 y = search rules in
    let is : s ≡ turned_entry c.args.candidate.negative (get_or v i (pos 0)) = simp to_z-of_z at c.turned_entry-step.ensures in
    let long : length g ≡ length upper = length-turned c.args.candidate.negative v ∙ c.requires.vector in
    let at : get_or (times n g) i (pos 0) ≡ pos n *ℤ s =
    entry_times n g i (pos 0) (omega (arith, l, long))
    ∙ ap (λ z. pos n *ℤ z) (entry_turned c.args.candidate.negative v i (pos 0) (omega (arith, l, c.requires.vector)) ∙ sym is) in
    let sum : y ≡ get_or x i (pos 0) +ℤ (pos n *ℤ s) = simp to_z-of_z at c.moved.ensures in
    let new : y ≡ get_or start i (pos 0) +ℤ get_or (times n g) i (pos 0) =
    moved_entry upper start (times n g) x i y c.loop-i.invariant.length c.requires.point (length-times n g ∙ long) l c.loop-i.invariant.others
    (sum ∙ ap (λ z. get_or x i (pos 0) +ℤ z) (sym at)) in
    simp to_z-of_z (record {
      length = length-set x i y ∙ c.loop-i.invariant.length;
      moved = moved_taken upper start (times n g) x i y c.loop-i.invariant.length c.requires.point (length-times n g ∙ long) l c.loop-i.invariant.moved new;
      others = moved_others start x i y c.loop-i.invariant.others;
    })

pub returns : goal.returns
returns c =
    let v = c.args.candidate.vector.now in
    let g = vector_of c.args.candidate in
    moved_all c.args.upper.now c.args.x.now (times c.args.count g) c.loop-i.x c.loop-i.i c.loop-i.invariant.length c.requires.point
    (length-times c.args.count g ∙ (length-turned c.args.candidate.negative v ∙ c.requires.vector)) (omega arith) c.loop-i.invariant.moved
