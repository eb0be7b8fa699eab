-- The walk with one step more.
use Rattle.std.proofs.Common.{◌≡◌, ◌∙◌, refl, sym, length, ap, arith}
use Rattle.std.specs.Prelude.{List, ℤ}
use Rattle.std.proofs.lemmas.List.{with_items_is}
use Rattle.std.proofs.lemmas.List.Elements.{recursion_from_All}
use Rattle.int_vector.specs.Range.{InRange}
use Rattle.int_vector.specs.Operations.{add}
use Rattle.int_vector.proofs.Sums.{length-add}
use Rattle.climb_tool.specs.Paths.{times}
use Rattle.climb_tool.specs.Inside.Turns.{vector_of}
use Rattle.climb_tool.proofs.Entries.{not_zero, length-turned, length-times, turned_range}
use Rattle.climb_tool.proofs.Leading.{walk_more, point_long}
use Rattle.climb_tool.proofs.climbing.step.Goals as goal

pub greatest-count-requires-clause-nonzero : goal.greatest-count-requires-clause-nonzero
greatest-count-requires-clause-nonzero c = not_zero c.args.problem.now.cost.cells (vector_of c.args.candidate) c.requires.first.helps.cheaper

pub returns-clause-walked : goal.returns-clause-walked
returns-clause-walked c =
    let p = c.args.problem.now in
    let old = c.args.path.now in
    let w = c.requires.walked in
    let v = c.args.candidate.vector.now in
    let b = c.args.candidate.negative in
    let g : List ℤ = vector_of c.args.candidate in
    let n = c.greatest-count.result in
    let long : length g ≡ p.mat.cols = length-turned b v ∙ c.requires.vector in
    let moved : c.advance.new.x ≡ add old.point.items (times n g) = rw c.deref_mut.ensures.value at c.advance.ensures in
    let even : length old.point.items ≡ length (times n g) = point_long p old.point.items c.requires.problem w.1.within ∙ sym (length-times n g ∙ long) in
    let size : length c.advance.new.x ≡ old.point.len =
    omega (arith, ap length moved, length-add old.point.items (times n g) even, c.deref_mut.ensures.len, ap length c.deref_mut.ensures.value) in
    walk_more p old _ w.0 g n c.requires.problem w.1 long (turned_range b v (recursion_from_All InRange v c.requires.range))
    c.greatest-count.ensures.most c.requires.first
    (rw (c.cells-upper.ensures, c.deref.ensures.value) at c.greatest-count.ensures.greatest)
    (with_items_is old.point c.advance.new.x size ∙ moved)
    c.in_ok-push_step.ensures refl
