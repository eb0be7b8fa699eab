-- The least of the entries' counts.
use Rattle.std.proofs.Common.{◌+◌, get_or, pos, sym, subst, rules, SFits, w64, to_z-of_z, arith}
use Rattle.std.specs.Prelude.{ℕ}
use Rattle.decompose_tool.proofs.Counting.{Bounds, bounds_more, bounds_most}
use Rattle.decompose_tool.proofs.walking.count.Goals as goal

pub loop-j-preserved : goal.loop-j-preserved
loop-j-preserved c =
    let u = c.args.u.now in
    let rest = c.args.rest.now in
    let j = c.loop-j.j in
    let fu : SFits w64 (get_or u j (pos 0)) = search rules in
    let fr : SFits w64 (get_or rest j (pos 0)) = search rules in
    record {
      bounds = subst (λ (k : ℕ). Bounds u rest (j + 1) k) (sym c.min-most.ensures)
          (bounds_more u rest j c.loop-j.most c.entry_count.result c.loop-j-test.true c.requires.width (simp to_z-of_z at c.entry_count.ensures.exact) c.loop-j.invariant.bounds);
      small = omega (arith, c.min-most.ensures, c.loop-j.invariant.small);
    }

pub returns-clause-most : goal.returns-clause-most
returns-clause-most c =
    bounds_most c.args.u.now c.args.rest.now c.loop-j.j c.loop-j.most c.loop-j-test.false c.requires.width c.requires.nonzero c.requires.rest c.loop-j.invariant.small c.loop-j.invariant.bounds

pub loop-j-init : goal.loop-j-init
loop-j-init c = search rules
