-- The matrices of the last point and of the steps are in range and of their shapes.
use Rattle.std.proofs.Common.{◌+◌, ◌*◌, ◌≤◌, ◌∙◌, ap, sym, subst, arith}
use Rattle.std.specs.Prelude.{List, ℤ}
use Rattle.int_vector.specs.Vectors.{norm}
use Rattle.climb_tool.proofs.Entries.{within_small}
use Rattle.climb_tool.proofs.Leading.{point_norm, point_long, cells_count}
use Rattle.climb_tool.proofs.top.lay_out.Goals as goal

pub cost_of-requires-clause-small : goal.cost_of-requires-clause-small
cost_of-requires-clause-small c =
    subst (λ (v : List ℤ). norm v ≤ 590295810358705651712) (sym c.deref.ensures.value)
    (point_norm c.args.problem.now c.args.path.point.items c.requires.problem c.requires.walked.1.within)

pub invariant_of-result : goal.invariant_of-result
invariant_of-result c =
    let p = c.args.problem.now in
    record {
      count = omega (arith, point_long p c.args.path.point.items c.requires.problem c.requires.walked.1.within, c.columns-columns.ensures);
      wide = omega (arith, c.requires.problem.shapes.wide, c.columns-columns.ensures);
      small = within_small p.upper.cells c.args.path.point.items c.requires.problem.shapes.range c.requires.walked.1.within;
    }

pub invariant_of-result-2 : goal.invariant_of-result-2
invariant_of-result-2 c =
    let w = c.requires.walked in
    record {
      count = cells_count c.args.problem.now w.0 c.args.path w.1 ∙ ap (λ n. c.args.path.count * (n + 1)) (sym c.columns-columns.ensures);
      wide = omega arith;
      small = w.1.small;
    }
