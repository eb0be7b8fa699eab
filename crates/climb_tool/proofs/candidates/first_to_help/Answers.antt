-- The rows so far, and the one that is tried.
use Rattle.std.proofs.Common.{◌<◌, ◌≤◌, subst, length, arith}
use Rattle.std.specs.Prelude.{List, ℤ}
use Rattle.std.proofs.lemmas.List.{take_all}
use Rattle.system_files.specs.Kernel.{rows_in}
use Rattle.climb_tool.specs.Inside.Turns.{vector_of}
use Rattle.climb_tool.specs.Paths.{candidates, NoneHelps}
use Rattle.climb_tool.proofs.Choices.{none_more, first_of_all, row_norm}
use Rattle.climb_tool.proofs.candidates.first_to_help.Goals as goal

pub returns-in-Some-clause-first : goal.returns-in-Some-clause-first
returns-in-Some-clause-first c =
    let p = c.args.problem.now in
    let l : c.loop-i.i < length (rows_in p.set) = omega (arith, c.row_count-i-end.ensures.count) in
    first_of_all p.upper.cells p.cost.cells c.args.x.now (rows_in p.set) c.loop-i.i c.row-vector.result.now l c.row-vector.ensures.row
    c.loop-i.invariant (vector_of c.in-Some.candidate)
    (rw (c.cells-upper.ensures, c.cells-cost.ensures) at c.in-Some.ensures.first)

pub loop-i-preserved : goal.loop-i-preserved
loop-i-preserved c =
    let p = c.args.problem.now in
    let l : c.loop-i.i < length (rows_in p.set) = omega (arith, c.row_count-i-end.ensures.count) in
    none_more p.upper.cells p.cost.cells c.args.x.now (rows_in p.set) c.loop-i.i c.row-vector.result.now l c.row-vector.ensures.row c.loop-i.invariant
    (rw (c.cells-upper.ensures, c.cells-cost.ensures) at c.in-None.ensures.first)

pub returns-clause-first : goal.returns-clause-first
returns-clause-first c =
    let p = c.args.problem.now in
    let all : length (rows_in p.set) ≤ c.loop-i.i = omega (arith, c.row_count-i-end.ensures.count) in
    subst (λ (rows : List (List ℤ)). NoneHelps p.upper.cells p.cost.cells c.args.x.now (candidates rows)) (take_all c.loop-i.i
    (rows_in p.set) all) c.loop-i.invariant

pub helping-requires-clause-small : goal.helping-requires-clause-small
helping-requires-clause-small c =
    let p = c.args.problem.now in
    let l : c.loop-i.i < length (rows_in p.set) = omega (arith, c.row_count-i-end.ensures.count) in
    row_norm (rows_in p.mat) (rows_in p.set) c.loop-i.i c.row-vector.result.now l c.row-vector.ensures.row c.requires.kernel
