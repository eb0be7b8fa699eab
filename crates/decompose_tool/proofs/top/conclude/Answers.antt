-- What the walk comes to.
use Rattle.std.proofs.Common.{◌∙◌, ◌+◌, ap, sym, arith}
use Rattle.decompose_tool.specs.Rows.{is_zero}
use Rattle.decompose_tool.proofs.Concluding.{published_ends, is_matrix}
use Rattle.decompose_tool.proofs.Plans.{left_finished, never_left}
use Rattle.decompose_tool.proofs.top.conclude.Goals as goal

pub returns-then-not-is_zero-clause-ends : goal.returns-then-not-is_zero-clause-ends
returns-then-not-is_zero-clause-ends g c =
    left_finished c.args.project.now c.args.shaped.now c.args.sets.now c.in_ok-check_all.ensures c.in_ok-walk.walk c.in_ok-walk.ensures.walked (g.F.Folder.held c.args.folder.now) (g.O.Sink.held c.args.out.now) c.new.result
    (ap is_zero (sym c.deref.ensures.value) ∙ sym c.is_zero.ensures ∙ c.if-not-is_zero.true) c.new.ensures

pub returns-then-not-is_zero-clause-whole : goal.returns-then-not-is_zero-clause-whole
returns-then-not-is_zero-clause-whole g c = λ wanted rest left.
    never_left c.args.project.now c.args.shaped.now c.args.sets.now c.in_ok-walk.walk c.requires.read c.requires.shape c.in_ok-check_all.ensures c.in_ok-walk.ensures.walked
    (ap is_zero (sym c.deref.ensures.value) ∙ sym c.is_zero.ensures ∙ c.if-not-is_zero.true) wanted

pub publish_walk-requires : goal.publish_walk-requires
publish_walk-requires g c = (
  is_matrix c.args.project.now c.args.shaped.now c.args.sets.now c.in_ok-check_all.ensures c.in_ok-walk.walk c.in_ok-walk.ensures.walked c.columns.result c.columns.ensures,
  omega (arith, c.columns.ensures, c.requires.read.columns),
)

pub returns-clause-ends : goal.returns-clause-ends
returns-clause-ends g c =
    let walk = c.in_ok-walk.walk in
    published_ends c.args.project.now c.args.shaped.now c.args.sets.now c.in_ok-check_all.ensures walk c.in_ok-walk.ensures.walked
    (ap is_zero (sym c.deref.ensures.value) ∙ sym c.is_zero.ensures ∙ c.if-not-is_zero.false) (record { rows = walk.terms; cols = c.columns.result + 1; cells = walk.cells.items })
    (ap (λ k. record { rows = walk.terms; cols = k + 1; cells = walk.cells.items }) c.columns.ensures)
    (g.F.Folder.held c.args.folder.now) (g.F.Folder.held c.publish_walk.new.folder) (g.O.Sink.held c.args.out.now) (g.O.Sink.held c.publish_walk.new.out) c.publish_walk.result c.publish_walk.ensures.published
