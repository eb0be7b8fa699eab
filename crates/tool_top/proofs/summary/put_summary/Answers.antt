-- With tables a refusal leaves a prefix of both lines.
use Rattle.std.proofs.Common.{◌≡◌, OnErr, if◌then◌else◌, [], Some, sym, subst}
use Rattle.outside.specs.Pieces.{MayPut}
use Rattle.tool_top.specs.Summary.{summary_lines, summary_of}
use Rattle.tool_top.proofs.summary.put_summary.Goals as goal

pub returns-in-Some-clause-refused : goal.returns-in-Some-clause-refused
returns-in-Some-clause-refused g c =
    let e : summary_of c.args.job.now c.args.solutions c.args.pairs c.args.norms ≡ summary_lines c.args.job.now.tables c.args.solutions c.args.pairs c.args.norms =
    λ i. if c.if-job.false i then [] else summary_lines c.args.job.now.tables c.args.solutions c.args.pairs c.args.norms in
    let f : summary_lines c.args.job.now.tables c.args.solutions c.args.pairs c.args.norms ≡ summary_lines (Some 2) c.args.solutions c.args.pairs c.args.norms =
    λ i. summary_lines (c.in-Some.is i) c.args.solutions c.args.pairs c.args.norms in
    subst (λ t. OnErr c.put_counts_and_norms.result (MayPut t (g.O.Sink.held c.args.out.now) (g.O.Sink.held c.put_counts_and_norms.new.out))) (sym e)
    (subst (λ t. OnErr c.put_counts_and_norms.result (MayPut t (g.O.Sink.held c.args.out.now) (g.O.Sink.held c.put_counts_and_norms.new.out))) (sym f) c.put_counts_and_norms.ensures.refused)
