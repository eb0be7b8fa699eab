-- The outcome of all steps, and what is said of it.
use Rattle.std.proofs.Common.{subst}
use Rattle.std.specs.Prelude.{List, ℕ}
use Rattle.circuit_tool.specs.Ends.{Says}
use Rattle.circuit_tool.proofs.top.run_circuits.Goals as goal

pub returns-clause-ends : goal.returns-clause-ends
returns-clause-ends g c = (
  c.finish-outcome.result,
  c.end-end.ensures,
  subst (λ (p : List ℕ). Says p c.finish-outcome.result (g.E.Sink.held c.args.err.now) (g.E.Sink.held c.say.new.err)) c.project_or_nothing.ensures c.say.ensures,
  c.finish-outcome.ensures.ends,
)
