-- The overflow's place decides between a solution and a norm.
use Rattle.std.proofs.Common.{sym}
use Rattle.tool_top.proofs.messages.put_overflow.Goals as goal

pub returns-in-Row-clause-done : goal.returns-in-Row-clause-done
returns-in-Row-clause-done g c = rw (c.in-Row.is, sym c.cells.ensures) c.put_solution.ensures.done

pub returns-in-Row-clause-refused : goal.returns-in-Row-clause-refused
returns-in-Row-clause-refused g c = rw (c.in-Row.is, sym c.cells.ensures) c.put_solution.ensures.refused

pub returns-in-Norm-clause-done : goal.returns-in-Norm-clause-done
returns-in-Norm-clause-done g c = rw c.in-Norm.is c.put_norm.ensures.done

pub returns-in-Norm-clause-refused : goal.returns-in-Norm-clause-refused
returns-in-Norm-clause-refused g c = rw c.in-Norm.is c.put_norm.ensures.refused
