-- Each end of a run has the words that are defined for it.
use Rattle.stand_tool.proofs.messages.put_run.Goals as goal

pub returns-in-Overflow-clause-done : goal.returns-in-Overflow-clause-done
returns-in-Overflow-clause-done g c = rw c.in-Overflow.is c.put_overflow.ensures.done

pub returns-in-Overflow-clause-refused : goal.returns-in-Overflow-clause-refused
returns-in-Overflow-clause-refused g c = rw c.in-Overflow.is c.put_overflow.ensures.refused

pub returns-in-Pairs-clause-done : goal.returns-in-Pairs-clause-done
returns-in-Pairs-clause-done g c = rw c.in-Pairs.is c.put_pairs.ensures.done

pub returns-in-Pairs-clause-refused : goal.returns-in-Pairs-clause-refused
returns-in-Pairs-clause-refused g c = rw c.in-Pairs.is c.put_pairs.ensures.refused

pub returns-in-Rows-clause-done : goal.returns-in-Rows-clause-done
returns-in-Rows-clause-done g c = rw c.in-Rows.is c.put_rows.ensures.done

pub returns-in-Rows-clause-refused : goal.returns-in-Rows-clause-refused
returns-in-Rows-clause-refused g c = rw c.in-Rows.is c.put_rows.ensures.refused

pub returns-in-Memory-clause-done : goal.returns-in-Memory-clause-done
returns-in-Memory-clause-done g c = rw c.in-Memory.is c.put_text.ensures.done

pub returns-in-Memory-clause-refused : goal.returns-in-Memory-clause-refused
returns-in-Memory-clause-refused g c = rw c.in-Memory.is c.put_text.ensures.refused
