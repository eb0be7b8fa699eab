-- Each tool has its own usage.
use Rattle.tool_top.proofs.messages.put_usage.Goals as goal

pub returns-in-Graver-clause-done : goal.returns-in-Graver-clause-done
returns-in-Graver-clause-done g c = rw c.in-Graver.is c.put_two.ensures.done

pub returns-in-Graver-clause-refused : goal.returns-in-Graver-clause-refused
returns-in-Graver-clause-refused g c = rw c.in-Graver.is c.put_two.ensures.refused

pub returns-in-Hilbert-clause-done : goal.returns-in-Hilbert-clause-done
returns-in-Hilbert-clause-done g c = rw c.in-Hilbert.is c.put_text.ensures.done

pub returns-in-Hilbert-clause-refused : goal.returns-in-Hilbert-clause-refused
returns-in-Hilbert-clause-refused g c = rw c.in-Hilbert.is c.put_text.ensures.refused

pub returns-in-Zsolve-clause-done : goal.returns-in-Zsolve-clause-done
returns-in-Zsolve-clause-done g c = rw c.in-Zsolve.is c.put_text-in-Zsolve.ensures.done

pub returns-in-Zsolve-clause-refused : goal.returns-in-Zsolve-clause-refused
returns-in-Zsolve-clause-refused g c = rw c.in-Zsolve.is c.put_text-in-Zsolve.ensures.refused
