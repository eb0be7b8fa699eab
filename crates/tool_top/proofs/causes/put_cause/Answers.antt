-- What was put of each cause.
use Rattle.tool_top.proofs.causes.put_cause.Goals as goal

pub returns-in-Missing-clause-done : goal.returns-in-Missing-clause-done
returns-in-Missing-clause-done g c = rw c.in-Missing.is c.put_text.ensures.done

pub returns-in-Missing-clause-refused : goal.returns-in-Missing-clause-refused
returns-in-Missing-clause-refused g c = rw c.in-Missing.is c.put_text.ensures.refused

pub returns-in-Digest-clause-done : goal.returns-in-Digest-clause-done
returns-in-Digest-clause-done g c = rw c.in-Digest.is c.put_text-in-Digest.ensures.done

pub returns-in-Digest-clause-refused : goal.returns-in-Digest-clause-refused
returns-in-Digest-clause-refused g c = rw c.in-Digest.is c.put_text-in-Digest.ensures.refused

pub returns-in-Text-clause-done : goal.returns-in-Text-clause-done
returns-in-Text-clause-done g c = rw c.in-Text.is c.put_number.ensures.done

pub returns-in-Text-clause-refused : goal.returns-in-Text-clause-refused
returns-in-Text-clause-refused g c = rw c.in-Text.is c.put_number.ensures.refused

pub returns-in-OtherSystem-clause-done : goal.returns-in-OtherSystem-clause-done
returns-in-OtherSystem-clause-done g c = rw c.in-OtherSystem.is c.put_number-in-OtherSystem.ensures.done

pub returns-in-OtherSystem-clause-refused : goal.returns-in-OtherSystem-clause-refused
returns-in-OtherSystem-clause-refused g c = rw c.in-OtherSystem.is c.put_number-in-OtherSystem.ensures.refused

pub returns-in-NotSolution-clause-done : goal.returns-in-NotSolution-clause-done
returns-in-NotSolution-clause-done g c = rw c.in-NotSolution.is c.put_number-in-NotSolution.ensures.done

pub returns-in-NotSolution-clause-refused : goal.returns-in-NotSolution-clause-refused
returns-in-NotSolution-clause-refused g c = rw c.in-NotSolution.is c.put_number-in-NotSolution.ensures.refused

pub returns-in-Order-clause-done : goal.returns-in-Order-clause-done
returns-in-Order-clause-done g c = rw c.in-Order.is c.put_number-in-Order.ensures.done

pub returns-in-Order-clause-refused : goal.returns-in-Order-clause-refused
returns-in-Order-clause-refused g c = rw c.in-Order.is c.put_number-in-Order.ensures.refused

pub returns-in-Classes-clause-done : goal.returns-in-Classes-clause-done
returns-in-Classes-clause-done g c = rw c.in-Classes.is c.put_number-in-Classes.ensures.done

pub returns-in-Classes-clause-refused : goal.returns-in-Classes-clause-refused
returns-in-Classes-clause-refused g c = rw c.in-Classes.is c.put_number-in-Classes.ensures.refused

pub returns-in-Used-clause-done : goal.returns-in-Used-clause-done
returns-in-Used-clause-done g c = rw c.in-Used.is c.put_text-in-Used.ensures.done

pub returns-in-Used-clause-refused : goal.returns-in-Used-clause-refused
returns-in-Used-clause-refused g c = rw c.in-Used.is c.put_text-in-Used.ensures.refused
