-- Each fault of the shape has the words that are defined for it.
use Rattle.tool_top.proofs.messages.put_shape_fault.Goals as goal

pub returns-in-SignNeeded-clause-done : goal.returns-in-SignNeeded-clause-done
returns-in-SignNeeded-clause-done g c = rw c.in-SignNeeded.is c.put_text.ensures.done

pub returns-in-SignNeeded-clause-refused : goal.returns-in-SignNeeded-clause-refused
returns-in-SignNeeded-clause-refused g c = rw c.in-SignNeeded.is c.put_text.ensures.refused

pub returns-in-SignShape-clause-done : goal.returns-in-SignShape-clause-done
returns-in-SignShape-clause-done g c = rw c.in-SignShape.is c.put_shape.ensures.done

pub returns-in-SignShape-clause-refused : goal.returns-in-SignShape-clause-refused
returns-in-SignShape-clause-refused g c = rw c.in-SignShape.is c.put_shape.ensures.refused

pub returns-in-Free-clause-done : goal.returns-in-Free-clause-done
returns-in-Free-clause-done g c = rw c.in-Free.is c.put_number.ensures.done

pub returns-in-Free-clause-refused : goal.returns-in-Free-clause-refused
returns-in-Free-clause-refused g c = rw c.in-Free.is c.put_number.ensures.refused

pub returns-in-RelShape-clause-done : goal.returns-in-RelShape-clause-done
returns-in-RelShape-clause-done g c = rw c.in-RelShape.is c.put_shape-in-RelShape.ensures.done

pub returns-in-RelShape-clause-refused : goal.returns-in-RelShape-clause-refused
returns-in-RelShape-clause-refused g c = rw c.in-RelShape.is c.put_shape-in-RelShape.ensures.refused

pub returns-in-RhsNotHere-clause-done : goal.returns-in-RhsNotHere-clause-done
returns-in-RhsNotHere-clause-done g c = rw c.in-RhsNotHere.is c.put_text-in-RhsNotHere.ensures.done

pub returns-in-RhsNotHere-clause-refused : goal.returns-in-RhsNotHere-clause-refused
returns-in-RhsNotHere-clause-refused g c = rw c.in-RhsNotHere.is c.put_text-in-RhsNotHere.ensures.refused

pub returns-in-RhsShape-clause-done : goal.returns-in-RhsShape-clause-done
returns-in-RhsShape-clause-done g c = rw c.in-RhsShape.is c.put_shape-in-RhsShape.ensures.done

pub returns-in-RhsShape-clause-refused : goal.returns-in-RhsShape-clause-refused
returns-in-RhsShape-clause-refused g c = rw c.in-RhsShape.is c.put_shape-in-RhsShape.ensures.refused

pub returns-in-CapShape-clause-done : goal.returns-in-CapShape-clause-done
returns-in-CapShape-clause-done g c = rw c.in-CapShape.is c.put_shape-in-CapShape.ensures.done

pub returns-in-CapShape-clause-refused : goal.returns-in-CapShape-clause-refused
returns-in-CapShape-clause-refused g c = rw c.in-CapShape.is c.put_shape-in-CapShape.ensures.refused
