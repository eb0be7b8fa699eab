-- Each fault of a text has the words that are defined for it.
use Rattle.tool_top.proofs.messages.put_text_fault.Goals as goal

pub returns-in-NotNumber-clause-done : goal.returns-in-NotNumber-clause-done
returns-in-NotNumber-clause-done g c = rw c.in-NotNumber.is c.put_number.ensures.done

pub returns-in-NotNumber-clause-refused : goal.returns-in-NotNumber-clause-refused
returns-in-NotNumber-clause-refused g c = rw c.in-NotNumber.is c.put_number.ensures.refused

pub returns-in-NotRelation-clause-done : goal.returns-in-NotRelation-clause-done
returns-in-NotRelation-clause-done g c = rw c.in-NotRelation.is c.put_number-in-NotRelation.ensures.done

pub returns-in-NotRelation-clause-refused : goal.returns-in-NotRelation-clause-refused
returns-in-NotRelation-clause-refused g c = rw c.in-NotRelation.is c.put_number-in-NotRelation.ensures.refused

pub returns-in-OutOfRange-clause-done : goal.returns-in-OutOfRange-clause-done
returns-in-OutOfRange-clause-done g c = rw c.in-OutOfRange.is c.put_number-in-OutOfRange.ensures.done

pub returns-in-OutOfRange-clause-refused : goal.returns-in-OutOfRange-clause-refused
returns-in-OutOfRange-clause-refused g c = rw c.in-OutOfRange.is c.put_number-in-OutOfRange.ensures.refused

pub returns-in-Early-clause-done : goal.returns-in-Early-clause-done
returns-in-Early-clause-done g c = rw c.in-Early.is c.put_number-in-Early.ensures.done

pub returns-in-Early-clause-refused : goal.returns-in-Early-clause-refused
returns-in-Early-clause-refused g c = rw c.in-Early.is c.put_number-in-Early.ensures.refused

pub returns-in-Extra-clause-done : goal.returns-in-Extra-clause-done
returns-in-Extra-clause-done g c = rw c.in-Extra.is c.put_number-in-Extra.ensures.done

pub returns-in-Extra-clause-refused : goal.returns-in-Extra-clause-refused
returns-in-Extra-clause-refused g c = rw c.in-Extra.is c.put_number-in-Extra.ensures.refused

pub returns-in-TooManyRows-clause-done : goal.returns-in-TooManyRows-clause-done
returns-in-TooManyRows-clause-done g c = rw c.in-TooManyRows.is c.put_count.ensures.done

pub returns-in-TooManyRows-clause-refused : goal.returns-in-TooManyRows-clause-refused
returns-in-TooManyRows-clause-refused g c = rw c.in-TooManyRows.is c.put_count.ensures.refused

pub returns-in-TooManyCols-clause-done : goal.returns-in-TooManyCols-clause-done
returns-in-TooManyCols-clause-done g c = rw c.in-TooManyCols.is c.put_count-in-TooManyCols.ensures.done

pub returns-in-TooManyCols-clause-refused : goal.returns-in-TooManyCols-clause-refused
returns-in-TooManyCols-clause-refused g c = rw c.in-TooManyCols.is c.put_count-in-TooManyCols.ensures.refused

pub returns-in-NoCols-clause-done : goal.returns-in-NoCols-clause-done
returns-in-NoCols-clause-done g c = rw c.in-NoCols.is c.put_text.ensures.done

pub returns-in-NoCols-clause-refused : goal.returns-in-NoCols-clause-refused
returns-in-NoCols-clause-refused g c = rw c.in-NoCols.is c.put_text.ensures.refused

pub returns-in-NotCap-clause-done : goal.returns-in-NotCap-clause-done
returns-in-NotCap-clause-done g c = rw c.in-NotCap.is c.put_number-in-NotCap.ensures.done

pub returns-in-NotCap-clause-refused : goal.returns-in-NotCap-clause-refused
returns-in-NotCap-clause-refused g c = rw c.in-NotCap.is c.put_number-in-NotCap.ensures.refused
