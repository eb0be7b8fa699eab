-- Each end has the words that are defined for it.
use Rattle.tool_top.proofs.messages.put_words.Goals as goal

pub returns-in-Done-clause-done : goal.returns-in-Done-clause-done
returns-in-Done-clause-done g c = rw c.in-Done.is c.put_text.ensures.done

pub returns-in-Done-clause-refused : goal.returns-in-Done-clause-refused
returns-in-Done-clause-refused g c = rw c.in-Done.is c.put_text.ensures.refused

pub returns-in-Usage-clause-done : goal.returns-in-Usage-clause-done
returns-in-Usage-clause-done g c = rw c.in-Usage.is c.put_usage.ensures.done

pub returns-in-Usage-clause-refused : goal.returns-in-Usage-clause-refused
returns-in-Usage-clause-refused g c = rw c.in-Usage.is c.put_usage.ensures.refused

pub returns-in-Missing-clause-done : goal.returns-in-Missing-clause-done
returns-in-Missing-clause-done g c = rw c.in-Missing.is c.put_about.ensures.done

pub returns-in-Missing-clause-refused : goal.returns-in-Missing-clause-refused
returns-in-Missing-clause-refused g c = rw c.in-Missing.is c.put_about.ensures.refused

pub returns-in-TooLong-clause-done : goal.returns-in-TooLong-clause-done
returns-in-TooLong-clause-done g c = rw c.in-TooLong.is c.put_about-in-TooLong.ensures.done

pub returns-in-TooLong-clause-refused : goal.returns-in-TooLong-clause-refused
returns-in-TooLong-clause-refused g c = rw c.in-TooLong.is c.put_about-in-TooLong.ensures.refused

pub returns-in-Text-clause-done : goal.returns-in-Text-clause-done
returns-in-Text-clause-done g c = rw c.in-Text.is c.put_text_line.ensures.done

pub returns-in-Text-clause-refused : goal.returns-in-Text-clause-refused
returns-in-Text-clause-refused g c = rw c.in-Text.is c.put_text_line.ensures.refused

pub returns-in-Refused-clause-done : goal.returns-in-Refused-clause-done
returns-in-Refused-clause-done g c = rw c.in-Refused.is c.put_about-in-Refused.ensures.done

pub returns-in-Refused-clause-refused : goal.returns-in-Refused-clause-refused
returns-in-Refused-clause-refused g c = rw c.in-Refused.is c.put_about-in-Refused.ensures.refused

pub returns-in-Shape-clause-done : goal.returns-in-Shape-clause-done
returns-in-Shape-clause-done g c = rw c.in-Shape.is c.put_shape_line.ensures.done

pub returns-in-Shape-clause-refused : goal.returns-in-Shape-clause-refused
returns-in-Shape-clause-refused g c = rw c.in-Shape.is c.put_shape_line.ensures.refused

pub returns-in-Overflow-clause-done : goal.returns-in-Overflow-clause-done
returns-in-Overflow-clause-done g c = rw c.in-Overflow.is c.put_overflow.ensures.done

pub returns-in-Overflow-clause-refused : goal.returns-in-Overflow-clause-refused
returns-in-Overflow-clause-refused g c = rw c.in-Overflow.is c.put_overflow.ensures.refused

pub returns-in-Pairs-clause-done : goal.returns-in-Pairs-clause-done
returns-in-Pairs-clause-done g c = rw c.in-Pairs.is c.put_pairs.ensures.done

pub returns-in-Pairs-clause-refused : goal.returns-in-Pairs-clause-refused
returns-in-Pairs-clause-refused g c = rw c.in-Pairs.is c.put_pairs.ensures.refused

pub returns-in-Rows-clause-done : goal.returns-in-Rows-clause-done
returns-in-Rows-clause-done g c = rw c.in-Rows.is c.put_rows.ensures.done

pub returns-in-Rows-clause-refused : goal.returns-in-Rows-clause-refused
returns-in-Rows-clause-refused g c = rw c.in-Rows.is c.put_rows.ensures.refused

pub returns-in-Outside-clause-done : goal.returns-in-Outside-clause-done
returns-in-Outside-clause-done g c = rw c.in-Outside.is c.put_about-in-Outside.ensures.done

pub returns-in-Outside-clause-refused : goal.returns-in-Outside-clause-refused
returns-in-Outside-clause-refused g c = rw c.in-Outside.is c.put_about-in-Outside.ensures.refused

pub returns-in-Memory-clause-done : goal.returns-in-Memory-clause-done
returns-in-Memory-clause-done g c = rw c.in-Memory.is c.put_text-in-Memory.ensures.done

pub returns-in-Memory-clause-refused : goal.returns-in-Memory-clause-refused
returns-in-Memory-clause-refused g c = rw c.in-Memory.is c.put_text-in-Memory.ensures.refused

pub returns-in-BadRestart-clause-done : goal.returns-in-BadRestart-clause-done
returns-in-BadRestart-clause-done g c = rw c.in-BadRestart.is c.put_causes.ensures.done

pub returns-in-BadRestart-clause-refused : goal.returns-in-BadRestart-clause-refused
returns-in-BadRestart-clause-refused g c = rw c.in-BadRestart.is c.put_causes.ensures.refused
