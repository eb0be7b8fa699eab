-- No steps are left, and the path so far is a witness that one would help.
use Rattle.std.proofs.Common.{arith}
use Rattle.climb_tool.specs.Inside.Turns.{vector_of}
use Rattle.climb_tool.proofs.climbing.climb.Goals as goal

pub returns-in-Some-first_to_help : goal.returns-in-Some-first_to_help
returns-in-Some-first_to_help c = (
  c.loop-done.path,
  c.loop-done.invariant.walked,
  (vector_of c.in-Some-first_to_help.field-0, rw c.deref-2.ensures.value at c.in-Some-first_to_help.ensures.first),
  omega (arith, c.loop-done.invariant.count),
  omega (arith, c.from.ensures),
)
