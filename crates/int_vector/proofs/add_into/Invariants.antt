-- What is written so far is the sum so far.
use Rattle.std.proofs.Common.{◌≡◌, length, take}
use Rattle.int_vector.specs.Operations.{add}
use Rattle.int_vector.proofs.add_into.Given as goal

abbrev pub invariant-loop-i : goal.invariant-loop-i
invariant-loop-i l = record {
  length : length l.out ≡ length l.u;
  sum : take l.i l.out ≡ take l.i (add l.u l.v);
}
