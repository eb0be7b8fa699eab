use Rattle.std.proofs.Common.{◌≡◌, length}
use Rattle.stage_store.specs.Reaches.{AreReaches}
use Rattle.stage_store.specs.Sieve.{HasNewReaches}
use Rattle.stage_store.proofs.sieve.Sieve.find_reaches.Given as goal

abbrev pub invariant-loop-i : goal.invariant-loop-i
invariant-loop-i l = record {
  same : HasNewReaches l.fn.self l.self;
  probe : length l.probe ≡ length l.fn.probe;
  count : length l.self.reaches.items ≡ l.i;
  reaches : AreReaches l.listed.rows l.self.reaches.items;
}
