use Rattle.std.proofs.Common.{◌≡◌, length}
use Rattle.stage_store.specs.Sieve.{AreCoupledTo, IsRoom}
use Rattle.stage_store.proofs.sieve.Sieve.sift_couples.Given as goal

abbrev pub invariant-loop-i : goal.invariant-loop-i
invariant-loop-i l = record {
  reach_count : length l.self.reaches.items ≡ length l.listed.rows;
  coupled : AreCoupledTo l.system.equations l.listed.rows l.norm l.i l.self;
  room : IsRoom l.system.equations l.room;
}
