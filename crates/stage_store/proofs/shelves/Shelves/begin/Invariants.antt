use Rattle.std.proofs.Common.{◌≡◌, length}
use Rattle.stage_store.proofs.shelves.Shelves.begin.Given as goal

abbrev pub invariant-loop-k : goal.invariant-loop-k
invariant-loop-k l = record {
  shelves : length l.self.shelves.items ≡ 256;
  closed : l.self.closed ≡ l.closed;
}
