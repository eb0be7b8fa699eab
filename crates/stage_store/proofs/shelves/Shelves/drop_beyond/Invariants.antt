use Rattle.std.proofs.Common.{◌≡◌, length}
use Rattle.stage_store.specs.Shelves.{Stay}
use Rattle.stage_store.proofs.shelves.Shelves.drop_beyond.Given as goal

abbrev pub invariant-loop-k : goal.invariant-loop-k
invariant-loop-k l = record {
  shelves : length l.self.shelves.items ≡ 256;
  horizon : l.self.horizon ≡ l.fn.self.horizon;
  stay : Stay l.fn.self l.self;
}
