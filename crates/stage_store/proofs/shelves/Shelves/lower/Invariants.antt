use Rattle.std.proofs.Common.{◌≡◌, length}
use Rattle.stage_store.specs.Shelves.{Stay}
use Rattle.stage_store.proofs.shelves.Shelves.lower.Given as goal

abbrev pub invariant-loop : goal.invariant-loop
invariant-loop l = record {
  shelves : length l.self.shelves.items ≡ 256;
  stay : Stay l.fn.self l.self;
}
