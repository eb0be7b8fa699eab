use Rattle.std.proofs.Common.{◌≡◌, ◌≤◌, ◌<◌, ℕ, length}
use Rattle.int_vector.specs.Vectors.{negated}
use Rattle.stage_store.specs.Classes.{row_at}
use Rattle.stage_store.specs.Mirror.{turned_place}
use Rattle.stage_store.proofs.mirror.are_turned.Given as goal

abbrev pub invariant-loop-k : goal.invariant-loop-k
invariant-loop-k l =
    (k : ℕ) → l.from ≤ k → k < l.k → row_at l.listed.rows (turned_place l.from (length l.listed.rows) k) ≡ negated (row_at l.listed.rows k)
