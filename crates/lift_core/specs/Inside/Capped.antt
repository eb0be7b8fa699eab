-- Which columns have a cap.
use Rattle.std.specs.Prelude.{ℕ, ◌+◌, List, [], ◌∷◌, Option, Some, None}

-- the places of the caps, where the first has place k
abbrev pub capped_from : ℕ → List (Option ℕ) → List ℕ
capped_from k [] = []
capped_from k (None ∷ caps) = capped_from (k + 1) caps
capped_from k (Some c ∷ caps) = k ∷ capped_from (k + 1) caps
