-- What next_norm answers.
use Rattle.std.specs.Prelude.{◌≡◌, ℕ, ◌+◌, ◌≤◌, ◌<◌, List, ℤ, Option, Some, None}
use Rattle.lift_core.specs.Stages.{stage_norm, IsPair, IsNextNorm, HasNoNextNorm, IsWaitingAt}
use Rattle.int_vector.specs.Vectors.{largest}
use Rattle.stage_store.specs.Stage.{StageValue}
use Rattle.stage_store.specs.declared.stage.Next.{Next}
use Rattle.stage_store.specs.declared.stage.Next.TheVariants.{Norm, Overflow}

abbrev pub IsNext : StageValue → Option Next → Type 0
IsNext s None = HasNoNextNorm s.listed s.waiting s.norm
IsNext s (Some (Norm e)) = IsNextNorm s.listed s.waiting s.norm e × (e ≤ largest)
IsNext s (Some (Overflow e)) = IsNextNorm s.listed s.waiting s.norm e × (largest < e)

-- the norms of the waiting rows
abbrev pub HasWaitingNorm : List (List ℤ) → ℕ → Type 0
HasWaitingNorm waiting n = (z : List ℤ) × IsWaitingAt waiting n z

-- the norms of the listed rows' pairs
abbrev pub HasStagePair : List (List ℤ) → ℕ → Type 0
HasStagePair listed n =
    (f : List ℤ) × (g : List ℤ) × IsPair listed f g × (stage_norm f + stage_norm g ≡ n)
