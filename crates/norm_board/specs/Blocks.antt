-- Blocks of the pairs of a norm, and their irreducible sums.
use Rattle.std.specs.Prelude.{◌≡◌, ℕ, ◌+◌, ◌*◌, ◌/◌, ◌<◌, List, ℤ, length, min}
use Rattle.std.specs.List.{Contains}
use Rattle.lift_core.specs.Times.{times}
use Rattle.stage_store.specs.Stage.{StageValue}
use Rattle.stage_store.specs.Classes.{pairs_of}
use Rattle.stage_store.specs.Numbered.{IsSumNumbered}
use Rattle.norm_board.specs.declared.block.Block.{Block}

-- how many pairs the norm has, and how many blocks: each has 256 pairs, and the last one the rest
abbrev pub pair_count : StageValue → ℕ → ℕ
pair_count s e = length (pairs_of s.listed e)

abbrev pub blocks_of : ℕ → ℕ
blocks_of pairs = (pairs + 255) / 256

-- block b has the pairs numbered from 256 b on and below this number
abbrev pub block_end : StageValue → ℕ → ℕ → ℕ
block_end s e b = min (256 * b + 256) (pair_count s e)

-- one of the norm's blocks, with its own first pair and number of pairs
pub record IsBlockOf (s : StageValue) (e : ℕ) (b : Block) : Type 0 where
  pub inside : b.number < blocks_of (pair_count s e)
  pub first : b.first ≡ 256 * b.number
  pub end : b.first + b.count ≡ block_end s e b.number

-- a vector is among the rows exactly where it is the irreducible sum of a pair in one of the blocks
pub record Sums (s : StageValue) (e : ℕ) (blocks : List ℕ) (rows : List (List ℤ)) : Type 0 where
  pub sound : (z : List ℤ) → Contains rows z
      → (b : ℕ) × (0 < times b blocks) × IsSumNumbered s e (256 * b) (block_end s e b) z
  pub whole : (b : ℕ) (z : List ℤ) → 0 < times b blocks
      → IsSumNumbered s e (256 * b) (block_end s e b) z → Contains rows z
