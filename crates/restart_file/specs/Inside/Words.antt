-- The words of a line.
use Rattle.std.specs.Prelude.{◌≡◌, ◌<◌, ℕ, ℤ, List, Bool, length, take, drop, ◌==◌, ◌||◌}
use Rattle.mat_files.specs.Texts.{line_of}

-- a space or LF
abbrev pub ends_word : ℕ → Bool
ends_word b = (b == 32) || (b == 10)

-- the first i cells are those of the list, and the rest is the line of the others
pub record IsGuessed (zs : List ℤ) (i : ℕ) (cells : List ℤ) (rest : List ℕ) : Type 0 where
  pub front : take i cells ≡ take i zs
  pub others : i < length zs → rest ≡ line_of (drop i zs)
