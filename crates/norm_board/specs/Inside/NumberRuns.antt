-- Numbers that are kept as runs.
use Rattle.std.specs.Prelude.{ℕ, zero, suc, ◌+◌, ◌≤◌, List, [], ◌∷◌, ◌++◌}
use Rattle.norm_board.specs.declared.runs.Run.{Run}

-- n numbers from a on
abbrev pub count_up : ℕ → ℕ → List ℕ
count_up a zero = []
count_up a (suc n) = a ∷ count_up (suc a) n

-- the numbers of the runs, one run after another
abbrev pub numbers_of : List Run → List ℕ
numbers_of [] = []
numbers_of (r ∷ rs) = count_up r.first r.count ++ numbers_of rs

-- the numbers, in how many runs they are kept, and for how many runs more there is room
pub record RunsValue : Type 0 where
  pub numbers : List ℕ
  pub count : ℕ
  pub spare : ℕ

-- its numbers are below 2^63
pub record IsRun (r : Run) : Type 0 where
  pub low : r.first + r.count ≤ 9223372036854775808
