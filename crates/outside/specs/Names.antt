-- The names of projects.
use Rattle.std.specs.Prelude.{ℕ, ◌==◌, ◌&&◌, not, nat_le, Bool, false, List, [], ◌∷◌, length}
use Rattle.std.specs.List.{list_all}

-- a project's name has 1 to 200 bytes, no zero byte, and no dash (45) at its front
abbrev pub is_name : List ℕ → Bool
is_name [] = false
is_name (b ∷ bs) =
    nat_le (length (b ∷ bs)) 200 && (not (b == 45) && list_all (λ x. not (x == 0)) (b ∷ bs))
