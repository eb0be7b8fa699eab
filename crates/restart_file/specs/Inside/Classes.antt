-- The class of a row by its last entry.
use Rattle.std.specs.Prelude.{ℕ, List, ℤ, if◌then◌else◌}
use Rattle.lift_core.specs.Stages.{has_positive_last}
use Rattle.restart_file.specs.Texts.{has_zero_last}

-- the place of the row's class among the three
abbrev pub class_of : List ℤ → ℕ
class_of z = if has_positive_last z then 0 else (if has_zero_last z then 1 else 2)
