-- The endings of the input files.
use Rattle.std.specs.Prelude.{ℕ, List, codes}
use Rattle.climb_tool.specs.declared.ends.ClimbFile.{ClimbFile}
use Rattle.climb_tool.specs.declared.ends.ClimbFile.TheVariants.{Mat, Gra, Cost, Upper, Start}

abbrev pub ending : ClimbFile → List ℕ
ending Mat = codes ".mat"
ending Gra = codes ".gra"
ending Cost = codes ".cost"
ending Upper = codes ".upper"
ending Start = codes ".start"
