-- The names of a project's files.
use Rattle.std.specs.Prelude.{ℕ, List, [], ◌++◌, codes}
use Rattle.tool_top.specs.declared.ends.Part.{Part}
use Rattle.tool_top.specs.declared.ends.Part.TheVariants.{Mat, Sign, Rel, Rhs, Cap, Lat, Lb, Ub, Ckp0, Ckp1, Gra, Hil, Zhom, Zinhom, Out}

abbrev pub ending : Part → List ℕ
ending Mat = codes ".mat"
ending Sign = codes ".sign"
ending Rel = codes ".rel"
ending Rhs = codes ".rhs"
ending Cap = codes ".cap"
ending Lat = codes ".lat"
ending Lb = codes ".lb"
ending Ub = codes ".ub"
ending Ckp0 = codes ".ckp0"
ending Ckp1 = codes ".ckp1"
ending Gra = codes ".gra"
ending Hil = codes ".hil"
ending Zhom = codes ".zhom"
ending Zinhom = codes ".zinhom"
ending Out = []

-- the name of a project's file
abbrev pub file_name : List ℕ → Part → List ℕ
file_name project part = project ++ ending part
