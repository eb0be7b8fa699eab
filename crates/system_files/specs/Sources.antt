-- The names of a project's input files.
use Rattle.std.specs.Prelude.{ℕ, List, ◌++◌, codes}
use Rattle.system_files.specs.declared.sources.Source.{Source}
use Rattle.system_files.specs.declared.sources.Source.TheVariants.{Mat, Sign, Rel, Rhs, Cap, Lat, Lb, Ub}

abbrev pub ending : Source → List ℕ
ending Mat = codes ".mat"
ending Sign = codes ".sign"
ending Rel = codes ".rel"
ending Rhs = codes ".rhs"
ending Cap = codes ".cap"
ending Lat = codes ".lat"
ending Lb = codes ".lb"
ending Ub = codes ".ub"

-- the project, followed by the ending
abbrev pub file_name : List ℕ → Source → List ℕ
file_name project source = project ++ ending source
