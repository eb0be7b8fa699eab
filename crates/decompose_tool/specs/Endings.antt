-- The endings of the files.
use Rattle.std.specs.Prelude.{ℕ, List, codes}
use Rattle.decompose_tool.specs.declared.ends.DecFile.{DecFile}
use Rattle.decompose_tool.specs.declared.ends.DecFile.TheVariants.{Gra, Hil, Zinhom, Zhom, Sol}

abbrev pub ending : DecFile → List ℕ
ending Gra = codes ".gra"
ending Hil = codes ".hil"
ending Zinhom = codes ".zinhom"
ending Zhom = codes ".zhom"
ending Sol = codes ".sol"
