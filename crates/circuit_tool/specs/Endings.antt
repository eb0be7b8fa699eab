-- The endings of the input files.
use Rattle.std.specs.Prelude.{ℕ, List, codes}
use Rattle.circuit_tool.specs.declared.ends.CirFile.{CirFile}
use Rattle.circuit_tool.specs.declared.ends.CirFile.TheVariants.{Mat, Gra}

abbrev pub ending : CirFile → List ℕ
ending Mat = codes ".mat"
ending Gra = codes ".gra"
