-- A refused writing of one output file.
use Rattle.std.proofs.Common.{ℕ, refl, List, [], ◌∷◌, Option, inl}
use Rattle.outside.specs.Files.{Files}
use Rattle.outside.specs.declared.ends.PutEnd.{PutEnd}
use Rattle.outside.specs.declared.ends.PutEnd.TheVariants.{Failed, Memory as PutMemory}
use Rattle.solution_files.specs.Outputs.{MayWrite}
use Rattle.tool_top.specs.Names.{file_name}
use Rattle.tool_top.specs.Outputs.{OutputFile}
use Rattle.tool_top.specs.Inside.Ends.{end_at}
use Rattle.tool_top.specs.Inside.Writing.{CutsTo}

-- a refused writing of one file
pub lone_cut : (project : List ℕ) (f : OutputFile) (refused : PutEnd) (old new : Option Files) → MayWrite (file_name project f.part) f.text old new
    → CutsTo project (f ∷ []) old new (end_at f.part refused)
lone_cut project f Failed old new may = inl (refl, may)
lone_cut project f PutMemory old new may = (f.part, inl (refl, may))
