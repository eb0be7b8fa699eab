-- The names of a project's restart files, as the code holds them.
use Rattle.std.specs.Prelude.{◌≡◌, ℕ, List, string_bytes}
use Rattle.tool_top.specs.declared.ends.Part.TheVariants.{Ckp0, Ckp1}
use Rattle.tool_top.specs.declared.top.RestartNames.{RestartNames}
use Rattle.tool_top.specs.Names.{file_name}

pub record AreRestartNames (project : List ℕ) (names : RestartNames) : Type 0 where
  pub first_is : string_bytes names.first ≡ file_name project Ckp0
  pub second_is : string_bytes names.second ≡ file_name project Ckp1
