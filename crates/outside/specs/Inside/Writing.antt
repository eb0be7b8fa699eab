-- A file on the way from begun to written.
use Rattle.std.specs.Prelude.{◌≡◌, ℕ, List, ◌++◌, Option}
use Rattle.std.specs.Option.{option_map}
use Rattle.outside.specs.Files.{Files, written}

-- the file has a front of the text, and the rest of it is to come
pub record IsPartWritten (name text rest : List ℕ) (old new : Option Files) : Type 0 where
  pub front : List ℕ
  pub held : new ≡ option_map (written name front) old
  pub whole : front ++ rest ≡ text
