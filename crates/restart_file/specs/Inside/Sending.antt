-- A file that is begun and written piece by piece, each piece hashed as it is sent.
use Rattle.std.specs.Prelude.{◌≡◌, ℕ, List, ◌++◌, Option}
use Rattle.std.specs.Option.{option_map}
use Rattle.sha2.specs.declared.Sha256.{Sha256}
use Rattle.sha2.specs.Hashers.{Holds256}
use Rattle.outside.specs.Files.{Files, written}

-- the file has a front of the bytes, the hasher holds it, and the rest of them is to come
pub record IsSent (name bytes rest : List ℕ) (old new : Option Files) (hasher : Sha256)
    : Type 0 where
  pub front : List ℕ
  pub held : new ≡ option_map (written name front) old
  pub hashed : Holds256 hasher front
  pub whole : front ++ rest ≡ bytes
