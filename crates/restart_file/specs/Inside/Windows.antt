-- What is left of a file that is read in pieces.
use Rattle.std.specs.Prelude.{◌≡◌, ◌≢◌, ◌+◌, ◌≤◌, ◌<◌, ◌^◌, ℕ, List, [], ◌∷◌, ◌++◌, Bool, true, false, length, take, drop, Option, Some, None}
use Rattle.std.specs.List.{AllByRecursion}
use Rattle.sha2.specs.declared.Sha256.{Sha256}
use Rattle.sha2.specs.Hashers.{Holds256}
use Rattle.outside.specs.Files.{Files, bytes_of}
use Rattle.restart_file.specs.declared.windows.Window.{Window}
use Rattle.restart_file.specs.Reading.{HasNoLine, IsLine}

-- the folder tells its files, and these are the bytes of the file
pub record TellsText (held : Option Files) (name text : List ℕ) : Type 0 where
  pub files : Files
  pub told : held ≡ Some files
  pub bytes : bytes_of files name ≡ text

-- what is left of the text: the bytes that were read and not taken, and those that were not read
pub record IsTextLeft (text : List ℕ) (w : Window) (rest : List ℕ) : Type 0 where
  pub bytes : rest ≡ drop w.from (take w.filled w.storage.items) ++ drop w.at text
  pub read : w.at + w.left ≡ length text
  pub behind : w.filled ≤ w.at
  pub room : 0 < w.left → 0 < length w.storage.items
  pub short : length text < 2 ^ 64

-- the first byte that was left, or none where nothing was
abbrev pub GivesByte : List ℕ → Window → List ℕ → Option ℕ → Type 0
GivesByte text w rest None = rest ≡ []
GivesByte text w rest (Some b) = (others : List ℕ) × (rest ≡ b ∷ others) × IsTextLeft text w others

-- so many bytes were taken
pub record WereTaken (text rest : List ℕ) (w : Window) (taken : List ℕ) (i : ℕ) : Type 0 where
  pub left : IsTextLeft text w (drop i rest)
  pub taken_is : taken ≡ take i rest
  pub inside : i ≤ length rest

-- no LF is among the bytes
abbrev pub IsPlain : List ℕ → Type 0
IsPlain bytes = AllByRecursion (λ b. b ≢ 10) bytes

-- the line that was first, or none where no line was
abbrev pub GivesLine : List ℕ → Window → List ℕ → List ℕ → Bool → Type 0
GivesLine text w rest line false = HasNoLine rest
GivesLine text w rest line true =
    IsLine line × ((others : List ℕ) × (rest ≡ line ++ others) × IsTextLeft text w others)

-- so many bytes of the text were hashed
pub record IsHashed (text : List ℕ) (w : Window) (hasher : Sha256) (done : ℕ) : Type 0 where
  pub left : IsTextLeft text w (drop done text)
  pub inside : done ≤ length text
  pub hashed : Holds256 hasher (take done text)
