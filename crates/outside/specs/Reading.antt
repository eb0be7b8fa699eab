-- Reading a whole file.
use Rattle.std.specs.Prelude.{◌≡◌, ◌<◌, ◌≤◌, ℕ, Bool, true, false, List, length, take, Option, None, Some, Result, Ok, Err}
use Rattle.std.specs.Global.{Vec}
use Rattle.outside.specs.Causes.{Rose}
use Rattle.outside.specs.declared.ends.ReadEnd.{ReadEnd}
use Rattle.outside.specs.declared.ends.ReadEnd.TheVariants.{Failed, TooLong, Memory}

-- the file's bytes, none where there is no such file, or its length where that is above the limit
abbrev pub ReadsFile : ℕ → Option (List ℕ) → Result (Option (Vec ℕ)) ReadEnd → Type 0
ReadsFile limit file (Ok None) = file ≡ None
ReadsFile limit file (Ok (Some v)) = (file ≡ Some v.items) × (length v.items ≤ limit)
ReadsFile limit file (Err (TooLong len)) =
    (bytes : List ℕ) × (file ≡ Some bytes) × (len ≡ length bytes) × (limit < len)
ReadsFile limit file (Err Failed) = Unit {0}
ReadsFile limit file (Err Memory) = Unit {0}

-- what was read is at most as long as the limit, and what was not is longer, also where the folder tells nothing
abbrev pub KeepsLimit : ℕ → Result (Option (Vec ℕ)) ReadEnd → Type 0
KeepsLimit limit (Ok None) = Unit {0}
KeepsLimit limit (Ok (Some v)) = length v.items ≤ limit
KeepsLimit limit (Err (TooLong len)) = limit < len
KeepsLimit limit (Err Failed) = Unit {0}
KeepsLimit limit (Err Memory) = Unit {0}

-- one more piece of the file: a front of it stays a front, and grows unless the file is read to its end
pub record ReadsMore (file old new : List ℕ) (more : Bool) : Type 0 where
  pub front : old ≡ take (length old) file → new ≡ take (length new) file
  pub grows : more ≡ true → length old < length new
  pub ends : more ≡ false → (new ≡ old) × (length file ≤ length old)

-- the count has not fallen, and `Failed` is answered only where it rose
pub record HasReadCause {T : Type 0} (before now : ℕ) (result : Result T ReadEnd) : Type 0 where
  pub later : before ≤ now
  pub failed : result ≡ Err Failed → Rose before now
