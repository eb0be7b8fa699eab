-- Texts that are put piece by piece.
use Rattle.std.specs.Prelude.{◌≡◌, ℕ, List, take, Option}
use Rattle.std.specs.List.{flat_map}
use Rattle.std.specs.Borrow.{Bor}
use Rattle.std.specs.Io.KnownBytes.{append_known}

-- the pieces, one after another
abbrev pub text_of_pieces : List (Bor (List ℕ)) → List ℕ
text_of_pieces pieces = flat_map (λ p. p.now) pieces

abbrev pub text_of_parts : List (List ℕ) → List ℕ
text_of_parts parts = flat_map (λ p. p) parts

-- a refused put has put a prefix of the text
abbrev pub MayPut : List ℕ → Option (List ℕ) → Option (List ℕ) → Type 0
MayPut text old new = (k : ℕ) × (new ≡ append_known old (take k text))
