-- Signatures of rows: sets of bits, such that the signature of a row below another is part of the
-- other's.
use Rattle.std.specs.Prelude.{ℕ, suc, ◌*◌, ◌^◌, ◌%◌, List, [], ◌∷◌, ℤ, nat_abs, cond, nat_lt, take, bit_or}
use Rattle.reduce_tree.specs.Items.{item_at}
use Rattle.reduce_tree.specs.declared.signature.TheConstants.{THRESHOLDS}

-- a bit for each threshold up to the first that the size does not reach, from bit number `bit` on
abbrev pub marks_of : ℕ → List ℕ → ℕ → ℕ
marks_of bit [] size = 0
marks_of bit (t ∷ ts) size =
    cond (nat_lt size t) 0 (bit_or (2 ^ (bit % 128)) (marks_of (suc bit) ts size))

-- the marks of an entry: each item has marks for the first `levels` thresholds, and its bits follow
-- those of the item before
abbrev pub entry_marks : ℕ → ℕ → ℤ → ℕ
entry_marks levels column x =
    marks_of (item_at column x * levels) (take levels THRESHOLDS) (nat_abs x)

-- the marks of all entries, the first of which is in this column
abbrev pub signature_from : ℕ → ℕ → List ℤ → ℕ
signature_from levels column [] = 0
signature_from levels column (x ∷ row) =
    bit_or (entry_marks levels column x) (signature_from levels (suc column) row)

abbrev pub signature_of : ℕ → List ℤ → ℕ
signature_of levels row = signature_from levels 0 row
