-- The cells of the three kinds of table: numbers, relations and caps; and the tables of them that texts spell.
use Rattle.std.specs.Prelude.{ℕ, ◌==◌, nat_le, nat_abs, if◌then◌else◌, List, [], ◌∷◌, ℤ, Option, None, Some, Result, Ok, Err}
use Rattle.std.specs.Option.{option_map}
use Rattle.int_vector.specs.Vectors.{largest}
use Rattle.mat_files.specs.Words.{Word, number_value, count_value}
use Rattle.mat_files.specs.Tables.{Table, table_of}
use Rattle.mat_files.specs.declared.faults.TextFault.{TextFault}
use Rattle.mat_files.specs.declared.faults.TextFault.TheVariants.{NotNumber, NotRelation, NotCap, OutOfRange}
use Rattle.mat_files.specs.declared.relations.Rel.{Rel}
use Rattle.mat_files.specs.declared.relations.Rel.TheVariants.{Most, Least, Equal}

-- ---- numbers
-- two counts, and the numbers row by row
abbrev pub Matrix : Type 0
Matrix = Table ℤ

-- a word's number, where it is one in range
abbrev pub number_in_range : Word → Option ℤ → Result ℤ TextFault
number_in_range w None = Err (NotNumber w.at)
number_in_range w (Some z) = if nat_le (nat_abs z) largest then Ok z else Err (OutOfRange w.at)

abbrev pub number_at : Word → Result ℤ TextFault
number_at w = number_in_range w (number_value w.bytes)

-- the first fault of a text, or the matrix that stands there
abbrev pub matrix_of : ℕ → ℕ → List ℕ → Result Matrix TextFault
matrix_of max_rows max_cols text = table_of number_at max_rows max_cols text

-- ---- relations
-- two counts, and the relations row by row
abbrev pub Relations : Type 0
Relations = Table Rel

-- `<`, `>` or `=`, and nothing else
abbrev pub relation_value : List ℕ → Option Rel
relation_value [] = None
relation_value (b ∷ []) =
    if b == 60 then Some Most
    else (if b == 62 then Some Least
    else (if b == 61 then Some Equal else None))
relation_value (b ∷ c ∷ bs) = None

-- a word's relation, where it is one
abbrev pub found_relation : Word → Option Rel → Result Rel TextFault
found_relation w None = Err (NotRelation w.at)
found_relation w (Some r) = Ok r

abbrev pub relation_at : Word → Result Rel TextFault
relation_at w = found_relation w (relation_value w.bytes)

-- the first fault of a text, or the relations that stand there
abbrev pub relation_table_of : ℕ → ℕ → List ℕ → Result Relations TextFault
relation_table_of max_rows max_cols text = table_of relation_at max_rows max_cols text

-- ---- caps
-- two counts, and the caps row by row
abbrev pub CapTable : Type 0
CapTable = Table (Option ℕ)

-- `*` is no cap, and a count is the cap of that value
abbrev pub cap_value : List ℕ → Option (Option ℕ)
cap_value [] = None
cap_value (b ∷ []) = if b == 42 then Some None else option_map Some (count_value (b ∷ []))
cap_value (b ∷ c ∷ bs) = option_map Some (count_value (b ∷ c ∷ bs))

-- a word's cap, where it is one in range
abbrev pub cap_in_range : Word → Option (Option ℕ) → Result (Option ℕ) TextFault
cap_in_range w None = Err (NotCap w.at)
cap_in_range w (Some None) = Ok None
cap_in_range w (Some (Some c)) = if nat_le c largest then Ok (Some c) else Err (OutOfRange w.at)

abbrev pub cap_at : Word → Result (Option ℕ) TextFault
cap_at w = cap_in_range w (cap_value w.bytes)

-- the first fault of a text, or the caps that stand there
abbrev pub cap_table_of : ℕ → ℕ → List ℕ → Result CapTable TextFault
cap_table_of max_rows max_cols text = table_of cap_at max_rows max_cols text
