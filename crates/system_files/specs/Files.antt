-- What a file says, and the answers of reading it.
use Rattle.std.specs.Prelude.{◌≡◌, ◌≤◌, ℕ, nat_lt, if◌then◌else◌, List, length, Option, None, Some, Result, Ok, Err}
use Rattle.outside.specs.Causes.{Rose}
use Rattle.mat_files.specs.Cells.{Matrix, matrix_of, Relations, relation_table_of, CapTable, cap_table_of}
use Rattle.mat_files.specs.Tables.{◌>>=◌}
use Rattle.mat_files.specs.declared.faults.TextFault.{TextFault}
use Rattle.system_files.specs.declared.faults.FileFault.{FileFault}
use Rattle.system_files.specs.declared.faults.FileFault.TheVariants.{Missing, TooLong, Text}
use Rattle.system_files.specs.declared.faults.FileEnd.{FileEnd}
use Rattle.system_files.specs.declared.faults.FileEnd.TheVariants.{Bad, Failed, Memory}

-- the bytes of a file of at most so many, none where it is not there
abbrev pub text_in : ℕ → Option (List ℕ) → Result (Option (List ℕ)) FileFault
text_in limit None = Ok None
text_in limit (Some text) =
    if nat_lt limit (length text) then Err (TooLong (length text)) else Ok (Some text)

-- what a text says, or its first fault
abbrev pub said : {C : Type 0} → Result C TextFault → Result C FileFault
said (Ok x) = Ok x
said (Err fault) = Err (Text fault)

-- what the text says by this reading, where there is one
abbrev pub spelled : {C : Type 0} → (List ℕ → Result C TextFault) → Option (List ℕ)
    → Result (Option C) FileFault
spelled read None = Ok None
spelled read (Some text) = said (read text) >>= (λ x. Ok (Some x))

-- what has to be there
abbrev pub needed : {C : Type 0} → Option C → Result C FileFault
needed None = Err Missing
needed (Some x) = Ok x

-- the matrix in a file of at most so many bytes, rows and columns, none where it is not there
abbrev pub optional_grid_in : ℕ → ℕ → ℕ → Option (List ℕ) → Result (Option Matrix) FileFault
optional_grid_in limit rows cols file = text_in limit file >>= spelled (matrix_of rows cols)

-- and the relations
abbrev pub optional_relations_in : ℕ → ℕ → ℕ → Option (List ℕ) → Result (Option Relations) FileFault
optional_relations_in limit rows cols file =
    text_in limit file >>= spelled (relation_table_of rows cols)

-- and the caps
abbrev pub optional_caps_in : ℕ → ℕ → ℕ → Option (List ℕ) → Result (Option CapTable) FileFault
optional_caps_in limit rows cols file = text_in limit file >>= spelled (cap_table_of rows cols)

-- the matrix in a file that has to be there
abbrev pub grid_in : ℕ → ℕ → ℕ → Option (List ℕ) → Result Matrix FileFault
grid_in limit rows cols file = optional_grid_in limit rows cols file >>= needed

-- ---- answers
-- the answer, seen by view, is what the file says; a failure and running out of memory come by themselves
abbrev pub ReadsBy : {X A : Type 0} → (X → A) → Result X FileEnd → Result A FileFault → Type 0
ReadsBy view (Ok x) expected = expected ≡ Ok (view x)
ReadsBy view (Err (Bad fault)) expected = expected ≡ Err fault
ReadsBy view (Err Failed) expected = Unit {0}
ReadsBy view (Err Memory) expected = Unit {0}

abbrev pub Reads : {A : Type 0} → Result A FileEnd → Result A FileFault → Type 0
Reads result expected = ReadsBy (λ x. x) result expected

-- the count has not fallen, and `Failed` is answered only where it rose
pub record HasFileCause {T : Type 0} (before now : ℕ) (result : Result T FileEnd) : Type 0 where
  pub later : before ≤ now
  pub failed : result ≡ Err Failed → Rose before now
