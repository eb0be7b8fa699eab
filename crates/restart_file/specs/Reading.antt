-- The reading of a restart file, line by line: what stands in it, or its first fault.
use Rattle.std.specs.Prelude.{◌≡◌, ◌≢◌, ◌≤◌, ◌<◌, ◌+◌, ◌-◌, ◌^◌, ◌⊎◌, ℕ, zero, suc, List, [], ◌∷◌, ◌++◌, ℤ, Option, None, Some, Result, Ok, Err, ⊤, length, take, codes, nat_le, if◌then◌else◌, slice_index_or}
use Rattle.std.specs.List.{AllByRecursion}
use Rattle.std.specs.List.Sorted.{IsStrictlySortedBy}
use Rattle.int_vector.specs.Range.{InRange}
use Rattle.int_vector.specs.Vectors.{largest}
use Rattle.mat_files.specs.Texts.{line_of}
use Rattle.lift_core.specs.Systems.{ToolSystem}
use Rattle.lift_core.specs.ToolSystems.{width}
use Rattle.lift_core.specs.Stages.{norm_cmp, pairs_within, stage_norm}
use Rattle.stage_store.specs.Stage.{IsStageRow}
use Rattle.restart_file.specs.declared.lines.Version.{Version}
use Rattle.restart_file.specs.declared.lines.Version.TheVariants.{First, Second}
use Rattle.restart_file.specs.declared.dues.Due.{Due}
use Rattle.restart_file.specs.declared.dues.Due.TheVariants.{FirstLine, SystemLine, PlaceLine, UsedLine, ListedLine, ListedRow, ClassesLine, WaitingLine, WaitingRow, LastLine}
use Rattle.restart_file.specs.declared.ends.RestartFault.{RestartFault}
use Rattle.restart_file.specs.declared.ends.RestartFault.TheVariants.{Missing, Digest, Text, OtherSystem, NotSolution, Order, Classes, Used}
use Rattle.restart_file.specs.Texts.{Progress, class_counts, counts_line, sealed, system_lines, version_line}

-- ---- lines
-- the last line has the digest of all bytes before it, and the file is short enough for a digest
pub record IsSealed (bytes : List ℕ) : Type 0 where
  pub body : List ℕ
  pub whole : bytes ≡ sealed body
  pub short : length bytes < 2 ^ 61

-- LF stands at the end of a line alone, and it has at most 4,096 bytes
pub record IsLine (line : List ℕ) : Type 0 where
  pub text : List ℕ
  pub ended : line ≡ text ++ 10 ∷ []
  pub one : AllByRecursion (λ b. b ≢ 10) text
  pub short : length line ≤ 4096

-- the bytes do not begin with a line
abbrev pub HasNoLine : List ℕ → Type 0
HasNoLine bytes = AllByRecursion (λ b. b ≢ 10) (take 4096 bytes)

-- ---- the way through the text
-- the line that is due, and what the lines before it say; what was not read yet is 0 or empty
pub record Cursor : Type 0 where
  pub version : Version
  pub due : Due
  pub so_far : Progress

abbrev pub nothing_read : Progress
nothing_read = record { number = 0; norm = 0; used = 0; listed = []; waiting = [] }

abbrev pub start : Cursor
start = record { version = Second; due = FirstLine; so_far = nothing_read }

abbrev pub at : Version → Due → Progress → Cursor
at v due p = record { version = v; due = due; so_far = p }

-- line i of the system, numbered from 0, or the place behind the last
abbrev pub system_due : Version → ToolSystem → ℕ → Due
system_due v S i = if nat_le (length (system_lines v S)) i then PlaceLine else SystemLine i

-- so many listed rows are to come, and what stands behind them
abbrev pub listed_due : Version → ℕ → Due
listed_due First zero = WaitingLine
listed_due Second zero = ClassesLine
listed_due v (suc n) = ListedRow (suc n)

-- so many waiting rows are to come, and the last line behind them
abbrev pub waiting_due : ℕ → Due
waiting_due zero = LastLine
waiting_due (suc n) = WaitingRow (suc n)

abbrev pub with_place : ℕ → ℕ → Progress → Progress
with_place k d p =
    record { number = k; norm = d; used = p.used; listed = p.listed; waiting = p.waiting }

abbrev pub with_used : ℕ → Progress → Progress
with_used u p =
    record { number = p.number; norm = p.norm; used = u; listed = p.listed; waiting = p.waiting }

abbrev pub with_listed : List ℤ → Progress → Progress
with_listed z p = record {
  number = p.number;
  norm = p.norm;
  used = p.used;
  listed = p.listed ++ z ∷ [];
  waiting = p.waiting;
}

abbrev pub with_waiting : List ℤ → Progress → Progress
with_waiting z p = record {
  number = p.number;
  norm = p.norm;
  used = p.used;
  listed = p.listed;
  waiting = p.waiting ++ z ∷ [];
}

-- ---- what may stand in a line
-- a text of the first version has no caps, so it stands for a system without caps on the user's columns alone
abbrev pub IsFor : ToolSystem → Version → Type 0
IsFor S First = AllByRecursion (λ c. c ≡ None) (take S.n S.equations.caps)
IsFor S Second = ⊤

pub record IsStagePlace (S : ToolSystem) (k d : ℕ) : Type 0 where
  pub from : 1 ≤ k
  pub to : k ≤ length S.equations.rows
  pub positive : 1 ≤ d
  pub small : d ≤ largest

abbrev pub is_place_line : ℕ → ℕ → List ℕ
is_place_line k d = counts_line (codes "place ") (k ∷ d ∷ [])

-- the line of a word and a count that is at most `most`
pub record IsCount (word : List ℕ) (most : ℕ) (line : List ℕ) (n : ℕ) : Type 0 where
  pub within : n ≤ most
  pub written : line ≡ counts_line word (n ∷ [])

-- the line of a word and three counts that are at most `most`
pub record AreCounts (word : List ℕ) (most : ℕ) (line : List ℕ) (ns : List ℕ) : Type 0 where
  pub three : length ns ≡ 3
  pub within : AllByRecursion (λ n. n ≤ most) ns
  pub written : line ≡ counts_line word ns

-- the line of numbers in range, one for each column and one for the product
pub record IsRow (S : ToolSystem) (line : List ℕ) (z : List ℤ) : Type 0 where
  pub entries : length z ≡ width S.equations + 1
  pub range : AllByRecursion InRange z
  pub written : line ≡ line_of z

-- behind the listed rows and of a norm that is closed; behind the waiting rows and of a norm that is not
pub record IsNextListed (p : Progress) (z : List ℤ) : Type 0 where
  pub ascends : IsStrictlySortedBy norm_cmp (p.listed ++ z ∷ [])
  pub closed : stage_norm z ≤ p.norm

pub record IsNextWaiting (p : Progress) (z : List ℤ) : Type 0 where
  pub ascends : IsStrictlySortedBy norm_cmp (p.waiting ++ z ∷ [])
  pub above : p.norm < stage_norm z

-- ---- the line that is right, and the line that is not
-- the line is right, and what is due then
abbrev pub Follows : ToolSystem → Version → Due → Progress → List ℕ → Cursor → Type 0
Follows S v FirstLine p line next =
    (u : Version) × (line ≡ version_line u) × IsFor S u × (next ≡ at u (SystemLine 0) p)
Follows S v (SystemLine i) p line next =
    (line ≡ slice_index_or (system_lines v S) i []) × (next ≡ at v (system_due v S (i + 1)) p)
Follows S v PlaceLine p line next =
    (k : ℕ) × (d : ℕ) × IsStagePlace S k d × (line ≡ is_place_line k d)
    × (next ≡ at v UsedLine (with_place k d p))
Follows S v UsedLine p line next =
    (u : ℕ) × IsCount (codes "used ") (2 ^ 62) line u × (next ≡ at v ListedLine (with_used u p))
Follows S v ListedLine p line next =
    (n : ℕ) × IsCount (codes "listed ") (2 ^ 21) line n × (next ≡ at v (listed_due v n) p)
Follows S v (ListedRow left) p line next =
    (z : List ℤ) × IsRow S line z × IsStageRow S.equations p.number z × IsNextListed p z
    × (next ≡ at v (listed_due v (left - 1)) (with_listed z p))
Follows S v ClassesLine p line next =
    AreCounts (codes "classes ") (2 ^ 21) line (class_counts p.listed) × (next ≡ at v WaitingLine p)
Follows S v WaitingLine p line next =
    (n : ℕ) × IsCount (codes "waiting ") (2 ^ 21) line n × (next ≡ at v (waiting_due n) p)
Follows S v (WaitingRow left) p line next =
    (z : List ℤ) × IsRow S line z × IsStageRow S.equations p.number z × IsNextWaiting p z
    × (next ≡ at v (waiting_due (left - 1)) (with_waiting z p))
Follows S v LastLine p line next = ⊥

-- no row stands in the line, or one that is none of stage k
abbrev pub HasNoStageRow : ToolSystem → ℕ → List ℕ → ℕ → RestartFault → Type 0
HasNoStageRow S k line l f =
    ((f ≡ Text l) × ((z : List ℤ) → IsRow S line z → ⊥))
    ⊎ ((f ≡ NotSolution l) × ((z : List ℤ) × IsRow S line z × (IsStageRow S.equations k z → ⊥)))

-- no row of stage k stands in the line, or one that is out of order
abbrev pub HasRowFault : ToolSystem → ℕ → (List ℤ → Type 0) → List ℕ → ℕ → RestartFault → Type 0
HasRowFault S k IsNext line l f =
    HasNoStageRow S k line l f
    ⊎ ((f ≡ Order l)
    × ((z : List ℤ) × IsRow S line z × IsStageRow S.equations k z × (IsNext z → ⊥)))

-- line l is wrong, and this is its first fault
abbrev pub HasFault : ToolSystem → Version → Due → Progress → List ℕ → ℕ → RestartFault → Type 0
HasFault S v FirstLine p line l f =
    ((f ≡ Text l) × ((u : Version) → line ≢ version_line u))
    ⊎ ((f ≡ OtherSystem l) × ((u : Version) × (line ≡ version_line u) × (IsFor S u → ⊥)))
HasFault S v (SystemLine i) p line l f =
    (f ≡ OtherSystem l) × (line ≢ slice_index_or (system_lines v S) i [])
HasFault S v PlaceLine p line l f =
    (f ≡ Text l) × ((k d : ℕ) → IsStagePlace S k d → line ≢ is_place_line k d)
HasFault S v UsedLine p line l f =
    (f ≡ Text l) × ((u : ℕ) → IsCount (codes "used ") (2 ^ 62) line u → ⊥)
HasFault S v ListedLine p line l f =
    (f ≡ Text l) × ((n : ℕ) → IsCount (codes "listed ") (2 ^ 21) line n → ⊥)
HasFault S v (ListedRow left) p line l f = HasRowFault S p.number (IsNextListed p) line l f
HasFault S v ClassesLine p line l f =
    ((f ≡ Text l) × ((ns : List ℕ) → AreCounts (codes "classes ") (2 ^ 21) line ns → ⊥))
    ⊎ ((f ≡ Classes l)
    × ((ns : List ℕ) × AreCounts (codes "classes ") (2 ^ 21) line ns
    × (ns ≢ class_counts p.listed)))
HasFault S v WaitingLine p line l f =
    (f ≡ Text l) × ((n : ℕ) → IsCount (codes "waiting ") (2 ^ 21) line n → ⊥)
HasFault S v (WaitingRow left) p line l f = HasRowFault S p.number (IsNextWaiting p) line l f
HasFault S v LastLine p line l f = ⊥

-- ---- the whole
-- from line l on the bytes are read to the end of the text, or to its first fault
pub data ReadsToEnd (S : ToolSystem) : Cursor → ℕ → List ℕ → Result Progress RestartFault
    → Type 0 where
  reads_on :
      {c next : Cursor} {l : ℕ} {bytes line rest : List ℕ} {out : Result Progress RestartFault}
      → IsLine line
      → bytes ≡ line ++ rest
      → Follows S c.version c.due c.so_far line next
      → ReadsToEnd S next (l + 1) rest out
      → ReadsToEnd S c l bytes out
  reads_fault :
      {c : Cursor} {l : ℕ} {bytes line : List ℕ} {f : RestartFault} (rest : List ℕ)
      → IsLine line
      → bytes ≡ line ++ rest
      → HasFault S c.version c.due c.so_far line l f
      → ReadsToEnd S c l bytes (Err f)
  reads_no_line :
      {c : Cursor} {l : ℕ} {bytes : List ℕ}
      → c.due ≢ LastLine
      → HasNoLine bytes
      → ReadsToEnd S c l bytes (Err (Text l))
  -- the last line, that of the digest, has 72 bytes
  reads_more :
      {c : Cursor} {l : ℕ} {bytes : List ℕ}
      → c.due ≡ LastLine
      → length bytes ≢ 72
      → ReadsToEnd S c l bytes (Err (Text l))
  reads_too_few :
      {c : Cursor} {l : ℕ} {bytes : List ℕ}
      → c.due ≡ LastLine
      → length bytes ≡ 72
      → c.so_far.used < pairs_within c.so_far.listed c.so_far.norm
      → ReadsToEnd S c l bytes (Err Used)
  reads_end :
      {c : Cursor} {l : ℕ} {bytes : List ℕ}
      → c.due ≡ LastLine
      → length bytes ≡ 72
      → pairs_within c.so_far.listed c.so_far.norm ≤ c.so_far.used
      → ReadsToEnd S c l bytes (Ok c.so_far)

-- what stands in a restart file of the system, or its first fault: the seal comes first, then the lines
pub data IsReading (S : ToolSystem) : Option (List ℕ) → Result Progress RestartFault → Type 0 where
  reading_missing : IsReading S None (Err Missing)
  reading_unsealed : {bytes : List ℕ} → (IsSealed bytes → ⊥) → IsReading S (Some bytes) (Err Digest)
  reading_lines :
      {bytes : List ℕ} {out : Result Progress RestartFault}
      → IsSealed bytes
      → ReadsToEnd S start 1 bytes out
      → IsReading S (Some bytes) out
