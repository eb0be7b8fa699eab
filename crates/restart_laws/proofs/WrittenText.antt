-- The text of a stage is read as its progress, and nothing else is read in it.
use Rattle.std.proofs.Common.{◌≡◌, ◌<◌, ◌≤◌, ◌+◌, ◌*◌, ◌^◌, ℕ, List, [], ◌∷◌, ◌++◌, length, Some, refl, ap, ap₂, subst, ◌∙◌, arith, cond, Option, length-append}
use Rattle.std.specs.Prelude.{ℤ, map, codes, Result, Ok, Err}
use Rattle.std.specs.List.{All, AllByRecursion, concat}
use Rattle.std.proofs.lemmas.List.Elements.{recursion_from_All}
use Rattle.std.proofs.lemmas.List.Sums.{count_by-le-length}
use Rattle.std.proofs.lemmas.List.{length-map}
use Rattle.std.specs.FinMap.{get, get-insert}
use Rattle.std.proofs.lemmas.Cmp.{nat_list_cmp_total}
use Rattle.outside.proofs.FileMaps.{own_name}
use Rattle.outside.specs.Files.{Files, written}
use Rattle.int_vector.specs.Range.{InRange}
use Rattle.int_vector.specs.Vectors.{largest}
use Rattle.mat_files.specs.Texts.{line_of}
use Rattle.lift_core.specs.Systems.{ToolSystem}
use Rattle.lift_core.specs.ToolSystems.{IsToolSystem}
use Rattle.lift_core.specs.Stages.{has_negative_last, has_positive_last, pairs_within}
use Rattle.stage_store.specs.Stage.{IsStageRow, StageValue, used_of}
use Rattle.restart_file.specs.declared.lines.Version.TheVariants.{Second}
use Rattle.restart_file.specs.declared.dues.Due.{Due}
use Rattle.restart_file.specs.declared.dues.Due.TheVariants.{ClassesLine, LastLine, ListedLine, PlaceLine, SystemLine, UsedLine, WaitingLine}
use Rattle.restart_file.specs.declared.ends.RestartEnd.{RestartEnd}
use Rattle.restart_file.specs.declared.ends.RestartEnd.TheVariants.{Bad, Failed, Memory}
use Rattle.restart_file.specs.declared.ends.RestartFault.{RestartFault}
use Rattle.restart_file.specs.Texts.{Progress, class_counts, class_lines, counts_line, digest_line, has_zero_last, listed_lines, place_lines, progress_of, restart_lines, row_line, system_lines, text_of_stage, version_line, waiting_lines}
use Rattle.restart_file.specs.Reading.{Cursor, IsLine, IsStagePlace, IsReading, at, listed_due, nothing_read, reading_lines, reads_end, start, waiting_due}
use Rattle.restart_file.specs.Stored.{Restores}
use Rattle.restart_file.proofs.OneReading.{one_reading}
use Rattle.restart_file.proofs.Seals.{digest_line_length}
use Rattle.restart_laws.specs.Written.{IsReadable, IsThatStage}
use Rattle.restart_laws.proofs.WrittenLines.{counts_line_made, line_made, plain_word}
use Rattle.restart_laws.proofs.WrittenRows.{AreInRange, ReadsAll, listed_at, listed_back, row_line_made, step_back, waiting_back}
use Rattle.restart_laws.proofs.WrittenSystem.{due_before, system_back, system_made}

ranges : (rows : List (List ℤ)) → AllByRecursion (λ z. All InRange z) rows → AreInRange rows
ranges [] h = tt
ranges (z ∷ rows) h = (recursion_from_All InRange z h.0, ranges rows h.1)

-- ---- lengths
both_made : (xs ys : List (List ℕ)) → AllByRecursion IsLine xs → AllByRecursion IsLine ys
    → AllByRecursion IsLine (xs ++ ys)
both_made [] ys h k = k
both_made (x ∷ xs) ys h k = (h.0, both_made xs ys h.1 k)

rows_made : (S : ToolSystem) (k : ℕ) (rows : List (List ℤ)) → IsToolSystem S
    → AllByRecursion (IsStageRow S.equations k) rows → AreInRange rows
    → AllByRecursion IsLine (map line_of rows)
rows_made S k [] fits rows range = tt
rows_made S k (z ∷ zs) fits rows range =
    (row_line_made S z fits rows.0.entries range.0, rows_made S k zs fits rows.1 range.1)

lines_length : (lines : List (List ℕ)) → AllByRecursion IsLine lines
    → length (concat lines) ≤ 4096 * length lines
lines_length [] h = omega arith
lines_length (line ∷ lines) h =
    omega (arith, length-append line (concat lines), h.0.short, lines_length lines h.1)

classes_small : (rows : List (List ℤ)) → length rows ≤ 2 ^ 21
    → AllByRecursion (λ n. n ≤ 2 ^ 21) (class_counts rows)
classes_small rows l = (
  omega (arith, l, count_by-le-length has_positive_last rows),
  (
    omega (arith, l, count_by-le-length has_zero_last rows),
    (omega (arith, l, count_by-le-length has_negative_last rows), tt),
  ),
)

small_counts : (ns : List ℕ) → AllByRecursion (λ n. n ≤ 2 ^ 21) ns
    → AllByRecursion (λ n. n ≤ largest) ns
small_counts [] h = tt
small_counts (n ∷ ns) h = (omega (arith, h.0), small_counts ns h.1)

-- ---- the lines of a stage
abbrev lines_of : StageValue → List (List ℕ)
lines_of s = restart_lines Second s.system (progress_of s)

abbrev last_of : StageValue → List ℕ
last_of s = digest_line (concat (restart_lines Second s.system (progress_of s)))

abbrev waiting_count : StageValue → List ℕ
waiting_count s = counts_line (codes "waiting ") (length s.waiting ∷ [])

abbrev classes_count : StageValue → List ℕ
classes_count s = counts_line (codes "classes ") (class_counts s.listed)

abbrev listed_count : StageValue → List ℕ
listed_count s = counts_line (codes "listed ") (length s.listed ∷ [])

abbrev used_count : StageValue → List ℕ
used_count s = counts_line (codes "used ") (used_of s ∷ [])

abbrev place_counts : StageValue → List ℕ
place_counts s = counts_line (codes "place ") (s.number ∷ s.norm ∷ [])

-- behind the classes, the listed rows, their count
abbrev behind_listed : StageValue → List (List ℕ)
behind_listed s = class_lines Second s.listed ++ waiting_lines (progress_of s)

abbrev from_listed_count : StageValue → List (List ℕ)
from_listed_count s = listed_count s ∷ listed_lines Second (progress_of s)

abbrev listed_to : StageValue → List (List ℤ) → Progress
listed_to s rows = listed_at s.number s.norm (used_of s) rows

-- from there on, these lines and the last line are read to the progress of the stage
abbrev ReadsStage : StageValue → Cursor → List (List ℕ) → Type 0
ReadsStage s c lines = ReadsAll s.system c (concat lines ++ last_of s) (progress_of s)

module _ (s : StageValue) (h : IsReadable s) where
  fits : IsToolSystem s.system
  fits = h.stage.system_kept

  listed_range : AreInRange s.listed
  listed_range = ranges s.listed (recursion_from_All (λ z. All InRange z) s.listed h.listed_range)

  waiting_range : AreInRange s.waiting
  waiting_range =
      ranges s.waiting (recursion_from_All (λ z. All InRange z) s.waiting h.waiting_range)

  -- ---- each line is a line
  waiting_line : IsLine (waiting_count s)
  waiting_line =
      counts_line_made (codes "waiting ") (length s.waiting ∷ [])
      (plain_word (codes "waiting ") refl) (omega arith)
      (omega (arith, h.stage.waiting_length), tt) (omega arith)

  few : AllByRecursion (λ n. n ≤ 2 ^ 21) (class_counts s.listed)
  few = classes_small s.listed h.stage.listed_length

  classes_line : IsLine (classes_count s)
  classes_line =
      counts_line_made (codes "classes ") (class_counts s.listed)
      (plain_word (codes "classes ") refl) (omega arith)
      (small_counts (class_counts s.listed) few) (omega arith)

  listed_line : IsLine (listed_count s)
  listed_line =
      counts_line_made (codes "listed ") (length s.listed ∷ [])
      (plain_word (codes "listed ") refl) (omega arith)
      (omega (arith, h.stage.listed_length), tt) (omega arith)

  used_line : IsLine (used_count s)
  used_line =
      counts_line_made (codes "used ") (used_of s ∷ []) (plain_word (codes "used ") refl)
      (omega arith) (omega (arith, h.used), tt) (omega arith)

  place_line : IsLine (place_counts s)
  place_line =
      counts_line_made (codes "place ") (s.number ∷ s.norm ∷ [])
      (plain_word (codes "place ") refl) (omega arith)
      (omega (arith, h.stage.number_to, fits.most_rows), (h.stage.norm_small, tt)) (omega arith)

  first_line : IsLine (version_line Second)
  first_line = line_made (codes "restart 2") (plain_word (codes "restart 2") refl) (omega arith)

  place_made : AllByRecursion IsLine (place_lines Second (progress_of s))
  place_made =
      let waiting : AllByRecursion IsLine (waiting_lines (progress_of s)) = (
        waiting_line,
        rows_made s.system s.number s.waiting fits h.stage.waiting_rows waiting_range,
      ) in
      let listed : AllByRecursion IsLine (listed_lines Second (progress_of s)) =
      both_made (map line_of s.listed) (behind_listed s)
      (rows_made s.system s.number s.listed fits h.stage.listed_rows listed_range)
      (classes_line, waiting) in
      (place_line, (used_line, (listed_line, listed)))

  all_made : AllByRecursion IsLine (lines_of s)
  all_made = (
    first_line,
    both_made (system_lines Second s.system) (place_lines Second (progress_of s))
        (system_made s.system fits) place_made,
  )

  -- ---- the text is short enough for its digest
  place_count : length (place_lines Second (progress_of s)) ≡ 5 + length s.listed + length s.waiting
  place_count =
      omega (
        arith,
        length-append (map line_of s.listed) (behind_listed s),
        length-map s.listed line_of,
        length-map s.waiting line_of,
      )

  line_count : length (lines_of s) ≤ 2 ^ 23
  line_count =
      omega (
        arith,
        length-append (system_lines Second s.system) (place_lines Second (progress_of s)),
        length-map s.system.equations.rows row_line,
        fits.most_rows,
        place_count,
        h.stage.listed_length,
        h.stage.waiting_length,
      )

  short : length (text_of_stage s) < 2 ^ 61
  short =
      omega (
        arith,
        length-append (concat (lines_of s)) (last_of s),
        digest_line_length (concat (lines_of s)),
        lines_length (lines_of s) all_made,
        line_count,
      )

  -- ---- from the end of the text backwards
  from_last : ReadsAll s.system (at Second LastLine (progress_of s)) (last_of s) (progress_of s)
  from_last l = reads_end refl (digest_line_length (concat (lines_of s))) (omega arith)

  from_waiting_rows :
      ReadsStage s (at Second (waiting_due (length s.waiting)) (listed_to s s.listed)) (map line_of s.waiting)
  from_waiting_rows =
      waiting_back s.system s.number s.norm (used_of s) (last_of s) (progress_of s) fits
      s.listed [] s.waiting h.stage.waiting_ascending h.stage.waiting_rows h.stage.waiting_norms
      waiting_range from_last

  from_waiting : ReadsStage s (at Second WaitingLine (listed_to s s.listed))
      (waiting_lines (progress_of s))
  from_waiting =
      step_back s.system (at Second WaitingLine (listed_to s s.listed))
      (at Second (waiting_due (length s.waiting)) (listed_to s s.listed))
      (waiting_count s) (map line_of s.waiting) (last_of s) (progress_of s) waiting_line
      (length s.waiting, record { within = h.stage.waiting_length; written = refl }, refl)
      from_waiting_rows

  from_classes : ReadsStage s (at Second ClassesLine (listed_to s s.listed)) (behind_listed s)
  from_classes =
      step_back s.system (at Second ClassesLine (listed_to s s.listed))
      (at Second WaitingLine (listed_to s s.listed))
      (classes_count s) (waiting_lines (progress_of s)) (last_of s) (progress_of s) classes_line
      (record { three = refl; within = few; written = refl }, refl)
      from_waiting

  from_rows : ReadsStage s (at Second (listed_due Second (length s.listed)) (listed_to s []))
      (listed_lines Second (progress_of s))
  from_rows =
      listed_back s.system s.number s.norm (used_of s) (last_of s) (progress_of s) fits
      [] s.listed (behind_listed s) h.stage.listed_ascending h.stage.listed_rows
      h.stage.listed_norms listed_range from_classes

  from_listed : ReadsStage s (at Second ListedLine (listed_to s [])) (from_listed_count s)
  from_listed =
      step_back s.system (at Second ListedLine (listed_to s []))
      (at Second (listed_due Second (length s.listed)) (listed_to s []))
      (listed_count s) (listed_lines Second (progress_of s)) (last_of s) (progress_of s) listed_line
      (length s.listed, record { within = h.stage.listed_length; written = refl }, refl)
      from_rows

  from_used : ReadsStage s (at Second UsedLine (listed_at s.number s.norm 0 []))
      (used_count s ∷ from_listed_count s)
  from_used =
      step_back s.system (at Second UsedLine (listed_at s.number s.norm 0 []))
      (at Second ListedLine (listed_to s []))
      (used_count s) (from_listed_count s) (last_of s) (progress_of s) used_line
      (used_of s, record { within = h.used; written = refl }, refl)
      from_listed

  is_place : IsStagePlace s.system s.number s.norm
  is_place = record {
    from = omega (arith, h.stage.number_from);
    to = h.stage.number_to;
    positive = h.closed;
    small = h.stage.norm_small;
  }

  from_place : ReadsStage s (at Second PlaceLine nothing_read) (place_lines Second (progress_of s))
  from_place =
      step_back s.system (at Second PlaceLine nothing_read)
      (at Second UsedLine (listed_at s.number s.norm 0 []))
      (place_counts s) (used_count s ∷ from_listed_count s) (last_of s) (progress_of s) place_line
      (s.number, s.norm, is_place, refl, refl)
      from_used

  from_system : ReadsStage s (at Second (SystemLine 0) nothing_read)
      (system_lines Second s.system ++ place_lines Second (progress_of s))
  from_system =
      subst
      (λ (due : Due). ReadsStage s (at Second due nothing_read)
      (system_lines Second s.system ++ place_lines Second (progress_of s)))
      (due_before s.system 0 (omega arith))
      (system_back s.system nothing_read (progress_of s) (place_lines Second (progress_of s))
      (last_of s) from_place [] (system_lines Second s.system) refl (system_made s.system fits))

  from_start : ReadsStage s start (lines_of s)
  from_start =
      step_back s.system start (at Second (SystemLine 0) nothing_read) (version_line Second)
      (system_lines Second s.system ++ place_lines Second (progress_of s)) (last_of s)
      (progress_of s) first_line (Second, refl, tt, refl) from_system

  is_read : IsReading s.system (Some (text_of_stage s)) (Ok (progress_of s))
  is_read =
      reading_lines (record { body = concat (lines_of s); whole = refl; short = short })
      (from_start 1)

pub written_read : (s : StageValue) → IsReadable s
    → IsReading s.system (Some (text_of_stage s)) (Ok (progress_of s))
written_read s h = is_read s h

-- ---- no other stage
-- what was read, and q for a fault
abbrev progress_or : Progress → Result Progress RestartFault → Progress
progress_or q (Ok p) = p
progress_or q (Err f) = q

abbrev stage_made : ToolSystem → ℕ → ℕ → ℕ → List (List ℤ) → List (List ℤ) → StageValue
stage_made S k d b listed waiting =
    record { system = S; number = k; norm = d; before = b; listed = listed; waiting = waiting }

same_stage : (t s : StageValue) → t.system ≡ s.system → progress_of t ≡ progress_of s → t ≡ s
same_stage t s e p =
    let number : t.number ≡ s.number = ap (λ (q : Progress). q.number) p in
    let norm : t.norm ≡ s.norm = ap (λ (q : Progress). q.norm) p in
    let used : used_of t ≡ used_of s = ap (λ (q : Progress). q.used) p in
    let listed : t.listed ≡ s.listed = ap (λ (q : Progress). q.listed) p in
    let waiting : t.waiting ≡ s.waiting = ap (λ (q : Progress). q.waiting) p in
    let pairs : pairs_within t.listed t.norm ≡ pairs_within s.listed s.norm =
    ap₂ (λ (rows : List (List ℤ)) (d : ℕ). pairs_within rows d) listed norm in
    let before : t.before ≡ s.before = omega (arith, used, pairs) in
    ap₂ (λ (S : ToolSystem) (k : ℕ). stage_made S k t.norm t.before t.listed t.waiting) e number
    ∙ ap₂ (λ (d b : ℕ). stage_made s.system s.number d b t.listed t.waiting) norm before
    ∙ ap₂ (λ (rows others : List (List ℤ)).
    stage_made s.system s.number s.norm s.before rows others) listed waiting

no_other : (s : StageValue) (answer : Result StageValue RestartEnd) → IsReadable s
    → Restores s.system (Some (text_of_stage s)) answer → IsThatStage s answer
no_other s (Ok t) h r =
    same_stage t s r.0
    (ap (progress_or (progress_of s))
    (one_reading s.system (Some (text_of_stage s)) (Ok (progress_of t)) (Ok (progress_of s))
    h.stage.system_kept r.1 (written_read s h)))
no_other s (Err (Bad f)) h r =
    let e : Err f ≡ Ok (progress_of s) =
    one_reading s.system (Some (text_of_stage s)) (Err f) (Ok (progress_of s))
    h.stage.system_kept r (written_read s h) in
    absurd cc
no_other s (Err Failed) h r = tt
no_other s (Err Memory) h r = tt

there : (name text : List ℕ) (files : Files) → get (written name text files) name ≡ Some text
there name text files =
    get-insert nat_list_cmp_total files name text name
    ∙ ap (λ b. cond b (Some text) (get files name)) (own_name name name refl)

pub written_same : (s : StageValue) (name : List ℕ) (files : Files)
    (answer : Result StageValue RestartEnd) → IsReadable s
    → Restores s.system (get (written name (text_of_stage s) files) name) answer
    → IsThatStage s answer
written_same s name files answer h r =
    no_other s answer h
    (subst (λ (file : Option (List ℕ)). Restores s.system file answer)
    (there name (text_of_stage s) files) r)
