-- What is true of all that was read stays true with each line that is right.
use Rattle.std.proofs.Common.{◌≡◌, ◌<◌, ◌≤◌, ◌+◌, ◌-◌, ◌^◌, ℕ, zero, suc, List, [], ◌∷◌, ◌++◌, length, Bool, true, false, cond, refl, sym, subst, arith, length-append}
use Rattle.std.specs.Prelude.{ℤ, nat_le}
use Rattle.std.specs.List.{AllByRecursion}
use Rattle.std.specs.List.Sorted.{IsStrictlySortedBy}
use Rattle.lift_core.specs.Systems.{ToolSystem}
use Rattle.lift_core.specs.Stages.{norm_cmp, stage_norm}
use Rattle.lift_core.proofs.Composition.{each_push}
use Rattle.stage_store.specs.Stage.{IsStageRow}
use Rattle.restart_file.specs.declared.lines.Version.{Version}
use Rattle.restart_file.specs.declared.lines.Version.TheVariants.{First, Second}
use Rattle.restart_file.specs.declared.dues.Due.{Due}
use Rattle.restart_file.specs.declared.dues.Due.TheVariants.{FirstLine, SystemLine, PlaceLine, UsedLine, ListedLine, ListedRow, ClassesLine, WaitingLine, WaitingRow, LastLine}
use Rattle.restart_file.specs.Texts.{Progress, system_lines}
use Rattle.restart_file.specs.Reading.{Cursor, Follows, IsStagePlace, at, listed_due, start, waiting_due, with_listed, with_place, with_used, with_waiting}
use Rattle.restart_file.specs.Inside.Drafts.{IsDue, IsTrueSoFar, is_placed, listed_left, waiting_left}

-- ---- rows that are to come
listed_is_due : (S : ToolSystem) (v : Version) (n : ℕ) → IsDue S v (listed_due v n)
listed_is_due S First zero = tt
listed_is_due S Second zero = tt
listed_is_due S First (suc n) = omega arith
listed_is_due S Second (suc n) = omega arith

listed_is_placed : (v : Version) (n : ℕ) → is_placed (listed_due v n) ≡ true
listed_is_placed First zero = refl
listed_is_placed Second zero = refl
listed_is_placed First (suc n) = refl
listed_is_placed Second (suc n) = refl

listed_left_is : (v : Version) (n : ℕ) → listed_left (listed_due v n) ≡ n
listed_left_is First zero = refl
listed_left_is Second zero = refl
listed_left_is First (suc n) = refl
listed_left_is Second (suc n) = refl

listed_waits : (v : Version) (n : ℕ) → waiting_left (listed_due v n) ≡ 2 ^ 21
listed_waits First zero = refl
listed_waits Second zero = refl
listed_waits First (suc n) = refl
listed_waits Second (suc n) = refl

waiting_is_due : (S : ToolSystem) (v : Version) (n : ℕ) → IsDue S v (waiting_due n)
waiting_is_due S v zero = tt
waiting_is_due S v (suc n) = omega arith

waiting_is_placed : (n : ℕ) → is_placed (waiting_due n) ≡ true
waiting_is_placed zero = refl
waiting_is_placed (suc n) = refl

waiting_left_is : (n : ℕ) → waiting_left (waiting_due n) ≡ n
waiting_left_is zero = refl
waiting_left_is (suc n) = refl

waiting_lists : (n : ℕ) → listed_left (waiting_due n) ≡ 0
waiting_lists zero = refl
waiting_lists (suc n) = refl

-- ---- a line that changes nothing of what was read
moved : (S : ToolSystem) (u v : Version) (due next_due : Due) (p : Progress) → IsTrueSoFar S (at u due p) → IsDue S v next_due → (is_placed next_due ≡ true → IsStagePlace S p.number p.norm)
    → length p.listed + listed_left next_due ≤ 2 ^ 21 → length p.waiting + waiting_left next_due ≤ 2 ^ 21 → IsTrueSoFar S (at v next_due p)
moved S u v due next_due p s is place listed waiting = record {
  due = is;
  place = place;
  used = s.used;
  listed_room = listed;
  waiting_room = waiting;
  listed_rows = s.listed_rows;
  waiting_rows = s.waiting_rows;
  listed_ascending = s.listed_ascending;
  waiting_ascending = s.waiting_ascending;
  listed_norms = s.listed_norms;
  waiting_norms = s.waiting_norms;
}

no_rows : (P : List ℤ → Type 0) (rows : List (List ℤ)) → length rows + 2 ^ 21 ≤ 2 ^ 21 → AllByRecursion P rows
no_rows P [] h = tt
no_rows P (z ∷ rows) h = absurd (omega (arith, h))

some_line : (S : ToolSystem) (v : Version) → 0 < length (system_lines v S)
some_line S First = omega arith
some_line S Second = omega arith

not_le : (m n : ℕ) → nat_le m n ≡ false → n < m
not_le m n e = grind (arith, e)

system_step : (S : ToolSystem) (v : Version) (i : ℕ) (p : Progress) → IsTrueSoFar S (at v (SystemLine i) p) → (b : Bool) → nat_le (length (system_lines v S)) (i + 1) ≡ b → IsTrueSoFar S (at v (cond b PlaceLine (SystemLine (i + 1))) p)
system_step S v i p s true e = moved S v v (SystemLine i) PlaceLine p s tt (λ x. absurd cc) s.listed_room s.waiting_room
system_step S v i p s false e = moved S v v (SystemLine i) (SystemLine (i + 1)) p s (not_le (length (system_lines v S)) (i + 1) e) (λ x. absurd cc) s.listed_room s.waiting_room

place_step : (S : ToolSystem) (v : Version) (k d : ℕ) (p : Progress) → IsTrueSoFar S (at v PlaceLine p) → IsStagePlace S k d → IsTrueSoFar S (at v UsedLine (with_place k d p))
place_step S v k d p s is = record {
  due = tt;
  place = λ _. is;
  used = s.used;
  listed_room = s.listed_room;
  waiting_room = s.waiting_room;
  listed_rows = no_rows (IsStageRow S.equations k) p.listed s.listed_room;
  waiting_rows = no_rows (IsStageRow S.equations k) p.waiting s.waiting_room;
  listed_ascending = s.listed_ascending;
  waiting_ascending = s.waiting_ascending;
  listed_norms = no_rows (λ z. stage_norm z ≤ d) p.listed s.listed_room;
  waiting_norms = no_rows (λ z. d < stage_norm z) p.waiting s.waiting_room;
}

used_step : (S : ToolSystem) (v : Version) (u : ℕ) (p : Progress) → IsTrueSoFar S (at v UsedLine p) → u ≤ 2 ^ 62 → IsTrueSoFar S (at v ListedLine (with_used u p))
used_step S v u p s small = record {
  due = tt;
  place = s.place;
  used = small;
  listed_room = s.listed_room;
  waiting_room = s.waiting_room;
  listed_rows = s.listed_rows;
  waiting_rows = s.waiting_rows;
  listed_ascending = s.listed_ascending;
  waiting_ascending = s.waiting_ascending;
  listed_norms = s.listed_norms;
  waiting_norms = s.waiting_norms;
}

listed_step : (S : ToolSystem) (v : Version) (left : ℕ) (z : List ℤ) (p : Progress) → IsTrueSoFar S (at v (ListedRow left) p) → IsStageRow S.equations p.number z
    → IsStrictlySortedBy norm_cmp (p.listed ++ z ∷ []) → stage_norm z ≤ p.norm → IsTrueSoFar S (at v (listed_due v (left - 1)) (with_listed z p))
listed_step S v left z p s row ascends closed = record {
  due = listed_is_due S v (left - 1);
  place = λ _. s.place refl;
  used = s.used;
  listed_room = omega (arith, s.due, s.listed_room, listed_left_is v (left - 1), length-append p.listed (z ∷ []));
  waiting_room = omega (arith, s.waiting_room, listed_waits v (left - 1));
  listed_rows = each_push (IsStageRow S.equations p.number) p.listed z s.listed_rows row;
  waiting_rows = s.waiting_rows;
  listed_ascending = ascends;
  waiting_ascending = s.waiting_ascending;
  listed_norms = each_push (λ y. stage_norm y ≤ p.norm) p.listed z s.listed_norms closed;
  waiting_norms = s.waiting_norms;
}

waiting_step : (S : ToolSystem) (v : Version) (left : ℕ) (z : List ℤ) (p : Progress) → IsTrueSoFar S (at v (WaitingRow left) p) → IsStageRow S.equations p.number z
    → IsStrictlySortedBy norm_cmp (p.waiting ++ z ∷ []) → p.norm < stage_norm z → IsTrueSoFar S (at v (waiting_due (left - 1)) (with_waiting z p))
waiting_step S v left z p s row ascends above = record {
  due = waiting_is_due S v (left - 1);
  place = λ _. s.place refl;
  used = s.used;
  listed_room = omega (arith, s.listed_room, waiting_lists (left - 1));
  waiting_room = omega (arith, s.due, s.waiting_room, waiting_left_is (left - 1), length-append p.waiting (z ∷ []));
  listed_rows = s.listed_rows;
  waiting_rows = each_push (IsStageRow S.equations p.number) p.waiting z s.waiting_rows row;
  listed_ascending = s.listed_ascending;
  waiting_ascending = ascends;
  listed_norms = s.listed_norms;
  waiting_norms = each_push (λ y. p.norm < stage_norm y) p.waiting z s.waiting_norms above;
}

-- ---- any line
sound_then : (S : ToolSystem) (c d : Cursor) → d ≡ c → IsTrueSoFar S c → IsTrueSoFar S d
sound_then S c d e s = subst (λ x. IsTrueSoFar S x) (sym e) s

pub sound_step : (S : ToolSystem) (v : Version) (due : Due) (p : Progress) (line : List ℕ) (next : Cursor) → IsTrueSoFar S (at v due p) → Follows S v due p line next → IsTrueSoFar S next
sound_step S v FirstLine p line next s h = sound_then S _ next h.3 (moved S v h.0 FirstLine (SystemLine 0) p s (some_line S h.0) (λ x. absurd cc) s.listed_room s.waiting_room)
sound_step S v (SystemLine i) p line next s h = sound_then S _ next h.1 (system_step S v i p s (nat_le (length (system_lines v S)) (i + 1)) refl)
sound_step S v PlaceLine p line next s h = sound_then S _ next h.4 (place_step S v h.0 h.1 p s h.2)
sound_step S v UsedLine p line next s h = sound_then S _ next h.2 (used_step S v h.0 p s h.1.within)
sound_step S v ListedLine p line next s h =
    sound_then S _ next h.2
    (moved S v v ListedLine (listed_due v h.0) p s (listed_is_due S v h.0) (λ _. s.place refl) (omega (arith, s.listed_room, listed_left_is v h.0, h.1.within)) (omega (arith, s.waiting_room, listed_waits v h.0)))
sound_step S v (ListedRow left) p line next s h = sound_then S _ next h.4 (listed_step S v left h.0 p s h.2 h.3.ascends h.3.closed)
sound_step S v ClassesLine p line next s h = sound_then S _ next h.1 (moved S v v ClassesLine WaitingLine p s tt (λ _. s.place refl) s.listed_room s.waiting_room)
sound_step S v WaitingLine p line next s h =
    sound_then S _ next h.2
    (moved S v v WaitingLine (waiting_due h.0) p s (waiting_is_due S v h.0) (λ _. s.place refl) (omega (arith, s.listed_room, waiting_lists h.0)) (omega (arith, s.waiting_room, waiting_left_is h.0, h.1.within)))
sound_step S v (WaitingRow left) p line next s h = sound_then S _ next h.4 (waiting_step S v left h.0 p s h.2 h.3.ascends h.3.above)
sound_step S v LastLine p line next s f = absurd f

-- nothing is read yet
nothing_ascends : IsStrictlySortedBy norm_cmp []
unfolding IsStrictlySortedBy
nothing_ascends = tt

pub sound_start : (S : ToolSystem) → IsTrueSoFar S start
sound_start S = record {
  due = tt;
  place = λ e. absurd cc;
  used = omega arith;
  listed_room = omega arith;
  waiting_room = omega arith;
  listed_rows = tt;
  waiting_rows = tt;
  listed_ascending = nothing_ascends;
  waiting_ascending = nothing_ascends;
  listed_norms = tt;
  waiting_norms = tt;
}
