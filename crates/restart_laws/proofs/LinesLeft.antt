-- The lines that are left from a cursor on, where the file is accepted in the end: each line that is right adds itself
-- before those that are left behind it.
use Rattle.std.proofs.Common.{◌≡◌, ◌<◌, ◌≤◌, ◌+◌, ◌-◌, ◌⊎◌, inl, inr, ℕ, zero, suc, List, [], ◌∷◌, ◌++◌, length, drop, get_or, Bool, true, false, refl, sym, ap, ap₂, subst, ◌∙◌, arith, append_assoc, length-append}
use Rattle.std.specs.Prelude.{ℤ, map, codes, nat_le, if◌then◌else◌}
use Rattle.std.proofs.lemmas.Bool.{cases_lt, leb-true}
use Rattle.std.proofs.lemmas.List.{append-nil, drop_all, drop_more}
use Rattle.std.proofs.Math.ListN.{get_or-eq_default}
use Rattle.mat_files.specs.Texts.{line_of}
use Rattle.lift_core.specs.Systems.{ToolSystem}
use Rattle.restart_file.specs.declared.lines.Version.{Version}
use Rattle.restart_file.specs.declared.lines.Version.TheVariants.{First, Second}
use Rattle.restart_file.specs.declared.dues.Due.{Due}
use Rattle.restart_file.specs.declared.dues.Due.TheVariants.{FirstLine, SystemLine, PlaceLine, UsedLine, ListedLine, ListedRow, ClassesLine, WaitingLine, WaitingRow, LastLine}
use Rattle.restart_file.specs.Texts.{Progress, class_counts, class_lines, counts_line, system_lines, version_line}
use Rattle.restart_file.specs.Reading.{Cursor, Follows, IsFor, IsLine, at, is_place_line, listed_due, system_due, waiting_due, with_listed, with_place, with_used, with_waiting}

-- ---- the lines
abbrev with_listed_rows : List (List ℤ) → Progress → Progress
with_listed_rows zs q = record { number = q.number; norm = q.norm; used = q.used; listed = q.listed ++ zs; waiting = q.waiting }

abbrev with_waiting_rows : List (List ℤ) → Progress → Progress
with_waiting_rows ws q = record { number = q.number; norm = q.norm; used = q.used; listed = q.listed; waiting = q.waiting ++ ws }

abbrev waiting_part : List (List ℤ) → List (List ℕ)
waiting_part ws = counts_line (codes "waiting ") (length ws ∷ []) ∷ map line_of ws

-- with all listed rows
abbrev listed_part : Version → List (List ℤ) → List (List ℤ) → List (List ℤ) → List (List ℕ)
listed_part v rows zs ws = map line_of zs ++ (class_lines v rows ++ waiting_part ws)

abbrev count_part : Version → Progress → List (List ℤ) → List (List ℤ) → List (List ℕ)
count_part v q zs ws = counts_line (codes "listed ") (length zs ∷ []) ∷ listed_part v (q.listed ++ zs) zs ws

-- from the place on
pub record IsPlaced (v : Version) (q p : Progress) (lines : List (List ℕ)) : Type 0 where
  pub number : ℕ
  pub norm : ℕ
  pub used : ℕ
  pub listed : List (List ℤ)
  pub waiting : List (List ℤ)
  pub is : p ≡ with_waiting_rows waiting (with_listed_rows listed (with_used used (with_place number norm q)))
  pub written : lines ≡ is_place_line number norm ∷ counts_line (codes "used ") (used ∷ []) ∷ count_part v q listed waiting

-- the rows, and what stands behind them
pub record IsWaiting (n : ℕ) (q p : Progress) (lines : List (List ℕ)) : Type 0 where
  pub waiting : List (List ℤ)
  pub count : length waiting ≡ n
  pub is : p ≡ with_waiting_rows waiting q
  pub written : lines ≡ map line_of waiting

pub record LeavesListed (v : Version) (n : ℕ) (q p : Progress) (lines : List (List ℕ)) : Type 0 where
  pub listed : List (List ℤ)
  pub waiting : List (List ℤ)
  pub count : length listed ≡ n
  pub is : p ≡ with_waiting_rows waiting (with_listed_rows listed q)
  pub written : lines ≡ listed_part v (q.listed ++ listed) listed waiting

-- what was read is q, what is read in the end is p, and these lines are left
abbrev pub IsTail : ToolSystem → Version → Due → Progress → Progress → List (List ℕ) → Type 0
IsTail S v FirstLine q p lines =
    (u : Version) × (more : List (List ℕ)) × IsFor S u × IsPlaced u q p more × (lines ≡ version_line u ∷ (system_lines u S ++ more))
IsTail S v (SystemLine i) q p lines = (more : List (List ℕ)) × IsPlaced v q p more × (lines ≡ drop i (system_lines v S) ++ more)
IsTail S v PlaceLine q p lines = IsPlaced v q p lines
IsTail S v UsedLine q p lines =
    (u : ℕ) × (zs : List (List ℤ)) × (ws : List (List ℤ)) × (p ≡ with_waiting_rows ws (with_listed_rows zs (with_used u q)))
    × (lines ≡ counts_line (codes "used ") (u ∷ []) ∷ count_part v q zs ws)
IsTail S v ListedLine q p lines =
    (zs : List (List ℤ)) × (ws : List (List ℤ)) × (p ≡ with_waiting_rows ws (with_listed_rows zs q)) × (lines ≡ count_part v q zs ws)
IsTail S v (ListedRow left) q p lines = LeavesListed v (suc (left - 1)) q p lines
IsTail S v ClassesLine q p lines =
    (ws : List (List ℤ)) × (p ≡ with_waiting_rows ws q) × (lines ≡ counts_line (codes "classes ") (class_counts q.listed) ∷ waiting_part ws)
IsTail S v WaitingLine q p lines = (ws : List (List ℤ)) × (p ≡ with_waiting_rows ws q) × (lines ≡ waiting_part ws)
IsTail S v (WaitingRow left) q p lines = IsWaiting (suc (left - 1)) q p lines
IsTail S v LastLine q p lines = (p ≡ q) × (lines ≡ [])

-- ---- a line more
both : (a b : List ℕ) (xs ys : List (List ℕ)) → a ≡ b → xs ≡ ys → (a ∷ xs) ≡ (b ∷ ys)
both a b xs ys e f = ap₂ (λ x zs. x ∷ zs) e f

same_count : (n : ℕ) → suc (suc n - 1) ≡ suc n
same_count n = omega arith

none_listed : (q : Progress) → with_listed_rows [] q ≡ q
none_listed q = ap (λ zs. record { number = q.number; norm = q.norm; used = q.used; listed = zs; waiting = q.waiting }) (append-nil q.listed)

none_waiting : (q : Progress) → with_waiting_rows [] q ≡ q
none_waiting q = ap (λ ws. record { number = q.number; norm = q.norm; used = q.used; listed = q.listed; waiting = ws }) (append-nil q.waiting)

module _ (S : ToolSystem) (v : Version) (q p : Progress) (lines : List (List ℕ)) where
  -- so many waiting rows are left
  waiting_left : (n : ℕ) → IsTail S v (waiting_due n) q p lines → IsWaiting n q p lines
  waiting_left zero t = record { waiting = []; count = refl; is = t.0 ∙ sym (none_waiting q); written = t.1 }
  waiting_left (suc n) t = subst (λ k. IsWaiting k q p lines) (same_count n) t

  -- so many listed rows are left
  listed_left : (u : Version) (n : ℕ) → IsTail S u (listed_due u n) q p lines → LeavesListed u n q p lines
  listed_left First zero t = record {
    listed = [];
    waiting = t.0;
    count = refl;
    is = t.1 ∙ ap (with_waiting_rows t.0) (sym (none_listed q));
    written = t.2;
  }
  listed_left Second zero t = record {
    listed = [];
    waiting = t.0;
    count = refl;
    is = t.1 ∙ ap (with_waiting_rows t.0) (sym (none_listed q));
    written = t.2 ∙ ap (λ zs. counts_line (codes "classes ") (class_counts zs) ∷ waiting_part t.0) (sym (append-nil q.listed));
  }
  listed_left First (suc n) t = subst (λ k. LeavesListed First k q p lines) (same_count n) t
  listed_left Second (suc n) t = subst (λ k. LeavesListed Second k q p lines) (same_count n) t

  -- the place stands behind the last line of the system
  system_left : (i : ℕ) (b : Bool)
      → nat_le (length (system_lines v S)) i ≡ b
      → IsTail S v (if b then PlaceLine else SystemLine i) q p lines
      → (more : List (List ℕ)) × IsPlaced v q p more × (lines ≡ drop i (system_lines v S) ++ more)
  system_left i true e t = (lines, t, ap (λ ls. ls ++ lines) (sym (drop_all i (system_lines v S) (leb-true (length (system_lines v S)) i e))))
  system_left i false e t = t

-- a row more
waiting_more : (left : ℕ) (q p : Progress) (line : List ℕ) (lines : List (List ℕ)) (z : List ℤ)
    → line ≡ line_of z → IsWaiting (left - 1) (with_waiting z q) p lines → IsWaiting (suc (left - 1)) q p (line ∷ lines)
waiting_more left q p line lines z e t = record {
  waiting = z ∷ t.waiting;
  count = ap suc t.count;
  is =
      t.is
      ∙ ap (λ ws. record { number = q.number; norm = q.norm; used = q.used; listed = q.listed; waiting = ws })
      (append_assoc q.waiting (z ∷ []) t.waiting);
  written = both line (line_of z) lines (map line_of t.waiting) e t.written;
}

listed_more : (v : Version) (left : ℕ) (q p : Progress) (line : List ℕ) (lines : List (List ℕ)) (z : List ℤ)
    → line ≡ line_of z → LeavesListed v (left - 1) (with_listed z q) p lines → LeavesListed v (suc (left - 1)) q p (line ∷ lines)
listed_more v left q p line lines z e t =
    let rows : (q.listed ++ z ∷ []) ++ t.listed ≡ q.listed ++ z ∷ t.listed = append_assoc q.listed (z ∷ []) t.listed in
    record {
      listed = z ∷ t.listed;
      waiting = t.waiting;
      count = ap suc t.count;
      is = t.is ∙ ap (λ zs. record { number = q.number; norm = q.norm; used = q.used; listed = zs; waiting = q.waiting ++ t.waiting }) rows;
      written = both line (line_of z) lines (listed_part v (q.listed ++ z ∷ t.listed) t.listed t.waiting) e
          (t.written ∙ ap (λ zs. listed_part v zs t.listed t.waiting) rows);
    }

-- a line of the system more
inside : (line : List ℕ) (all : List (List ℕ)) (i : ℕ)
    → IsLine line → line ≡ get_or all i [] → (i < length all) ⊎ (length all ≤ i) → i < length all
inside line all i h e (inl l) = l
inside line all i h e (inr g) =
    absurd (omega (arith, ap length (sym h.ended ∙ e ∙ get_or-eq_default all [] g), length-append h.text (10 ∷ [])))

system_more : (line : List ℕ) (all lines more : List (List ℕ)) (i : ℕ)
    → i < length all → line ≡ get_or all i [] → lines ≡ drop (i + 1) all ++ more → (line ∷ lines) ≡ drop i all ++ more
system_more line all lines more i l e f =
    both line (get_or all i []) lines (drop (i + 1) all ++ more) e f ∙ ap (λ ls. ls ++ more) (sym (drop_more all i [] l))

module _ (S : ToolSystem) (v : Version) (q p : Progress) (line : List ℕ) (next : Cursor) (lines : List (List ℕ))
    (ended : IsLine line) (t : IsTail S next.version next.due next.so_far p lines) where
  is_at : (c : Cursor) → next ≡ c → IsTail S c.version c.due c.so_far p lines
  is_at c e = subst (λ (c : Cursor). IsTail S c.version c.due c.so_far p lines) e t

  pub line_more : (due : Due) → Follows S v due q line next → IsTail S v due q p (line ∷ lines)
  line_more FirstLine f =
      let s : IsTail S f.0 (SystemLine 0) q p lines = is_at (at f.0 (SystemLine 0) q) f.3 in
      (f.0, s.0, f.2, s.1, both line (version_line f.0) lines (system_lines f.0 S ++ s.0) f.1 s.2)
  line_more (SystemLine i) f =
      let s : (more : List (List ℕ)) × IsPlaced v q p more × (lines ≡ drop (i + 1) (system_lines v S) ++ more) =
      system_left S v q p lines (i + 1) (nat_le (length (system_lines v S)) (i + 1)) refl (is_at (at v (system_due v S (i + 1)) q) f.1)
      in
      let l : i < length (system_lines v S) = inside line (system_lines v S) i ended f.0 (cases_lt i (length (system_lines v S))) in
      (s.0, s.1, system_more line (system_lines v S) lines s.0 i l f.0 s.2)
  line_more PlaceLine f =
      let s : IsTail S v UsedLine (with_place f.0 f.1 q) p lines = is_at (at v UsedLine (with_place f.0 f.1 q)) f.4 in
      record {
        number = f.0;
        norm = f.1;
        used = s.0;
        listed = s.1;
        waiting = s.2;
        is = s.3;
        written = both line (is_place_line f.0 f.1) lines (counts_line (codes "used ") (s.0 ∷ []) ∷ count_part v q s.1 s.2) f.3 s.4;
      }
  line_more UsedLine f =
      let s : IsTail S v ListedLine (with_used f.0 q) p lines = is_at (at v ListedLine (with_used f.0 q)) f.2 in
      (f.0, s.0, s.1, s.2, both line (counts_line (codes "used ") (f.0 ∷ [])) lines (count_part v q s.0 s.1) f.1.written s.3)
  line_more ListedLine f =
      let s : LeavesListed v f.0 q p lines = listed_left S v q p lines v f.0 (is_at (at v (listed_due v f.0) q) f.2) in
      let counted : List ℕ = counts_line (codes "listed ") (length s.listed ∷ []) in
      let e : line ≡ counted = f.1.written ∙ ap (λ n. counts_line (codes "listed ") (n ∷ [])) (sym s.count) in
      (s.listed, s.waiting, s.is, both line counted lines (listed_part v (q.listed ++ s.listed) s.listed s.waiting) e s.written)
  line_more (ListedRow left) f =
      listed_more v left q p line lines f.0 f.1.written
      (listed_left S v (with_listed f.0 q) p lines v (left - 1) (is_at (at v (listed_due v (left - 1)) (with_listed f.0 q)) f.4))
  line_more ClassesLine f =
      let s : IsTail S v WaitingLine q p lines = is_at (at v WaitingLine q) f.1 in
      (s.0, s.1, both line (counts_line (codes "classes ") (class_counts q.listed)) lines (waiting_part s.0) f.0.written s.2)
  line_more WaitingLine f =
      let s : IsWaiting f.0 q p lines = waiting_left S v q p lines f.0 (is_at (at v (waiting_due f.0) q) f.2) in
      let counted : List ℕ = counts_line (codes "waiting ") (length s.waiting ∷ []) in
      let e : line ≡ counted = f.1.written ∙ ap (λ n. counts_line (codes "waiting ") (n ∷ [])) (sym s.count) in
      (s.waiting, s.is, both line counted lines (map line_of s.waiting) e s.written)
  line_more (WaitingRow left) f =
      waiting_more left q p line lines f.0 f.1.written
      (waiting_left S v (with_waiting f.0 q) p lines (left - 1) (is_at (at v (waiting_due (left - 1)) (with_waiting f.0 q)) f.4))
  line_more LastLine f = absurd f
