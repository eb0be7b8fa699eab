-- A file has one reading: a line says one thing, and is right or has one first fault.
use Rattle.std.proofs.Common.{◌≡◌, ◌≢◌, ◌<◌, ◌≤◌, ◌+◌, ◌-◌, ◌^◌, ◌⊎◌, inl, inr, ℕ, zero, suc, List, [], ◌∷◌, ◌++◌, length, take, drop, get_or, Option, Some, None, Bool, true, false, refl, sym, ap, ap₂, subst, ◌∙◌, arith, append_assoc}
use Rattle.std.specs.Prelude.{ℤ, pos, Result, Ok, Err, map, codes}
use Rattle.std.specs.Fmt.{signed_decimal}
use Rattle.std.specs.List.{AllByRecursion}
use Rattle.std.proofs.lemmas.Fmt.{signed_decimal_injective}
use Rattle.std.proofs.lemmas.List.{append_cancel_left, length-map}
use Rattle.int_vector.specs.Range.{InRange}
use Rattle.int_vector.specs.Vectors.{largest}
use Rattle.mat_files.specs.Texts.{line_of}
use Rattle.mat_files.proofs.PrintedNumbers.{word-signed_decimal}
use Rattle.lift_core.specs.Systems.{ToolSystem}
use Rattle.lift_core.specs.ToolSystems.{IsToolSystem, width}
use Rattle.stage_store.specs.Stage.{IsStageRow}
use Rattle.restart_file.specs.declared.lines.Version.{Version}
use Rattle.restart_file.specs.declared.lines.Version.TheVariants.{First, Second}
use Rattle.restart_file.specs.declared.dues.Due.{Due}
use Rattle.restart_file.specs.declared.dues.Due.TheVariants.{FirstLine, SystemLine, PlaceLine, UsedLine, ListedLine, ListedRow, ClassesLine, WaitingLine, WaitingRow, LastLine}
use Rattle.restart_file.specs.declared.ends.RestartFault.{RestartFault}
use Rattle.restart_file.specs.declared.ends.RestartFault.TheVariants.{Used}
use Rattle.restart_file.specs.Texts.{Progress, class_counts, counts_line, version_line}
use Rattle.restart_file.specs.Reading.{AreCounts, Cursor, Follows, HasFault, HasNoLine, HasNoStageRow, HasRowFault, IsCount, IsFor, IsLine, IsNextListed, IsNextWaiting, IsStagePlace, IsReading, IsRow, ReadsToEnd, at, is_place_line, listed_due, reading_lines, reading_missing, reading_unsealed, reads_end, reads_fault, reads_more, reads_no_line, reads_on, reads_too_few, start, waiting_due, with_listed, with_place, with_used, with_waiting}
use Rattle.restart_file.specs.Inside.Windows.{IsPlain}
use Rattle.restart_file.specs.Inside.Words.{ends_word}
use Rattle.restart_file.proofs.CountLines.{all_within, counts_as_cells, counts_in_range, same_counts}
use Rattle.restart_file.proofs.LineByLine.{none_left}
use Rattle.restart_file.proofs.Numerals.{IsSplit, no_end, small_mag, split}
use Rattle.restart_file.proofs.Remainders.{cases_zero}

-- ---- one first line
head_or : List ℕ → ℕ
head_or xs = get_or xs 0 0

one_end : (a b xs ys : List ℕ) → IsPlain a → IsPlain b → a ++ (10 ∷ xs) ≡ b ++ (10 ∷ ys) → (a ≡ b) × (xs ≡ ys)
unfolding head_or
one_end [] [] xs ys p q e = (refl, ap (drop 1) e)
one_end [] (y ∷ b) xs ys p q e = absurd (q.0 (sym (ap head_or e)))
one_end (x ∷ a) [] xs ys p q e = absurd (p.0 (ap head_or e))
one_end (x ∷ a) (y ∷ b) xs ys p q e =
    let r : (a ≡ b) × (xs ≡ ys) = one_end a b xs ys p.1 q.1 (ap (drop 1) e) in (ap₂ (λ u v. u ∷ v) (ap head_or e) r.0, r.1)

ended_with : (l xs : List ℕ) (h : IsLine l) → l ++ xs ≡ h.text ++ (10 ∷ xs)
ended_with l xs h = ap (λ u. u ++ xs) h.ended ∙ append_assoc h.text (10 ∷ []) xs

one_line : (l m xs ys : List ℕ) → IsLine l → IsLine m → l ++ xs ≡ m ++ ys → (l ≡ m) × (xs ≡ ys)
one_line l m xs ys h k e =
    let r : (h.text ≡ k.text) × (xs ≡ ys) = one_end h.text k.text xs ys h.one k.one (sym (ended_with l xs h) ∙ e ∙ ended_with m ys k) in
    (h.ended ∙ ap (λ u. u ++ 10 ∷ []) r.0 ∙ sym k.ended, r.1)

has_end : (n : ℕ) (a xs : List ℕ) → length a < n → IsPlain (take n (a ++ (10 ∷ xs))) → ⊥
has_end zero a xs h p = omega (arith, h)
has_end (suc n) [] xs h p = p.0 refl
has_end (suc n) (x ∷ a) xs h p = has_end n a xs (omega (arith, h)) p.1

some_line_there : (l xs bytes : List ℕ) → IsLine l → bytes ≡ l ++ xs → HasNoLine bytes → ⊥
some_line_there l xs bytes h e none =
    has_end 4096 h.text xs (omega (arith, h.short, ap length h.ended, length_end h.text)) (subst (λ (b : List ℕ). IsPlain (take 4096 b)) (e ∙ ended_with l xs h) none)
  where
    length_end : (a : List ℕ) → length (a ++ 10 ∷ []) ≡ length a + 1
    length_end [] = refl
    length_end (x ∷ a) = omega (arith, length_end a)

-- ---- one row, one list of counts
one_word : (u v : List ℕ) (b c : ℕ) (xs ys : List ℕ) → AllByRecursion (λ d. ends_word d ≡ false) u → AllByRecursion (λ d. ends_word d ≡ false) v → ends_word b ≡ true → ends_word c ≡ true
    → u ++ b ∷ xs ≡ v ++ c ∷ ys → (u ≡ v) × (xs ≡ ys)
unfolding head_or
one_word [] [] b c xs ys p q s t e = (refl, ap (drop 1) e)
one_word [] (y ∷ v) b c xs ys p q s t e = let f : true ≡ false = sym s ∙ ap ends_word (ap head_or e) ∙ q.0 in absurd cc
one_word (x ∷ u) [] b c xs ys p q s t e = let f : true ≡ false = sym t ∙ ap ends_word (sym (ap head_or e)) ∙ p.0 in absurd cc
one_word (x ∷ u) (y ∷ v) b c xs ys p q s t e =
    let r : (u ≡ v) × (xs ≡ ys) = one_word u v b c xs ys p.1 q.1 s t (ap (drop 1) e) in (ap₂ (λ i j. i ∷ j) (ap head_or e) r.0, r.1)

no_cells : (zs : List ℤ) → length zs ≡ 0 → zs ≡ []
no_cells [] e = refl
no_cells (z ∷ zs) e = absurd (omega (arith, e))

other_cells : (zs ys : List ℤ) → length zs ≡ length ys → (length zs ≡ 0) ⊎ (0 < length zs) → (0 < length zs → zs ≡ ys) → zs ≡ ys
other_cells zs ys n (inl o) same = no_cells zs o ∙ sym (no_cells ys (omega (arith, o, n)))
other_cells zs ys n (inr o) same = same o

one_row : (zs ys : List ℤ) → length zs ≡ length ys → AllByRecursion InRange zs → AllByRecursion InRange ys → line_of zs ≡ line_of ys → zs ≡ ys
one_row [] [] n p q e = refl
one_row [] (y ∷ ys) n p q e = absurd (omega (arith, n))
one_row (z ∷ zs) [] n p q e = absurd (omega (arith, n))
one_row (z ∷ zs) (y ∷ ys) n p q e =
    let s : IsSplit z zs = split z zs in
    let t : IsSplit y ys = split y ys in
    let w : (signed_decimal z ≡ signed_decimal y) × (s.others ≡ t.others) =
    one_word (signed_decimal z) (signed_decimal y) s.byte t.byte s.others t.others (no_end (signed_decimal z) (word-signed_decimal z (omega (arith, p.0))).solid) (no_end (signed_decimal y) (word-signed_decimal y (omega (arith, q.0))).solid) s.ends t.ends (sym s.line ∙ e ∙ t.line)
    in
    ap₂ (λ i js. i ∷ js) (signed_decimal_injective z y (small_mag z p.0) (small_mag y q.0) w.0)
    (other_cells zs ys (omega (arith, n)) (cases_zero (length zs)) (λ o. one_row zs ys (omega (arith, n)) p.1 q.1 (sym (s.line_of_others o) ∙ w.1 ∙ t.line_of_others (omega (arith, o, n)))))

one_counts : (word ns ms : List ℕ) → length ns ≡ length ms → AllByRecursion (λ n. n ≤ largest) ns → AllByRecursion (λ n. n ≤ largest) ms → counts_line word ns ≡ counts_line word ms → ns ≡ ms
one_counts word ns ms n p q e =
    same_counts ns ms
    (one_row (map pos ns) (map pos ms) (length-map ns pos ∙ n ∙ sym (length-map ms pos)) (counts_in_range ns p) (counts_in_range ms q)
    (append_cancel_left word (line_of (map pos ns)) (line_of (map pos ms)) (sym (counts_as_cells word ns) ∙ e ∙ counts_as_cells word ms)))

one_count : (word : List ℕ) (most : ℕ) (line : List ℕ) (n m : ℕ) → most ≤ largest → IsCount word most line n → IsCount word most line m → n ≡ m
unfolding head_or
one_count word most line n m small a b =
    ap head_or (one_counts word (n ∷ []) (m ∷ []) refl (omega (arith, small, a.within), tt) (omega (arith, small, b.within), tt) (sym a.written ∙ b.written))

one_classes : (word : List ℕ) (most : ℕ) (line ns ms : List ℕ) → most ≤ largest → AreCounts word most line ns → AreCounts word most line ms → ns ≡ ms
one_classes word most line ns ms small a b = one_counts word ns ms (a.three ∙ sym b.three) (all_within ns most largest small a.within) (all_within ms most largest small b.within) (sym a.written ∙ b.written)

one_entry : (S : ToolSystem) (line : List ℕ) (z y : List ℤ) → IsRow S line z → IsRow S line y → z ≡ y
one_entry S line z y a b = one_row z y (a.entries ∙ sym b.entries) a.range b.range (sym a.written ∙ b.written)

one_version : (u v : Version) → version_line u ≡ version_line v → u ≡ v
one_version First First e = refl
one_version Second Second e = refl
one_version First Second e = absurd (omega (arith, ap (λ (l : List ℕ). get_or l 8 0) e))
one_version Second First e = absurd (omega (arith, ap (λ (l : List ℕ). get_or l 8 0) e))

second_or : List ℕ → ℕ
second_or xs = get_or xs 1 0

one_place : (S : ToolSystem) (k d j e : ℕ) → IsToolSystem S → IsStagePlace S k d → IsStagePlace S j e → is_place_line k d ≡ is_place_line j e → (k ≡ j) × (d ≡ e)
unfolding head_or second_or
one_place S k d j e fits a b q =
    let r : (k ∷ d ∷ []) ≡ (j ∷ e ∷ []) = one_counts (codes "place ") (k ∷ d ∷ []) (j ∷ e ∷ []) refl (omega (arith, a.to, fits.most_rows), (a.small, tt)) (omega (arith, b.to, fits.most_rows), (b.small, tt)) q in
    (ap head_or r, ap second_or r)

-- ---- one next line
module _ (S : ToolSystem) (fits : IsToolSystem S) (v : Version) (p : Progress) (line : List ℕ) where
  one_next : (due : Due) (n m : Cursor) → Follows S v due p line n → Follows S v due p line m → n ≡ m
  one_next FirstLine n m a b = a.3 ∙ ap (λ u. at u (SystemLine 0) p) (one_version a.0 b.0 (sym a.1 ∙ b.1)) ∙ sym b.3
  one_next (SystemLine i) n m a b = a.1 ∙ sym b.1
  one_next PlaceLine n m a b =
      let r : (a.0 ≡ b.0) × (a.1 ≡ b.1) = one_place S a.0 a.1 b.0 b.1 fits a.2 b.2 (sym a.3 ∙ b.3) in
      a.4 ∙ ap₂ (λ k d. at v UsedLine (with_place k d p)) r.0 r.1 ∙ sym b.4
  one_next UsedLine n m a b = a.2 ∙ ap (λ u. at v ListedLine (with_used u p)) (one_count (codes "used ") (2 ^ 62) line a.0 b.0 (omega arith) a.1 b.1) ∙ sym b.2
  one_next ListedLine n m a b = a.2 ∙ ap (λ u. at v (listed_due v u) p) (one_count (codes "listed ") (2 ^ 21) line a.0 b.0 (omega arith) a.1 b.1) ∙ sym b.2
  one_next (ListedRow left) n m a b = a.4 ∙ ap (λ z. at v (listed_due v (left - 1)) (with_listed z p)) (one_entry S line a.0 b.0 a.1 b.1) ∙ sym b.4
  one_next ClassesLine n m a b = a.1 ∙ sym b.1
  one_next WaitingLine n m a b = a.2 ∙ ap (λ u. at v (waiting_due u) p) (one_count (codes "waiting ") (2 ^ 21) line a.0 b.0 (omega arith) a.1 b.1) ∙ sym b.2
  one_next (WaitingRow left) n m a b = a.4 ∙ ap (λ z. at v (waiting_due (left - 1)) (with_waiting z p)) (one_entry S line a.0 b.0 a.1 b.1) ∙ sym b.4
  one_next LastLine n m a b = absurd a

  -- ---- right, or wrong
  no_row_fault : (k l : ℕ) (IsNext : List ℤ → Type 0) (z : List ℤ) (f : RestartFault) → IsRow S line z → IsStageRow S.equations k z → IsNext z → HasRowFault S k IsNext line l f → ⊥
  no_row_fault k l IsNext z f row stage next (inl (inl h)) = h.1 z row
  no_row_fault k l IsNext z f row stage next (inl (inr h)) = h.1.2 (subst (λ y. IsStageRow S.equations k y) (one_entry S line z h.1.0 row h.1.1) stage)
  no_row_fault k l IsNext z f row stage next (inr h) = h.1.3 (subst (λ y. IsNext y) (one_entry S line z h.1.0 row h.1.1) next)

  no_fault : (due : Due) (n : Cursor) (l : ℕ) (f : RestartFault) → Follows S v due p line n → HasFault S v due p line l f → ⊥
  no_fault FirstLine n l f a (inl h) = h.1 a.0 a.1
  no_fault FirstLine n l f a (inr h) = h.1.2 (subst (λ u. IsFor S u) (one_version a.0 h.1.0 (sym a.1 ∙ h.1.1)) a.2)
  no_fault (SystemLine i) n l f a h = h.1 a.0
  no_fault PlaceLine n l f a h = h.1 a.0 a.1 a.2 a.3
  no_fault UsedLine n l f a h = h.1 a.0 a.1
  no_fault ListedLine n l f a h = h.1 a.0 a.1
  no_fault (ListedRow left) n l f a h = no_row_fault p.number l (IsNextListed p) a.0 f a.1 a.2 a.3 h
  no_fault ClassesLine n l f a (inl h) = h.1 (class_counts p.listed) a.0
  no_fault ClassesLine n l f a (inr h) = h.1.2 (one_classes (codes "classes ") (2 ^ 21) line h.1.0 (class_counts p.listed) (omega arith) h.1.1 a.0)
  no_fault WaitingLine n l f a h = h.1 a.0 a.1
  no_fault (WaitingRow left) n l f a h = no_row_fault p.number l (IsNextWaiting p) a.0 f a.1 a.2 a.3 h
  no_fault LastLine n l f a h = h

  -- ---- one first fault
  one_row_fault : (k l : ℕ) (IsNext : List ℤ → Type 0) (f g : RestartFault) → HasRowFault S k IsNext line l f → HasRowFault S k IsNext line l g → f ≡ g
  one_row_fault k l IsNext f g (inl (inl a)) (inl (inl b)) = a.0 ∙ sym b.0
  one_row_fault k l IsNext f g (inl (inl a)) (inl (inr b)) = absurd (a.1 b.1.0 b.1.1)
  one_row_fault k l IsNext f g (inl (inl a)) (inr b) = absurd (a.1 b.1.0 b.1.1)
  one_row_fault k l IsNext f g (inl (inr a)) (inl (inl b)) = absurd (b.1 a.1.0 a.1.1)
  one_row_fault k l IsNext f g (inl (inr a)) (inl (inr b)) = a.0 ∙ sym b.0
  one_row_fault k l IsNext f g (inl (inr a)) (inr b) = absurd (a.1.2 (subst (λ y. IsStageRow S.equations k y) (one_entry S line b.1.0 a.1.0 b.1.1 a.1.1) b.1.2))
  one_row_fault k l IsNext f g (inr a) (inl (inl b)) = absurd (b.1 a.1.0 a.1.1)
  one_row_fault k l IsNext f g (inr a) (inl (inr b)) = absurd (b.1.2 (subst (λ y. IsStageRow S.equations k y) (one_entry S line a.1.0 b.1.0 a.1.1 b.1.1) a.1.2))
  one_row_fault k l IsNext f g (inr a) (inr b) = a.0 ∙ sym b.0

  one_fault : (due : Due) (l : ℕ) (f g : RestartFault) → HasFault S v due p line l f → HasFault S v due p line l g → f ≡ g
  one_fault FirstLine l f g (inl a) (inl b) = a.0 ∙ sym b.0
  one_fault FirstLine l f g (inl a) (inr b) = absurd (a.1 b.1.0 b.1.1)
  one_fault FirstLine l f g (inr a) (inl b) = absurd (b.1 a.1.0 a.1.1)
  one_fault FirstLine l f g (inr a) (inr b) = a.0 ∙ sym b.0
  one_fault (SystemLine i) l f g a b = a.0 ∙ sym b.0
  one_fault PlaceLine l f g a b = a.0 ∙ sym b.0
  one_fault UsedLine l f g a b = a.0 ∙ sym b.0
  one_fault ListedLine l f g a b = a.0 ∙ sym b.0
  one_fault (ListedRow left) l f g a b = one_row_fault p.number l (IsNextListed p) f g a b
  one_fault ClassesLine l f g (inl a) (inl b) = a.0 ∙ sym b.0
  one_fault ClassesLine l f g (inl a) (inr b) = absurd (a.1 b.1.0 b.1.1)
  one_fault ClassesLine l f g (inr a) (inl b) = absurd (b.1 a.1.0 a.1.1)
  one_fault ClassesLine l f g (inr a) (inr b) = a.0 ∙ sym b.0
  one_fault WaitingLine l f g a b = a.0 ∙ sym b.0
  one_fault (WaitingRow left) l f g a b = one_row_fault p.number l (IsNextWaiting p) f g a b
  one_fault LastLine l f g a b = absurd a

-- ---- one reading
-- no line follows the last
none_follows : (S : ToolSystem) (v : Version) (p : Progress) (line : List ℕ) (n : Cursor) (due : Due) → due ≡ LastLine → Follows S v due p line n → ⊥
none_follows S v p line n due e h = subst (λ (d : Due). Follows S v d p line n) e h

none_wrong : (S : ToolSystem) (v : Version) (p : Progress) (line : List ℕ) (l : ℕ) (f : RestartFault) (due : Due) → due ≡ LastLine → HasFault S v due p line l f → ⊥
none_wrong S v p line l f due e h = subst (λ (d : Due). HasFault S v d p line l f) e h

module _ (S : ToolSystem) (fits : IsToolSystem S) where
  -- a right line is read on
  peel : (c next : Cursor) (l : ℕ) (bytes line rest : List ℕ) (b : Result Progress RestartFault) → IsLine line → bytes ≡ line ++ rest → Follows S c.version c.due c.so_far line next → ReadsToEnd S c l bytes b → ReadsToEnd S next (l + 1) rest b
  peel c next l bytes line rest b h e f (reads_on {next = m} {line = line'} {rest = rest'} h' e' f' r) =
      let same : (line' ≡ line) × (rest' ≡ rest) = one_line line' line rest' rest h' h (sym e' ∙ e) in
      let g : Follows S c.version c.due c.so_far line m = subst (λ (t : List ℕ). Follows S c.version c.due c.so_far t m) same.0 f' in
      let n : m ≡ next = one_next S fits c.version c.so_far line c.due m next g f in
      subst (λ (x : Cursor). ReadsToEnd S x (l + 1) rest b) n (subst (λ (t : List ℕ). ReadsToEnd S m (l + 1) t b) same.1 r)
  peel c next l bytes line rest b h e f (reads_fault {line = line'} {f = w} rest' h' e' g) =
      let same : (line' ≡ line) × (rest' ≡ rest) = one_line line' line rest' rest h' h (sym e' ∙ e) in
      absurd (no_fault S fits c.version c.so_far line c.due next l w f (subst (λ (t : List ℕ). HasFault S c.version c.due c.so_far t l w) same.0 g))
  peel c next l bytes line rest b h e f (reads_no_line d n) = absurd (some_line_there line rest bytes h e n)
  peel c next l bytes line rest b h e f (reads_more d n) = absurd (none_follows S c.version c.so_far line next c.due d f)
  peel c next l bytes line rest b h e f (reads_too_few d n q) = absurd (none_follows S c.version c.so_far line next c.due d f)
  peel c next l bytes line rest b h e f (reads_end d n q) = absurd (none_follows S c.version c.so_far line next c.due d f)

  -- a wrong line has one fault
  wrong : (c : Cursor) (l : ℕ) (bytes line rest : List ℕ) (g : RestartFault) (b : Result Progress RestartFault) → IsLine line → bytes ≡ line ++ rest → HasFault S c.version c.due c.so_far line l g → ReadsToEnd S c l bytes b → Err g ≡ b
  wrong c l bytes line rest g b h e w (reads_on {next = m} {line = line'} {rest = rest'} h' e' f' r) =
      let same : (line' ≡ line) × (rest' ≡ rest) = one_line line' line rest' rest h' h (sym e' ∙ e) in
      absurd (no_fault S fits c.version c.so_far line c.due m l g (subst (λ (t : List ℕ). Follows S c.version c.due c.so_far t m) same.0 f') w)
  wrong c l bytes line rest g b h e w (reads_fault {line = line'} {f = k} rest' h' e' q) =
      let same : (line' ≡ line) × (rest' ≡ rest) = one_line line' line rest' rest h' h (sym e' ∙ e) in
      ap Err (one_fault S fits c.version c.so_far line c.due l g k w (subst (λ (t : List ℕ). HasFault S c.version c.due c.so_far t l k) same.0 q))
  wrong c l bytes line rest g b h e w (reads_no_line d n) = absurd (some_line_there line rest bytes h e n)
  wrong c l bytes line rest g b h e w (reads_more d n) = absurd (none_wrong S c.version c.so_far line l g c.due d w)
  wrong c l bytes line rest g b h e w (reads_too_few d n q) = absurd (none_wrong S c.version c.so_far line l g c.due d w)
  wrong c l bytes line rest g b h e w (reads_end d n q) = absurd (none_wrong S c.version c.so_far line l g c.due d w)

  one_end_of : (c : Cursor) (l : ℕ) (bytes : List ℕ) (a b : Result Progress RestartFault) → ReadsToEnd S c l bytes a → ReadsToEnd S c l bytes b → a ≡ b
  one_end_of c l bytes a b (reads_on {next = m} {line = line} {rest = rest} h e f r) s = one_end_of m (l + 1) rest a b r (peel c m l bytes line rest b h e f s)
  one_end_of c l bytes a b (reads_fault {line = line} {f = g} rest h e w) s = wrong c l bytes line rest g b h e w s
  one_end_of c l bytes a b (reads_no_line d n) (reads_on {line = line} {rest = rest} h e f r) = absurd (some_line_there line rest bytes h e n)
  one_end_of c l bytes a b (reads_no_line d n) (reads_fault {line = line} rest h e w) = absurd (some_line_there line rest bytes h e n)
  one_end_of c l bytes a b (reads_no_line d n) (reads_no_line d' n') = refl
  one_end_of c l bytes a b (reads_no_line d n) (reads_more d' n') = absurd (d d')
  one_end_of c l bytes a b (reads_no_line d n) (reads_too_few d' n' q) = absurd (d d')
  one_end_of c l bytes a b (reads_no_line d n) (reads_end d' n' q) = absurd (d d')
  one_end_of c l bytes a b (reads_more d n) (reads_on {next = m} {line = line} h e f r) = absurd (none_follows S c.version c.so_far line m c.due d f)
  one_end_of c l bytes a b (reads_more d n) (reads_fault {line = line} {f = g} rest h e w) = absurd (none_wrong S c.version c.so_far line l g c.due d w)
  one_end_of c l bytes a b (reads_more d n) (reads_no_line d' n') = absurd (d' d)
  one_end_of c l bytes a b (reads_more d n) (reads_more d' n') = refl
  one_end_of c l bytes a b (reads_more d n) (reads_too_few d' n' q) = absurd (n n')
  one_end_of c l bytes a b (reads_more d n) (reads_end d' n' q) = absurd (n n')
  one_end_of c l bytes a b (reads_too_few d n q) (reads_on {next = m} {line = line} h e f r) = absurd (none_follows S c.version c.so_far line m c.due d f)
  one_end_of c l bytes a b (reads_too_few d n q) (reads_fault {line = line} {f = g} rest h e w) = absurd (none_wrong S c.version c.so_far line l g c.due d w)
  one_end_of c l bytes a b (reads_too_few d n q) (reads_no_line d' n') = absurd (d' d)
  one_end_of c l bytes a b (reads_too_few d n q) (reads_more d' n') = absurd (n' n)
  one_end_of c l bytes a b (reads_too_few d n q) (reads_too_few d' n' q') = refl
  one_end_of c l bytes a b (reads_too_few d n q) (reads_end d' n' q') = absurd (omega (arith, q, q'))
  one_end_of c l bytes a b (reads_end d n q) (reads_on {next = m} {line = line} h e f r) = absurd (none_follows S c.version c.so_far line m c.due d f)
  one_end_of c l bytes a b (reads_end d n q) (reads_fault {line = line} {f = g} rest h e w) = absurd (none_wrong S c.version c.so_far line l g c.due d w)
  one_end_of c l bytes a b (reads_end d n q) (reads_no_line d' n') = absurd (d' d)
  one_end_of c l bytes a b (reads_end d n q) (reads_more d' n') = absurd (n' n)
  one_end_of c l bytes a b (reads_end d n q) (reads_too_few d' n' q') = absurd (omega (arith, q, q'))
  one_end_of c l bytes a b (reads_end d n q) (reads_end d' n' q') = refl

pub one_reading : (S : ToolSystem) (file : Option (List ℕ)) (a b : Result Progress RestartFault) → IsToolSystem S → IsReading S file a → IsReading S file b → a ≡ b
one_reading S file a b fits reading_missing reading_missing = refl
one_reading S file a b fits (reading_unsealed u) (reading_unsealed v) = refl
one_reading S file a b fits (reading_unsealed u) (reading_lines s r) = absurd (u s)
one_reading S file a b fits (reading_lines s r) (reading_unsealed u) = absurd (u s)
one_reading S file a b fits (reading_lines {bytes = bytes} s r) (reading_lines s' r') = one_end_of S fits start 1 bytes a b r r'
