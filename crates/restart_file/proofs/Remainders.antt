-- A file that is read in pieces: the bytes that were read and not taken, and those that were not read.
use Rattle.std.proofs.Common.{◌≡◌, ◌≢◌, ◌<◌, ◌≤◌, ◌+◌, ◌-◌, ◌^◌, ◌⊎◌, inl, inr, ℕ, zero, suc, List, [], ◌∷◌, ◌++◌, length, take, drop, get_or, Option, Some, None, Bool, true, false, refl, sym, ap, ap₂, subst, ◌∙◌, arith, IfSome, length-append, min}
use Rattle.std.specs.Prelude.{Result, IfOk}
use Rattle.std.proofs.lemmas.List.{length-take, length-take-le, length-drop, take_all, take_more, append-nil}
use Rattle.std.proofs.Math.Seq.{drop-cons}
use Rattle.lift_core.proofs.Composition.{each_push}
use Rattle.outside.specs.Files.{Files, bytes_of, ReadsFrom}
use Rattle.restart_file.specs.declared.windows.Window.{Window}
use Rattle.restart_file.specs.Reading.{HasNoLine, IsLine}
use Rattle.restart_file.specs.Inside.Windows.{GivesByte, GivesLine, IsTextLeft, IsPlain, WereTaken, TellsText}

-- ---- what a folder tells
pub tells_same : (held now : Option Files) (name text : List ℕ) → now ≡ held → TellsText held name text → TellsText now name text
tells_same held now name text e t = record { files = t.files; told = e ∙ t.told; bytes = t.bytes }

-- what was read of a file that is told
pub tells_read : {E : Type 0} (held : Option Files) (name text : List ℕ) (at : ℕ) (r : Result ℕ E) (buf : List ℕ) → TellsText held name text → IfSome held (λ files. IfOk r (λ n. ReadsFrom (bytes_of files name) at n buf)) → IfOk r (λ n. ReadsFrom text at n buf)
tells_read held name text at r buf t h =
    subst (λ bytes. IfOk r (λ n. ReadsFrom bytes at n buf)) t.bytes (subst (λ o. IfSome o (λ files. IfOk r (λ n. ReadsFrom (bytes_of files name) at n buf))) t.told h)

-- ---- lists
pub drop_past : (n : ℕ) (xs : List ℕ) → length xs ≤ n → drop n xs ≡ []
drop_past zero [] h = refl
drop_past (suc n) [] h = refl
drop_past zero (x ∷ xs) h = absurd (omega (arith, h))
drop_past (suc n) (x ∷ xs) h = drop_past n xs (omega (arith, h))

pub drop_drop : (m n : ℕ) (xs : List ℕ) → drop n (drop m xs) ≡ drop (m + n) xs
drop_drop zero n xs = let e : n ≡ 0 + n = omega arith in ap (λ (k : ℕ). drop k xs) e
drop_drop (suc m) n [] = drop_past n [] (omega arith) ∙ sym (drop_past (suc m + n) [] (omega arith))
drop_drop (suc m) n (x ∷ xs) = let e : suc (m + n) ≡ suc m + n = omega arith in drop_drop m n xs ∙ ap (λ (k : ℕ). drop k (x ∷ xs)) e

pub take_and_drop : (n : ℕ) (xs : List ℕ) → xs ≡ take n xs ++ drop n xs
take_and_drop zero xs = refl
take_and_drop (suc n) [] = refl
take_and_drop (suc n) (x ∷ xs) = ap (λ ys. x ∷ ys) (take_and_drop n xs)

pub take_inside : (n m : ℕ) (xs : List ℕ) → n ≤ m → take n (take m xs) ≡ take n xs
take_inside zero m xs h = refl
take_inside (suc n) zero xs h = absurd (omega (arith, h))
take_inside (suc n) (suc m) [] h = refl
take_inside (suc n) (suc m) (x ∷ xs) h = ap (λ ys. x ∷ ys) (take_inside n m xs (omega (arith, h)))

-- the storage of a vector whose slice was lent
pub given_back : (new items : List ℕ) (len : ℕ) → length new ≡ length items → len ≡ length items → take len (new ++ drop (length new) items) ≡ new
given_back new items len same is =
    ap (λ xs. take len (new ++ xs)) (drop_past (length new) items (omega (arith, same))) ∙ ap (take len) (append-nil new) ∙ take_all len new (omega (arith, same, is))

pub cases_zero : (i : ℕ) → (i ≡ 0) ⊎ (0 < i)
cases_zero zero = inl refl
cases_zero (suc i) = inr (omega arith)

-- ---- the window
-- how many bytes are left
pub left_length : (text rest : List ℕ) (w : Window) → w.from ≤ w.filled → w.filled ≤ length w.storage.items → IsTextLeft text w rest → length rest ≡ (w.filled - w.from) + w.left
left_length text rest w a b l =
    omega (arith, a, b, ap length l.bytes, length-append (drop w.from (take w.filled w.storage.items)) (drop w.at text), length-drop w.from (take w.filled w.storage.items), length-take-le w.filled w.storage.items b, length-drop w.at text, l.read)

-- a window from which all was taken: the rest was not read
all_taken : (text rest : List ℕ) (w : Window) → w.filled ≤ length w.storage.items → w.filled ≤ w.from → IsTextLeft text w rest → rest ≡ drop w.at text
all_taken text rest w b h l = l.bytes ∙ ap (λ front. front ++ drop w.at text) (drop_past w.from (take w.filled w.storage.items) (omega (arith, b, h, length-take-le w.filled w.storage.items b)))

-- n bytes were read into a window from which all was taken
module _ (text rest : List ℕ) (w v : Window) (n : ℕ) (inside : w.filled ≤ length w.storage.items) (empty : w.filled ≤ w.from)
    (same : length v.storage.items ≡ length w.storage.items) (read : ReadsFrom text w.at n v.storage.items)
    (from : v.from ≡ 0) (filled : v.filled ≡ n) (at : v.at ≡ min (w.at + n) (2 ^ 64 - 1)) (left : v.left ≡ w.left - n)
    (l : IsTextLeft text w rest) where
  fits : w.at + n ≤ length text
  fits = elim read.there [ inl h ↦ h | inr z ↦ omega (arith, z, l.read) ]

  at_is : v.at ≡ w.at + n
  at_is = omega (arith, at, fits, l.short)

  pub read_left : IsTextLeft text v rest
  read_left = record {
    bytes =
        all_taken text rest w inside empty l ∙ take_and_drop n (drop w.at text) ∙ ap₂ (λ a b. a ++ b) (sym read.bytes) (drop_drop w.at n text)
        ∙ sym (ap₂ (λ a b. a ++ b) (ap₂ (λ i j. drop i (take j v.storage.items)) from filled) (ap (λ i. drop i text) at_is));
    read = omega (arith, at_is, left, l.read, fits);
    behind = omega (arith, at_is, filled);
    room = λ h. omega (arith, same, l.room (omega (arith, left, h)));
    short = l.short;
  }

-- nothing was read into a window from which all was taken
module _ (text rest : List ℕ) (w : Window) (items : List ℕ) (n : ℕ) (inside : w.filled ≤ length w.storage.items) (empty : w.filled ≤ w.from)
    (same : length items ≡ length w.storage.items) (read : ReadsFrom text w.at n items) (l : IsTextLeft text w rest) where
  some_room : (length text ≤ w.at) ⊎ (length items ≡ 0) → (w.left ≡ 0) ⊎ (0 < w.left) → length text ≤ w.at
  some_room (inl h) e = h
  some_room (inr z) (inl e) = omega (arith, e, l.read)
  some_room (inr z) (inr p) = absurd (omega (arith, z, p, l.room p, same))

  pub read_nothing : 0 ≡ n → rest ≡ []
  read_nothing e = all_taken text rest w inside empty l ∙ drop_past w.at text (some_room (read.stops (sym e)) (cases_zero w.left))

-- ---- the next byte
-- one byte was taken
pub byte_taken : (text rest : List ℕ) (w v : Window) (byte : ℕ) → w.filled ≤ length w.storage.items → w.from < w.filled → byte ≡ get_or w.storage.items w.from 0
    → v.storage.items ≡ w.storage.items → v.filled ≡ w.filled → v.from ≡ w.from + 1 → v.at ≡ w.at → v.left ≡ w.left → IsTextLeft text w rest
    → (others : List ℕ) × (rest ≡ byte ∷ others) × IsTextLeft text v others
byte_taken text rest w v byte inside some is storage filled from at left l =
    let cut : drop w.from (take w.filled w.storage.items) ≡ byte ∷ drop (suc w.from) (take w.filled w.storage.items) =
    drop-cons (take w.filled w.storage.items) w.from 0 (omega (arith, some, length-take-le w.filled w.storage.items inside)) ∙ ap (λ b. b ∷ drop (suc w.from) (take w.filled w.storage.items)) (get_taken w.storage.items w.filled w.from some ∙ sym is)
    in (
      drop (suc w.from) (take w.filled w.storage.items) ++ drop w.at text,
      l.bytes ∙ ap (λ front. front ++ drop w.at text) cut,
      record {
        bytes = ap₂ (λ a b. a ++ b) (sym (ap₂ (λ i s. drop i s) (from ∙ next) (ap₂ (λ j s. take j s) filled storage))) (sym (ap (λ i. drop i text) at));
        read = omega (arith, at, left, l.read);
        behind = omega (arith, at, filled, l.behind);
        room = λ h. subst (λ s. 0 < length s) (sym storage) (l.room (subst (λ i. 0 < i) left h));
        short = l.short;
      },
    )
  where
    next : w.from + 1 ≡ suc w.from
    next = omega arith

    get_taken : (xs : List ℕ) (n i : ℕ) → i < n → get_or (take n xs) i 0 ≡ get_or xs i 0
    get_taken xs zero i h = absurd (omega (arith, h))
    get_taken [] (suc n) i h = refl
    get_taken (x ∷ xs) (suc n) zero h = refl
    get_taken (x ∷ xs) (suc n) (suc i) h = get_taken xs n i (omega (arith, h))

-- ---- byte after byte
pub no_byte : (text : List ℕ) (w : Window) (rest : List ℕ) (o : Option ℕ) → o ≡ None → GivesByte text w rest o → rest ≡ []
no_byte text w rest o e h = subst (λ x. GivesByte text w rest x) e h

pub some_byte : (text : List ℕ) (w : Window) (rest : List ℕ) (o : Option ℕ) (b : ℕ) → o ≡ Some b → GivesByte text w rest o → (others : List ℕ) × (rest ≡ b ∷ others) × IsTextLeft text w others
some_byte text w rest o b e h = subst (λ x. GivesByte text w rest x) e h

pub nothing_taken : (text rest : List ℕ) (w : Window) (taken : List ℕ) → taken ≡ [] → IsTextLeft text w rest → WereTaken text rest w taken 0
nothing_taken text rest w taken e l = record { left = l; taken_is = e; inside = omega arith }

module _ (text rest : List ℕ) (w v : Window) (taken new : List ℕ) (i byte : ℕ) (t : WereTaken text rest w taken i)
    (given : (others : List ℕ) × (drop i rest ≡ byte ∷ others) × IsTextLeft text v others) (pushed : new ≡ taken ++ byte ∷ []) where
  here : i < length rest
  here = omega (arith, ap length given.1, length-drop i rest)

  others_are : drop (i + 1) rest ≡ given.0
  others_are = sym (drop_drop i 1 rest) ∙ ap (drop 1) given.1

  first : get_or rest i 0 ≡ byte
  first = heads (get_or rest i 0) byte (drop (suc i) rest) given.0 (sym (drop-cons rest i 0 here) ∙ given.1)
    where
      head : List ℕ → ℕ
      head [] = 0
      head (x ∷ xs) = x

      heads : (a b : ℕ) (xs ys : List ℕ) → (a ∷ xs) ≡ (b ∷ ys) → a ≡ b
      heads a b xs ys e = ap head e

  taken_next : new ≡ take (i + 1) rest
  taken_next = pushed ∙ ap₂ (λ xs b. xs ++ b ∷ []) t.taken_is (sym first) ∙ sym (take_more rest i 0 here)

  pub taken_more : WereTaken text rest v new (i + 1)
  taken_more = record {
    left = subst (λ xs. IsTextLeft text v xs) (sym others_are) given.2;
    taken_is = taken_next;
    inside = omega (arith, here);
  }

  -- LF ends the line
  pub taken_line : IsPlain taken → byte ≡ 10 → i < 4096 → IsLine new × ((others : List ℕ) × (rest ≡ new ++ others) × IsTextLeft text v others)
  taken_line plain h small = (
    record {
      text = taken;
      ended = pushed ∙ ap (λ b. taken ++ b ∷ []) h;
      one = plain;
      short = omega (arith, small, ap length taken_next, length-take (i + 1) rest);
    },
    (given.0, take_and_drop (i + 1) rest ∙ ap₂ (λ a b. a ++ b) (sym taken_next) others_are, given.2),
  )

pub plain_more : (line new : List ℕ) (byte : ℕ) → IsPlain line → new ≡ line ++ byte ∷ [] → byte ≢ 10 → IsPlain new
plain_more line new byte plain pushed h = subst (λ xs. IsPlain xs) (sym pushed) (each_push (λ b. b ≢ 10) line byte plain h)

plain_front : (n : ℕ) (xs : List ℕ) → IsPlain xs → IsPlain (take n xs)
plain_front zero xs h = tt
plain_front (suc n) [] h = tt
plain_front (suc n) (x ∷ xs) h = (h.0, plain_front n xs h.1)

all_of_it : (i : ℕ) (rest : List ℕ) → drop i rest ≡ [] → take i rest ≡ rest
all_of_it i rest e = sym (append-nil (take i rest)) ∙ ap (λ xs. take i rest ++ xs) (sym e) ∙ sym (take_and_drop i rest)

-- nothing more is left
pub no_line_left : (text rest : List ℕ) (w : Window) (line : List ℕ) (i : ℕ) → WereTaken text rest w line i → IsPlain line → drop i rest ≡ [] → HasNoLine rest
no_line_left text rest w line i t plain e = plain_front 4096 rest (subst (λ xs. IsPlain xs) (t.taken_is ∙ all_of_it i rest e) plain)

-- the line is too long
pub no_line_yet : (text rest : List ℕ) (w : Window) (line : List ℕ) (i : ℕ) → WereTaken text rest w line i → IsPlain line → 4096 ≤ i → HasNoLine rest
no_line_yet text rest w line i t plain h = subst (λ xs. IsPlain xs) (take_inside 4096 i rest h) (plain_front 4096 (take i rest) (subst (λ xs. IsPlain xs) t.taken_is plain))

-- all that was left was taken
pub taken_to_end : (text rest : List ℕ) (w : Window) (taken : List ℕ) (i len : ℕ) → WereTaken text rest w taken i → i ≤ len → drop i rest ≡ [] → taken ≡ take len rest
taken_to_end text rest w taken i len t h e = t.taken_is ∙ all_of_it i rest e ∙ sym (take_all len rest (omega (arith, h, ap length e, length-drop i rest)))

-- ---- lines
pub some_line : (text : List ℕ) (w : Window) (rest line : List ℕ) (b : Bool) → b ≡ true → GivesLine text w rest line b → IsLine line × ((others : List ℕ) × (rest ≡ line ++ others) × IsTextLeft text w others)
some_line text w rest line b e h = subst (λ x. GivesLine text w rest line x) e h

pub no_line : (text : List ℕ) (w : Window) (rest line : List ℕ) (b : Bool) → b ≡ false → GivesLine text w rest line b → HasNoLine rest
no_line text w rest line b e h = subst (λ x. GivesLine text w rest line x) e h
