-- The bytes of a file that are hashed, and its last line.
use Rattle.std.proofs.Common.{◌≡◌, ◌<◌, ◌≤◌, ◌+◌, ◌-◌, ◌*◌, ◌^◌, ◌⊎◌, inl, inr, ℕ, zero, suc, List, [], ◌∷◌, ◌++◌, length, take, drop, refl, sym, ap, ap₂, subst, ◌∙◌, arith, length-append}
use Rattle.std.specs.Prelude.{codes}
use Rattle.std.proofs.lemmas.List.{length-take-le, length-drop, take_all, append_cancel_left}
use Rattle.std.proofs.Math.Seq.{take-add}
use Rattle.sha2.specs.declared.Sha256.{Sha256}
use Rattle.sha2.specs.Hashers.{Holds256}
use Rattle.sha2.specs.Sha256.{sha256}
use Rattle.sha2.proofs.Facts256.{length-sha256}
use Rattle.hex.specs.Hex.{encode_lower, encode_with}
use Rattle.restart_file.specs.declared.windows.Window.{Window}
use Rattle.restart_file.specs.Texts.{digest_line}
use Rattle.restart_file.specs.Reading.{IsSealed}
use Rattle.restart_file.specs.Inside.Windows.{IsHashed, IsTextLeft}
use Rattle.restart_file.proofs.Remainders.{cases_zero, drop_drop, take_and_drop, take_inside}

-- ---- lists
inner : (a b c : ℕ) (xs : List ℕ) → a + c ≤ b → take c (drop a (take b xs)) ≡ take c (drop a xs)
inner zero b c xs h = take_inside c b xs (omega (arith, h))
inner (suc a) zero c xs h = absurd (omega (arith, h))
inner (suc a) (suc b) c [] h = refl
inner (suc a) (suc b) c (x ∷ xs) h = inner a b c xs (omega (arith, h))

front_of : (c : ℕ) (xs ys : List ℕ) → c ≤ length xs → take c (xs ++ ys) ≡ take c xs
front_of zero xs ys h = refl
front_of (suc c) [] ys h = absurd (omega (arith, h))
front_of (suc c) (x ∷ xs) ys h = ap (λ zs. x ∷ zs) (front_of c xs ys (omega (arith, h)))

behind_of : (c : ℕ) (xs ys : List ℕ) → c ≤ length xs → drop c (xs ++ ys) ≡ drop c xs ++ ys
behind_of zero xs ys h = refl
behind_of (suc c) [] ys h = absurd (omega (arith, h))
behind_of (suc c) (x ∷ xs) ys h = behind_of c xs ys (omega (arith, h))

-- ---- a piece that is hashed
module _ (text : List ℕ) (w v : Window) (done count : ℕ) (old new : Sha256) (piece : List ℕ)
    (ordered : w.from ≤ w.filled) (inside : w.filled ≤ length w.storage.items) (count_most : count ≤ w.filled - w.from)
    (storage : v.storage.items ≡ w.storage.items) (filled : v.filled ≡ w.filled) (from : v.from ≡ w.from + count) (at : v.at ≡ w.at) (left : v.left ≡ w.left)
    (piece_is : piece ≡ take count (drop w.from w.storage.items)) (fed : (m : List ℕ) → Holds256 old m → Holds256 new (m ++ piece))
    (l : IsTextLeft text w (drop done text)) (short : done ≤ length text) (held : Holds256 old (take done text)) where
  ready : List ℕ
  ready = drop w.from (take w.filled w.storage.items)

  ready_length : length (drop w.from (take w.filled w.storage.items)) ≡ w.filled - w.from
  ready_length = omega (arith, length-drop w.from (take w.filled w.storage.items), length-take-le w.filled w.storage.items inside)

  fits : count ≤ length (drop w.from (take w.filled w.storage.items))
  fits = omega (arith, ready_length, count_most)

  within : count ≤ length (drop done text)
  within = omega (arith, fits, ap length l.bytes, length-append (drop w.from (take w.filled w.storage.items)) (drop w.at text))

  piece_next : piece ≡ take count (drop done text)
  piece_next =
      piece_is ∙ sym (inner w.from w.filled count w.storage.items (omega (arith, ordered, count_most)))
      ∙ sym (front_of count (drop w.from (take w.filled w.storage.items)) (drop w.at text) fits) ∙ ap (take count) (sym l.bytes)

  pub hashed_more : IsHashed text v new (done + count)
  hashed_more = record {
    left = record {
      bytes =
          sym (drop_drop done count text) ∙ ap (drop count) l.bytes ∙ behind_of count (drop w.from (take w.filled w.storage.items)) (drop w.at text) fits
          ∙ ap₂ (λ a b. a ++ b)
          (drop_drop w.from count (take w.filled w.storage.items) ∙ sym (ap₂ (λ i xs. drop i xs) from (ap₂ (λ j s. take j s) filled storage)))
          (ap (λ i. drop i text) (sym at));
      read = omega (arith, at, left, l.read);
      behind = omega (arith, at, filled, l.behind);
      room = λ h. subst (λ s. 0 < length s) (sym storage) (l.room (subst (λ i. 0 < i) left h));
      short = l.short;
    };
    inside = omega (arith, within, length-drop done text, short);
    hashed = subst (λ m. Holds256 new m) (ap (λ p. take done text ++ p) piece_next ∙ sym (take-add done count text)) (fed (take done text) held);
  }

-- where nothing more was hashed, nothing is left, or nothing was to be hashed
pub hashed_all : (text : List ℕ) (w : Window) (done count most : ℕ) → w.from ≤ w.filled → (0 < w.filled - w.from → count ≡ 0 → most ≡ 0) → (w.from ≡ w.filled → drop done text ≡ []) → count ≡ 0 → length text ≤ done ⊎ most ≡ 0
hashed_all text w done count most ordered some empty none = ready_or (cases_zero (w.filled - w.from))
  where
    ready_or : (w.filled - w.from ≡ 0) ⊎ (0 < w.filled - w.from) → length text ≤ done ⊎ most ≡ 0
    ready_or (inl e) = inl (omega (arith, ap length (empty (omega (arith, e, ordered))), length-drop done text))
    ready_or (inr p) = inr (some p none)

-- as many bytes as were to be hashed
pub hashed_to : (text : List ℕ) (w : Window) (hasher : Sha256) (done to : ℕ) → done ≡ to → IsHashed text w hasher done → IsHashed text w hasher to
hashed_to text w hasher done to e h = subst (λ n. IsHashed text w hasher n) e h

pub all_hashed : (len left count n : ℕ) → left ≤ len → len ≤ n → count ≡ 0 → (n ≤ len - left) ⊎ (left ≡ 0) → (len - left) + count ≡ len
all_hashed len left count n inside short none (inl h) = omega (arith, inside, short, none, h)
all_hashed len left count n inside short none (inr e) = omega (arith, inside, short, none, e)

-- nothing is hashed
pub hashed_none : (text : List ℕ) (w : Window) (hasher : Sha256) → Holds256 hasher [] → IsTextLeft text w text → IsHashed text w hasher 0
hashed_none text w hasher h l = record { left = l; inside = omega arith; hashed = h }

-- ---- the last line
encoded_length : (bytes : List ℕ) → length (encode_lower bytes) ≡ 2 * length bytes
unfolding encode_with
encoded_length [] = refl
encoded_length (b ∷ bytes) = omega (arith, encoded_length bytes)

pub digest_line_length : (body : List ℕ) → length (digest_line body) ≡ 72
digest_line_length body =
    omega (arith, length-append (codes "digest ") (encode_lower (sha256 body) ++ 10 ∷ []), length-append (encode_lower (sha256 body)) (10 ∷ []), encoded_length (sha256 body), length-sha256 body)

-- a text that is too short, or too long, is not sealed
pub not_sealed : (text : List ℕ) → length text < 72 ⊎ 2 ^ 61 ≤ length text → IsSealed text → ⊥
not_sealed text (inl h) s = omega (arith, h, ap length s.whole, length-append s.body (digest_line s.body), digest_line_length s.body)
not_sealed text (inr h) s = omega (arith, h, s.short)

-- where the last 72 bytes are the line of the digest, and only there, the text is sealed
pub seals : (text : List ℕ) (n : ℕ) → length text ≡ n + 72 → length text < 2 ^ 61 → drop n text ≡ digest_line (take n text) → IsSealed text
seals text n e short h = record { body = take n text; whole = take_and_drop n text ∙ ap (λ l. take n text ++ l) h; short = short }

pub seal_is : (text : List ℕ) (n : ℕ) → length text ≡ n + 72 → IsSealed text → drop n text ≡ digest_line (take n text)
seal_is text n e s =
    let here : length s.body ≡ n = omega (arith, e, ap length s.whole, length-append s.body (digest_line s.body), digest_line_length s.body) in
    let front : take n text ≡ s.body = ap (take n) s.whole ∙ front_of n s.body (digest_line s.body) (omega (arith, here)) ∙ take_all n s.body (omega (arith, here)) in
    append_cancel_left (take n text) (drop n text) (digest_line (take n text))
    (sym (take_and_drop n text) ∙ s.whole ∙ ap₂ (λ b d. b ++ digest_line d) (sym front) (sym front))

-- whether the last line is that of the digest of what is before it
module _ (text : List ℕ) (size n : ℕ) (digest line wanted : List ℕ) (size_is : size ≡ length text) (n_is : n ≡ size - 72) (long : 72 ≤ size) (short : size < 2 ^ 61)
    (hashed : digest ≡ sha256 (take n text)) (line_is : line ≡ take 72 (drop n text)) (wanted_is : wanted ≡ codes "digest " ++ encode_lower digest ++ 10 ∷ []) where
  parts : length text ≡ n + 72
  parts = omega (arith, size_is, n_is, long)

  whole_line : line ≡ drop n text
  whole_line = line_is ∙ take_all 72 (drop n text) (omega (arith, length-drop n text, parts))

  wanted_line : wanted ≡ digest_line (take n text)
  wanted_line = wanted_is ∙ ap (λ d. codes "digest " ++ encode_lower d ++ 10 ∷ []) hashed

  pub equal_seals : line ≡ wanted → IsSealed text
  equal_seals e = seals text n parts (omega (arith, short, size_is)) (sym whole_line ∙ e ∙ wanted_line)

  pub sealed_equal : IsSealed text → line ≡ wanted
  sealed_equal s = whole_line ∙ seal_is text n parts s ∙ sym wanted_line
