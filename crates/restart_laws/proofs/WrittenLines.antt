-- Each line of a restart text is a line: LF stands at its end alone, and it is not too long.
use Rattle.std.proofs.Common.{◌≡◌, ◌≤◌, ◌*◌, ℕ, suc, List, [], ◌∷◌, ◌++◌, length, Bool, true, false, cond, refl, sym, ap, subst, arith, append_assoc, length-append, eqb}
use Rattle.std.specs.Prelude.{ℤ, pos, negsuc, map}
use Rattle.std.specs.Fmt.{signed_decimal}
use Rattle.std.specs.List.{AllByRecursion}
use Rattle.std.proofs.lemmas.Fmt.{length-decimal-le}
use Rattle.std.proofs.lemmas.List.{length-map}
use Rattle.int_vector.specs.Range.{InRange}
use Rattle.int_vector.specs.Vectors.{largest}
use Rattle.mat_files.specs.Words.{is_blank}
use Rattle.mat_files.specs.Texts.{joined_cells, line_of}
use Rattle.mat_files.proofs.PrintedNumbers.{word-signed_decimal}
use Rattle.restart_file.specs.Texts.{counts_line}
use Rattle.restart_file.specs.Reading.{IsLine}
use Rattle.restart_file.specs.Inside.Windows.{IsPlain}
use Rattle.restart_file.proofs.CountLines.{counts_as_cells, counts_in_range}

-- ---- bytes without LF
pub plain_both : (a b : List ℕ) → IsPlain a → IsPlain b → IsPlain (a ++ b)
plain_both [] b p q = q
plain_both (x ∷ a) b p q = (p.0, plain_both a b p.1 q)

plain_solid : (bs : List ℕ) → AllByRecursion (λ b. is_blank b ≡ false) bs → IsPlain bs
plain_solid [] h = tt
plain_solid (b ∷ bs) h =
    (λ e. (let f : is_blank b ≡ true = ap is_blank e in cc), plain_solid bs h.1)

abbrev has_no_end : List ℕ → Bool
has_no_end [] = true
has_no_end (b ∷ bs) = cond (eqb b 10) false (has_no_end bs)

both_of : (t r : Bool) → cond t false r ≡ true → (t ≡ false) × (r ≡ true)
both_of true r e = absurd cc
both_of false r e = (refl, e)

pub plain_word : (bs : List ℕ) → has_no_end bs ≡ true → IsPlain bs
plain_word [] e = tt
plain_word (b ∷ bs) e =
    let r : (eqb b 10 ≡ false) × (has_no_end bs ≡ true) = both_of (eqb b 10) (has_no_end bs) e in
    ((λ q. (let f : eqb b 10 ≡ true = ap (λ (x : ℕ). eqb x 10) q in cc)), plain_word bs r.1)

pub line_made : (text : List ℕ) → IsPlain text → length text ≤ 4095 → IsLine (text ++ 10 ∷ [])
line_made text p h = record {
  text = text;
  ended = refl;
  one = p;
  short = omega (arith, h, length-append text (10 ∷ []));
}

-- ---- cells
pub cell_plain : (z : ℤ) → InRange z → IsPlain (signed_decimal z)
cell_plain z h = plain_solid (signed_decimal z) (word-signed_decimal z (omega (arith, h))).solid

pub cell_length : (z : ℤ) → InRange z → length (signed_decimal z) ≤ 20
cell_length (pos n) h =
    omega (arith, length-decimal-le 19 n (omega arith) (omega (arith, h)) (omega (arith, h)))
cell_length (negsuc n) h =
    omega (arith, length-decimal-le 19 (suc n) (omega arith) (omega (arith, h)) (omega (arith, h)))

cells_plain : (zs : List ℤ) → AllByRecursion InRange zs → IsPlain (joined_cells zs)
cells_plain [] h = tt
cells_plain (z ∷ []) h = cell_plain z h.0
cells_plain (z ∷ y ∷ zs) h =
    plain_both (signed_decimal z) (32 ∷ joined_cells (y ∷ zs)) (cell_plain z h.0)
    ((λ e. omega (arith, e)), cells_plain (y ∷ zs) h.1)

cells_length : (zs : List ℤ) → AllByRecursion InRange zs
    → length (joined_cells zs) ≤ 21 * length zs
cells_length [] h = omega arith
cells_length (z ∷ []) h = omega (arith, cell_length z h.0)
cells_length (z ∷ y ∷ zs) h =
    omega (
      arith,
      length-append (signed_decimal z) (32 ∷ joined_cells (y ∷ zs)),
      cell_length z h.0,
      cells_length (y ∷ zs) h.1,
    )

pub cells_line : (word : List ℕ) (zs : List ℤ) → IsPlain word → length word ≤ 20
    → AllByRecursion InRange zs → length zs ≤ 130 → IsLine (word ++ line_of zs)
cells_line word zs p w h n =
    subst (λ (t : List ℕ). IsLine t) (append_assoc word (joined_cells zs) (10 ∷ []))
    (line_made (word ++ joined_cells zs) (plain_both word (joined_cells zs) p (cells_plain zs h))
    (omega (arith, length-append word (joined_cells zs), cells_length zs h, w, n)))

pub counts_line_made : (word ns : List ℕ) → IsPlain word → length word ≤ 20
    → AllByRecursion (λ n. n ≤ largest) ns → length ns ≤ 130 → IsLine (counts_line word ns)
counts_line_made word ns p w h n =
    subst (λ (t : List ℕ). IsLine t) (sym (counts_as_cells word ns))
    (cells_line word (map pos ns) p w (counts_in_range ns h) (omega (arith, length-map ns pos, n)))
