-- The line of a word and counts, as a line of cells.
use Rattle.std.proofs.Common.{◌≡◌, ◌≢◌, ◌<◌, ◌≤◌, ℕ, suc, List, [], ◌∷◌, ◌++◌, length, take, get_or, refl, sym, ap, ap₂, subst₂, ◌∙◌, arith, append_assoc, Option, Some, None, true}
use Rattle.std.specs.Prelude.{ℤ, pos, nat_abs, int_lt, map, decimal, codes, MatchOption}
use Rattle.std.specs.List.{AllByRecursion, All}
use Rattle.lift_core.specs.Systems.{ToolSystem}
use Rattle.restart_file.specs.Reading.{IsStagePlace, is_place_line}
use Rattle.std.proofs.lemmas.Int.{ints}
use Rattle.std.proofs.lemmas.List.{take_all, length-map, get_or-map}
use Rattle.int_vector.specs.Range.{InRange}
use Rattle.int_vector.specs.Vectors.{largest}
use Rattle.mat_files.specs.Texts.{joined_cells, line_of}
use Rattle.restart_file.specs.Texts.{counts_line, spaced}

spaced_cells : (ns : List ℕ) → spaced (map decimal ns) ≡ joined_cells (map pos ns)
spaced_cells [] = refl
spaced_cells (n ∷ []) = refl
spaced_cells (n ∷ m ∷ ns) = ap (λ t. decimal n ++ 32 ∷ t) (spaced_cells (m ∷ ns))

pub counts_as_cells : (word : List ℕ) (ns : List ℕ) → counts_line word ns ≡ word ++ line_of (map pos ns)
counts_as_cells word ns = ap (λ t. word ++ t ++ 10 ∷ []) (spaced_cells ns) ∙ append_assoc word (joined_cells (map pos ns)) (10 ∷ [])

pub counts_in_range : (ns : List ℕ) → AllByRecursion (λ n. n ≤ largest) ns → AllByRecursion InRange (map pos ns)
counts_in_range [] h = tt
counts_in_range (n ∷ ns) h = (omega (arith, ints, h.0), counts_in_range ns h.1)

-- a count is not negative
pub no_count_below : (cells : List ℤ) (ns : List ℕ) (i : ℕ) → cells ≡ map pos ns → i < length cells → int_lt (get_or cells i (pos 0)) (pos 0) ≡ true → ⊥
no_count_below cells ns i e inside below =
    let is : get_or cells i (pos 0) ≡ pos (get_or ns i 0) = ap (λ zs. get_or zs i (pos 0)) e ∙ get_or-map pos ns i 0 (pos 0) (omega (arith, inside, ap length e, length-map ns pos)) in
    not_below (get_or ns i 0) (sym (ap (λ z. int_lt z (pos 0)) is) ∙ below)
  where
    not_below : (n : ℕ) → int_lt (pos n) (pos 0) ≡ true → ⊥
    not_below n e = grind (arith, ints, e)

pub same_counts : (ns ms : List ℕ) → map pos ns ≡ map pos ms → ns ≡ ms
same_counts ns ms e = sym (back ns) ∙ ap (map nat_abs) e ∙ back ms
  where
    back : (ks : List ℕ) → map nat_abs (map pos ks) ≡ ks
    back [] = refl
    back (k ∷ ks) = ap (λ xs. k ∷ xs) (back ks)

-- the counts of the cells are no others
pub counts_alone : (cells : List ℤ) (counts ns : List ℕ) (i : ℕ) → take i cells ≡ map pos (take i counts) → length cells ≤ i → length counts ≡ length cells → cells ≡ map pos ns → counts ≡ ns
counts_alone cells counts ns i e all same is =
    same_counts counts ns
    (ap (map pos) (sym (take_all i counts (omega (arith, all, same)))) ∙ sym e ∙ take_all i cells all ∙ is)

pub one_count : (ns : List ℕ) → length ns ≡ 1 → ns ≡ get_or ns 0 0 ∷ []
one_count [] e = absurd (omega (arith, e))
one_count (n ∷ []) e = refl
one_count (n ∷ m ∷ ns) e = absurd (omega (arith, e))

pub two_counts : (ns : List ℕ) → length ns ≡ 2 → ns ≡ get_or ns 0 0 ∷ get_or ns 1 0 ∷ []
two_counts [] e = absurd (omega (arith, e))
two_counts (n ∷ []) e = absurd (omega (arith, e))
two_counts (n ∷ m ∷ []) e = refl
two_counts (n ∷ m ∷ k ∷ ns) e = absurd (omega (arith, e))

pub all_within : (ns : List ℕ) (small most : ℕ) → small ≤ most → AllByRecursion (λ n. n ≤ small) ns → AllByRecursion (λ n. n ≤ most) ns
all_within [] small most l h = tt
all_within (n ∷ ns) small most l h = (omega (arith, h.0, l), all_within ns small most l h.1)

-- the counts of cells are in range
pub counts_small : (ns : List ℕ) → All InRange (map pos ns) → AllByRecursion (λ n. n ≤ largest) ns
counts_small [] h = tt
counts_small (n ∷ ns) h = (omega (arith, ints, h 0 (pos 0) (omega arith)), counts_small ns (λ i d l. h (suc i) d (omega (arith, l))))

-- ---- the place
first_of : List ℕ → ℕ
first_of ns = get_or ns 0 0

second_of : List ℕ → ℕ
second_of ns = get_or ns 1 0

pub place_found : (S : ToolSystem) (line counts : List ℕ) (a b : ℕ) (r : Option (ℕ × ℕ)) → counts ≡ a ∷ b ∷ [] → line ≡ counts_line (codes "place ") counts
    → ((k d : ℕ) → IsStagePlace S k d → line ≡ is_place_line k d → counts ≡ k ∷ d ∷ [])
    → MatchOption r (IsStagePlace S a b → ⊥) (λ p. IsStagePlace S a b × ((p.0 ≡ a) × (p.1 ≡ b)))
    → MatchOption r ((k d : ℕ) → IsStagePlace S k d → line ≢ is_place_line k d) (λ p. IsStagePlace S p.0 p.1 × (line ≡ is_place_line p.0 p.1))
unfolding first_of second_of
place_found S line counts a b None two is only h = λ k d place e.
    let same : (a ∷ b ∷ []) ≡ (k ∷ d ∷ []) = sym two ∙ only k d place e in
    h (subst₂ (λ x y. IsStagePlace S x y) (sym (ap first_of same)) (sym (ap second_of same)) place)
place_found S line counts a b (Some p) two is only h = (
  subst₂ (λ x y. IsStagePlace S x y) (sym h.1.0) (sym h.1.1) h.0,
  is ∙ ap (λ ns. counts_line (codes "place ") ns) (two ∙ ap₂ (λ x y. x ∷ y ∷ []) (sym h.1.0) (sym h.1.1)),
)
