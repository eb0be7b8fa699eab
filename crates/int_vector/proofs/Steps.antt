-- The steps of the loops that sum: the norm and the product of the first i + 1 entries, from those of the first i.
use Rattle.std.proofs.Common.{◌≡◌, ℕ, zero, suc, ◌+◌, ◌≤◌, ◌<◌, List, [], ◌∷◌, length, get_or, take, arith}
use Rattle.std.specs.Prelude.{ℤ, nat_abs, ◌+ℤ◌, ◌*ℤ◌}
use Rattle.std.proofs.lemmas.Int.{ints}
use borrow.Author.Differences.{same_in}
use Rattle.int_vector.specs.Vectors.{norm, dot}

pub norm_more : (v : List ℤ) (i : ℕ) (d : ℤ) → i < length v → norm (take (i + 1) v) ≡ norm (take i v) + nat_abs (get_or v i d)
norm_more [] i d h = absurd (omega arith)
norm_more (x ∷ v) zero d h = omega arith
norm_more (x ∷ v) (suc i) d h = let n : suc i + 1 ≡ suc (i + 1) = omega arith in rw n (omega (arith, norm_more v i d (omega arith)))

pub norm_more_le : (v : List ℤ) (i : ℕ) (d : ℤ) → i < length v → nat_abs (get_or v i d) + norm (take i v) ≤ norm v
norm_more_le [] i d h = absurd (omega arith)
norm_more_le (x ∷ v) zero d h = omega arith
norm_more_le (x ∷ v) (suc i) d h = omega (arith, norm_more_le v i d (omega arith))

pub dot_more : (a v : List ℤ) (i : ℕ) (c d : ℤ) → length a ≡ length v → i < length v → dot (take (i + 1) a) (take (i + 1) v) ≡ dot (take i a) (take i v) +ℤ (get_or a i c *ℤ get_or v i d)
dot_more [] [] i c d e h = absurd (omega arith)
dot_more [] (y ∷ v) i c d e h = absurd (omega arith)
dot_more (x ∷ a) [] i c d e h = absurd (omega arith)
dot_more (x ∷ a) (y ∷ v) zero c d e h = omega (arith, ints)
dot_more (x ∷ a) (y ∷ v) (suc i) c d e h =
    let n : suc i + 1 ≡ suc (i + 1) = omega arith in
    let r : dot (take (i + 1) a) (take (i + 1) v) ≡ dot (take i a) (take i v) +ℤ (get_or a i c *ℤ get_or v i d) = dot_more a v i c d (omega arith) (omega arith) in
    rw (n, r) (same_in (x *ℤ y +ℤ (dot (take i a) (take i v) +ℤ (get_or a i c *ℤ get_or v i d))) (x *ℤ y +ℤ dot (take i a) (take i v) +ℤ (get_or a i c *ℤ get_or v i d)) (omega (arith, ints)))
