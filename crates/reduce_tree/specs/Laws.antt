-- Laws on signatures, and on pools that a tree fits.
use Rattle.std.specs.Prelude.{◌≡◌, ℕ, ◌<◌, List, ◌++◌, ℤ, take}
use Rattle.std.specs.List.{AllByRecursion}
use Rattle.int_vector.specs.Vectors.{◌⊑◌}
use Rattle.row_pool.specs.Rows.{PoolValue}
use Rattle.reduce_tree.specs.Bits.{IsPartOf}
use Rattle.reduce_tree.specs.Signatures.{signature_of}
use Rattle.reduce_tree.specs.Tree.{TreeValue, Fits, places_of}

-- the signature of a row below another is part of the other's
abbrev pub SignaturesArePart : Type 0
SignaturesArePart =
    (levels : ℕ) (u v : List ℤ) → u ⊑ v → IsPartOf (signature_of levels u) (signature_of levels v)

-- a tree that fits a pool fits it with more rows
abbrev pub FitsGrown : Type 0
FitsGrown =
    (t : TreeValue) (p q : PoolValue) (more : List (List ℤ)) → Fits t p
    → q.width ≡ p.width → q.rows ≡ p.rows ++ more → Fits t q

-- and with fewer, where it holds none of those that are gone
abbrev pub FitsCut : Type 0
FitsCut =
    (t : TreeValue) (p q : PoolValue) (n : ℕ) → Fits t p
    → AllByRecursion (λ i. i < n) (places_of t)
    → q.width ≡ p.width → q.rows ≡ take n p.rows → Fits t q
