-- Supports, circuits, and the rows of a set that have least support.
use Rattle.std.specs.Prelude.{◌≡◌, ◌≤◌, ℕ, List, ℤ, pos, ◌*ℤ◌, map, IsTrue}
use Rattle.std.specs.List.{AllZip, Contains}
use Rattle.int_vector.specs.Vectors.{IsZero, lex_cmp, leads_negative}
use Rattle.lift_core.specs.Lists.{IsListOf}
use Rattle.system_files.specs.Kernel.{IsKernelVector}

-- the support of a vector is the columns where it is not 0: u's is within v's where u is 0 in each
-- column in which v is
abbrev pub IsWithinSupport : List ℤ → List ℤ → Type 0
IsWithinSupport u v = AllZip (λ x y. y ≡ pos 0 → x ≡ pos 0) u v

-- and v's is not within u's
pub record IsStrictlyWithin (u v : List ℤ) : Type 0 where
  pub within : IsWithinSupport u v
  pub less : IsWithinSupport v u → ⊥

abbrev pub scaled : ℤ → List ℤ → List ℤ
scaled a v = map (λ x. a *ℤ x) v

-- a nonzero vector of the kernel, with no other nonzero one's support strictly inside its own,
-- whose entries have no common divisor above 1
pub record IsCircuit (n : ℕ) (rows : List (List ℤ)) (u : List ℤ) : Type 0 where
  pub vector : IsKernelVector n rows u
  pub nonzero : ¬ IsZero u
  pub least : (w : List ℤ) → IsKernelVector n rows w → ¬ IsZero w → IsStrictlyWithin w u → ⊥
  pub coprime : (d : ℕ) (w : List ℤ) → u ≡ scaled (pos d) w → d ≤ 1

-- a nonzero row of the set, with no other nonzero row's support strictly inside its own
pub record IsLeastRow (set : List (List ℤ)) (u : List ℤ) : Type 0 where
  pub there : Contains set u
  pub nonzero : ¬ IsZero u
  pub least : (w : List ℤ) → Contains set w → ¬ IsZero w → IsStrictlyWithin w u → ⊥

-- the one ascending list of them
abbrev pub AreLeastRows : List (List ℤ) → List (List ℤ) → Type 0
AreLeastRows set rows = IsListOf lex_cmp (IsLeastRow set) rows

-- the one ascending list of the circuits that do not lead negative: one of each and its negative
abbrev pub AreCircuits : ℕ → List (List ℤ) → List (List ℤ) → Type 0
AreCircuits n rows circuits =
    IsListOf lex_cmp (λ u. IsCircuit n rows u × (IsTrue (leads_negative u) → ⊥)) circuits
