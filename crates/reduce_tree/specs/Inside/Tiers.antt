-- Tiers: branches of one depth, each with the numbers of its kids by class.
use Rattle.std.specs.Prelude.{◌≡◌, ℕ, ◌<◌, List, [], length, slice_index_or}
use Rattle.std.specs.Int.{bit_at}

-- the classes that have a kid, and a number for each class up to the greatest of these
pub record BranchValue : Type 0 where
  pub classes : ℕ
  pub kids : List ℕ

abbrev pub empty_branch : BranchValue
empty_branch = record { classes = 0; kids = [] }

pub record IsKid (branch : BranchValue) (c : ℕ) : Type 0 where
  pub set : bit_at branch.classes c ≡ 1
  pub inside : c < length branch.kids

abbrev pub kid_of : BranchValue → ℕ → ℕ
kid_of branch c = slice_index_or branch.kids c 0

-- each kid stays
abbrev pub KeepsKids : BranchValue → BranchValue → Type 0
KeepsKids old new = (c : ℕ) → IsKid old c → IsKid new c × (kid_of new c ≡ kid_of old c)

abbrev pub branch_at : List BranchValue → ℕ → BranchValue
branch_at tier n = slice_index_or tier n empty_branch

-- branch n has a kid of this class
abbrev pub HasKidAt : List BranchValue → ℕ → ℕ → Type 0
HasKidAt tier n c = (n < length tier) × IsKid (branch_at tier n) c

abbrev pub kid_at : List BranchValue → ℕ → ℕ → ℕ
kid_at tier n c = kid_of (branch_at tier n) c

-- each kid of each branch stays
abbrev pub KeepsSteps : List BranchValue → List BranchValue → Type 0
KeepsSteps old new =
    (n c : ℕ) → HasKidAt old n c → HasKidAt new n c × (kid_at new n c ≡ kid_at old n c)
