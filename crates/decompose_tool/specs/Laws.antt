-- The laws of the walk, over the definitions alone.
use Rattle.std.specs.Prelude.{◌≡◌, List, ℤ, length}
use Rattle.std.specs.List.{AllByRecursion, Contains}
use Rattle.int_vector.specs.Vectors.{◌⊑◌, IsZero}
use Rattle.int_vector.specs.Operations.{add, total}
use Rattle.system_shape.specs.Problem.{UserSystem, full_vector, IsUserSolution, IsMinimalForUser}
use Rattle.system_shape.specs.Laws.{IsWellFormed}
use Rattle.decompose_tool.specs.Walks.{Term, IsWalk, multiples, vectors, AreDifferent}

-- the multiples and what is left add up to where the walk began
abbrev pub WalksAddUp : Type 0
WalksAddUp =
    (us : List (List ℤ)) (v : List ℤ) (terms : List Term) (left : List ℤ)
    → IsWalk us v terms left
    → add (total (length v) (multiples terms)) left ≡ v

-- each vector is below that
abbrev pub TermsAreBelow : Type 0
TermsAreBelow =
    (us : List (List ℤ)) (v : List ℤ) (terms : List Term) (left : List ℤ)
    → IsWalk us v terms left
    → AllByRecursion (λ u. u ⊑ v) (vectors terms)

-- and no two are the same
abbrev pub TermsDiffer : Type 0
TermsDiffer =
    (us : List (List ℤ)) (v : List ℤ) (terms : List Term) (left : List ℤ)
    → IsWalk us v terms left
    → AreDifferent (vectors terms)

-- no candidate is below what is left
abbrev pub NothingFits : Type 0
NothingFits =
    (us : List (List ℤ)) (v : List ℤ) (terms : List Term) (left : List ℤ)
    → IsWalk us v terms left
    → AllByRecursion (λ u. u ⊑ left → ⊥) us

-- a walk from a vector has one list of terms, and leaves one vector
abbrev pub WalksAreOne : Type 0
WalksAreOne =
    (us : List (List ℤ)) (v left left' : List ℤ) (terms terms' : List Term)
    → IsWalk us v terms left
    → IsWalk us v terms' left'
    → (terms ≡ terms') × (left ≡ left')

-- where the candidates are full vectors of the user's solutions, and those of all minimal ones are
-- among them, the walk from the full vector of a solution leaves nothing
abbrev pub NothingIsLeft : Type 0
NothingIsLeft =
    (U : UserSystem) (c : ℤ) (x : List ℤ) (us : List (List ℤ)) (terms : List Term) (left : List ℤ)
    → IsWellFormed U
    → IsUserSolution U c x
    → AllByRecursion
    (λ u. (d : ℤ) × (y : List ℤ) × IsUserSolution U d y × (u ≡ full_vector U d y)) us
    → ((d : ℤ) (y : List ℤ) → IsMinimalForUser U d y → Contains us (full_vector U d y))
    → IsWalk us (full_vector U c x) terms left → IsZero left
