-- Feasible points, the steps between them, and optimal points.
use Rattle.std.specs.Prelude.{◌≡◌, ◌≤◌, ℕ, List, [], ◌∷◌, ◌++◌, ℤ, pos, ◌*ℤ◌, ◌≤ℤ◌, ◌<ℤ◌, map, Option, None, Some}
use Rattle.std.specs.List.{AllZip, AllByRecursion}
use Rattle.int_vector.specs.Operations.{add}
use Rattle.int_vector.specs.Vectors.{dot, negated}

-- each entry of x is from 0 to its bound
abbrev pub IsWithinBounds : List ℤ → List ℤ → Type 0
IsWithinBounds upper x = AllZip (λ u a. (pos 0 ≤ℤ a) × (a ≤ℤ u)) upper x

-- c times a vector
abbrev pub times : ℕ → List ℤ → List ℤ
times c g = map (λ a. pos c *ℤ a) g

-- one step along g stays within the bounds, and the cost falls
pub record Helps (upper cost x g : List ℤ) : Type 0 where
  pub within : IsWithinBounds upper (add x g)
  pub cheaper : dot cost g <ℤ pos 0

-- the rows in order, each followed by its negative
abbrev pub candidates : List (List ℤ) → List (List ℤ)
candidates [] = []
candidates (g ∷ rows) = g ∷ negated g ∷ candidates rows

-- none of them helps at x
abbrev pub NoneHelps : List ℤ → List ℤ → List ℤ → List (List ℤ) → Type 0
NoneHelps upper cost x vectors = AllByRecursion (λ g. Helps upper cost x g → ⊥) vectors

-- g is the first that helps at x
pub record IsFirstToHelp (upper cost x : List ℤ) (vectors : List (List ℤ)) (g : List ℤ)
    : Type 0 where
  pub before : List (List ℤ)
  pub after : List (List ℤ)
  pub place : vectors ≡ before ++ (g ∷ after)
  pub none_before : NoneHelps upper cost x before
  pub helps : Helps upper cost x g

-- none helps, or that is the first that does
abbrev pub FirstHelp : List ℤ → List ℤ → List ℤ → List (List ℤ) → Option (List ℤ) → Type 0
FirstHelp upper cost x vectors None = NoneHelps upper cost x vectors
FirstHelp upper cost x vectors (Some g) = IsFirstToHelp upper cost x vectors g

-- c is the greatest number of times that g can be added to x within the bounds
pub record IsGreatest (upper x g : List ℤ) (c : ℕ) : Type 0 where
  pub within : IsWithinBounds upper (add x (times c g))
  pub most : (d : ℕ) → IsWithinBounds upper (add x (times d g)) → d ≤ c

-- a vector, and how often it is added
pub record Step : Type 0 where
  pub count : ℕ
  pub by : List ℤ

-- as a row: how often, and the vector
abbrev pub step_rows : List Step → List (List ℤ)
step_rows steps = map (λ s. pos s.count ∷ s.by) steps

abbrev pub after_step : List ℤ → Step → List ℤ
after_step x s = add x (times s.count s.by)

-- the step at x: along the first candidate that helps, as far as the bounds allow
pub record IsStep (upper cost : List ℤ) (set : List (List ℤ)) (x : List ℤ) (s : Step) : Type 0 where
  pub first : IsFirstToHelp upper cost x (candidates set) s.by
  pub greatest : IsGreatest upper x s.by s.count

-- these steps, one after another, lead from x to y
abbrev pub IsPath : List ℤ → List ℤ → List (List ℤ) → List ℤ → List Step → List ℤ → Type 0
IsPath upper cost set x [] y = x ≡ y
IsPath upper cost set x (s ∷ steps) y =
    IsStep upper cost set x s × IsPath upper cost set (after_step x s) steps y

-- each of these steps from x lowers the cost
abbrev pub IsFalling : List ℤ → List ℤ → List Step → Type 0
IsFalling cost x [] = Unit {0}
IsFalling cost x (s ∷ steps) =
    (dot cost (after_step x s) <ℤ dot cost x) × IsFalling cost (after_step x s) steps

-- no whole vector within the bounds, with the same products with the rows, has a lower cost
abbrev pub IsOptimal : List (List ℤ) → List ℤ → List ℤ → List ℤ → Type 0
IsOptimal rows upper cost x =
    (y : List ℤ)
    → IsWithinBounds upper y
    → AllByRecursion (λ r. dot r y ≡ dot r x) rows
    → dot cost x ≤ℤ dot cost y

-- y is within the bounds and has the products of x with the rows, and no other such vector has a
-- lower cost
pub record IsOptimalFrom (rows : List (List ℤ)) (upper cost x y : List ℤ) : Type 0 where
  pub within : IsWithinBounds upper y
  pub same : AllByRecursion (λ r. dot r y ≡ dot r x) rows
  pub least : (z : List ℤ) → IsWithinBounds upper z → AllByRecursion (λ r. dot r z ≡ dot r x) rows
      → dot cost y ≤ℤ dot cost z
