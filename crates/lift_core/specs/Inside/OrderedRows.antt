-- Rows behind references, put in lexicographic order.
use Rattle.std.specs.Prelude.{◌↔◌, ◌≤◌, ℤ, List, map, length}
use Rattle.std.specs.Borrow.{Bor}
use Rattle.std.specs.List.{Contains}
use Rattle.std.specs.List.Sorted.{IsStrictlySortedBy}
use Rattle.int_vector.specs.Vectors.{lex_cmp}

-- the rows behind references
abbrev pub rows_behind : List (Bor (List ℤ)) → List (List ℤ)
rows_behind refs = map (λ r. r.now) refs

-- the rows in lexicographic order, each once
pub record IsOrdered (before after : List (List ℤ)) : Type 0 where
  pub ascending : IsStrictlySortedBy lex_cmp after
  pub members : (x : List ℤ) → Contains after x ↔ Contains before x
  pub count : length after ≤ length before
