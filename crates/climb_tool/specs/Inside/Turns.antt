-- A vector or its negative.
use Rattle.std.specs.Prelude.{Bool, true, false, List, ℤ, neg_ℤ}
use Rattle.int_vector.specs.Vectors.{negated}
use Rattle.climb_tool.specs.declared.candidates.Candidate.{Candidate}

abbrev pub turned_entry : Bool → ℤ → ℤ
turned_entry true a = neg_ℤ a
turned_entry false a = a

abbrev pub turned : Bool → List ℤ → List ℤ
turned true v = negated v
turned false v = v

-- the vector that a candidate is
abbrev pub vector_of : Candidate → List ℤ
vector_of c = turned c.negative c.vector.now
