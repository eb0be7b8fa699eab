-- Vectors with coprime entries that are sums of one vector: a list of equal terms has a multiple of the term as its sum.
use Rattle.std.proofs.Common.{◌≡◌, ℕ, List, [], ◌∷◌, length, replicate, ap, sym, ◌∙◌}
use Rattle.std.specs.Prelude.{ℤ, pos}
use Rattle.std.specs.List.{AllByRecursion}
use Rattle.int_vector.specs.Operations.{add, total}
use Rattle.circuit_tool.specs.Circuits.{scaled}
use Rattle.circuit_tool.proofs.Scaling.{add-scaled, scaled_nothing}

pub total_of_one : (n : ℕ) (v : List ℤ) (terms : List (List ℤ)) → length v ≡ n → AllByRecursion (λ u. u ≡ v) terms → total n terms ≡ scaled (pos (length terms)) v
total_of_one n v [] l h = ap (λ k. replicate k (pos 0)) (sym l) ∙ scaled_nothing v
total_of_one n v (u ∷ terms) l h =
    ap (λ w. add w (total n terms)) h.0 ∙ ap (add v) (total_of_one n v terms l h.1) ∙ add-scaled (length terms) v
