-- The words but the first, taken one after another.
use Rattle.std.proofs.Common.{◌≡◌, ℕ, ◌+◌, ◌<◌, List, [], ◌∷◌, ◌++◌, length, Some, ap, suc, sym, subst, arith, ◌∙◌, get_or, append_assoc}
use Rattle.std.specs.Prelude.{drop, slice_get, unwrap_or, Option}
use Rattle.std.proofs.Math.Seq.{drop-cons}
use Rattle.std.proofs.lemmas.Option.{unwrap_or-slice_get}

pub one_more : (words rest new : List (List ℕ)) (i : ℕ) (w : List ℕ) → i < length words → slice_get words i ≡ Some w → new ≡ rest ++ w ∷ [] → rest ++ drop i words ≡ drop 1 words
    → new ++ drop (i + 1) words ≡ drop 1 words
one_more words rest new i w l at is h =
    let more : suc i ≡ i + 1 = omega arith in
    let next : drop i words ≡ get_or words i [] ∷ drop (i + 1) words = subst (λ (n : ℕ). drop i words ≡ get_or words i [] ∷ drop n words) more (drop-cons words i [] l) in
    let got : w ∷ drop (i + 1) words ≡ drop i words = ap (λ (x : List ℕ). x ∷ drop (i + 1) words) (sym (ap (λ (o : Option (List ℕ)). unwrap_or o []) at) ∙ unwrap_or-slice_get words i []) ∙ sym next in
    ap (λ (n : List (List ℕ)). n ++ drop (i + 1) words) is ∙ append_assoc rest (w ∷ []) (drop (i + 1) words) ∙ ap (λ (t : List (List ℕ)). rest ++ t) got ∙ h
