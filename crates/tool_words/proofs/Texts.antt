-- The words as texts, one by one.
use Rattle.std.proofs.Common.{◌≡◌, ◌+◌, ℕ, List, [], ◌∷◌, ◌++◌, take, slice_get, Some, IsUtf8, ap, ◌∙◌}
use Rattle.std.specs.List.{AllByRecursion}
use Rattle.std.proofs.lemmas.List.{take_more}
use Rattle.std.proofs.lemmas.Option.{slice_get_within, get_or_from_slice_get}

pub all_more : (words : List (List ℕ)) (word : List ℕ) → AllByRecursion IsUtf8 words → IsUtf8 word → AllByRecursion IsUtf8 (words ++ word ∷ [])
all_more [] word all one = (one, tt)
all_more (w ∷ ws) word all one = (all.0, all_more ws word all.1 one)

pub take_next : (words : List (List ℕ)) (i : ℕ) (word : List ℕ) → slice_get words i ≡ Some word → take (i + 1) words ≡ take i words ++ word ∷ []
take_next words i word e =
    take_more words i [] (slice_get_within words i word e) ∙ ap (λ x. take i words ++ x ∷ []) (get_or_from_slice_get words i word [] e)
