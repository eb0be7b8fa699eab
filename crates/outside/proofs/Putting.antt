-- Pieces that are put one after another.
use Rattle.std.proofs.Common.{◌≡◌, ◌<◌, ◌≤◌, ◌+◌, ℕ, min, List, ◌++◌, length, take, drop, get_or, Option, None, Some, refl, ap, sym, ◌∙◌, arith, append_assoc}
use Rattle.std.proofs.Common.{inl, inr, ◌⊎◌}
use Rattle.std.proofs.lemmas.Bool.{cases_lt}
use Rattle.std.proofs.lemmas.List.{drop_more, take-append-drop, take-append-le, take_all}
use Rattle.std.proofs.lemmas.List.Concat.{flat_map-append}
use Rattle.std.proofs.Math.Seq.{take-append-add}
use Rattle.std.specs.Borrow.{Bor}
use Rattle.std.specs.Io.KnownBytes.{append_known}
use Rattle.outside.specs.Pieces.{text_of_pieces, MayPut}

-- the text of pieces, split at one of them
split_at : (pieces : List (Bor (List ℕ))) (i : ℕ) (d : Bor (List ℕ)) → i < length pieces →
    text_of_pieces pieces ≡ text_of_pieces (take i pieces) ++ ((get_or pieces i d).now ++ text_of_pieces (drop (i + 1) pieces))
split_at pieces i d h =
    ap text_of_pieces (sym (take-append-drop i pieces))
    ∙ flat_map-append (λ p. p.now) (take i pieces) (drop i pieces)
    ∙ ap (λ r. text_of_pieces (take i pieces) ++ text_of_pieces r) (drop_more pieces i d h)

cases_below : (m n : ℕ) → (m ≤ n) ⊎ (n ≤ m)
cases_below m n = elim (cases_lt m n) [ inl h ↦ inl (omega (arith, h)) | inr h ↦ inr h ]

-- a part of a piece, as at most the whole of it
pub part : (k : ℕ) (piece rest : List ℕ) → take k piece ≡ take (min k (length piece)) (piece ++ rest)
part k piece rest =
    elim (cases_below k (length piece)) [
      | inl h ↦ sym (take-append-le k piece rest h) ∙ ap (λ m. take m (piece ++ rest)) (let e : k ≡ min k (length piece) = omega (arith, h) in e)
      | inr h ↦ take_all k piece h ∙ sym (take_all (length piece) piece (let l : length piece ≤ length piece = omega arith in l))
          ∙ sym (take-append-le (length piece) piece rest (let l : length piece ≤ length piece = omega arith in l))
          ∙ ap (λ m. take m (piece ++ rest)) (let e : length piece ≡ min k (length piece) = omega (arith, h) in e)
    ]

pub known_more : (old : Option (List ℕ)) (front piece : List ℕ) → append_known (append_known old front) piece ≡ append_known old (front ++ piece)
known_more None front piece = refl
known_more (Some bytes) front piece = ap Some (append_assoc bytes front piece)

-- a front of a piece behind whole pieces is a front of the text
pub put_front : (pieces : List (Bor (List ℕ))) (i : ℕ) (d : Bor (List ℕ)) (old mid new : Option (List ℕ)) → i < length pieces →
    mid ≡ append_known old (text_of_pieces (take i pieces)) → MayPut (get_or pieces i d).now mid new → MayPut (text_of_pieces pieces) old new
put_front pieces i d old mid new h front may =
    let before = text_of_pieces (take i pieces) in
    let piece = (get_or pieces i d).now in
    let behind = text_of_pieces (drop (i + 1) pieces) in
    let k = min may.0 (length piece) in (
      length before + k,
      may.1
          ∙ ap (λ (m : Option (List ℕ)). append_known m (take may.0 piece)) front
          ∙ known_more old before (take may.0 piece)
          ∙ ap (λ x. append_known old (before ++ x)) (part may.0 piece behind)
          ∙ ap (append_known old) (sym (take-append-add before (piece ++ behind) k))
          ∙ ap (λ t. append_known old (take (length before + k) t)) (sym (split_at pieces i d h)),
    )
