-- A file that is begun and appended to piece by piece holds a front of the text, and at the end the whole. `part_begun`
-- and `part_more` lead a loop of appends from its start to its next turn, `part_whole` is its end, and `part_refused`
-- is what a refused append leaves.
use Rattle.std.proofs.Common.{◌≡◌, inl, inr, ℕ, List, [], ◌++◌, length, take, drop, Option, None, Some, refl, sym, ap, ◌∙◌, append_assoc, append-nil}
use Rattle.std.specs.Option.{option_map}
use Rattle.std.specs.FinMap.{insert}
use Rattle.std.proofs.lemmas.List.{take_at, take-append-drop}
use Rattle.outside.specs.Files.{Files, begun, appended, MayAppend, written, MayWrite}
use Rattle.outside.specs.Inside.Writing.{IsPartWritten}
use Rattle.outside.proofs.FileMaps.{bytes_of-insert, insert-insert}

appended-written : (files : Files) (name front piece : List ℕ) → appended name piece (written name front files) ≡ written name (front ++ piece) files
appended-written files name front piece =
    ap (λ bytes. insert (insert files name front) name (bytes ++ piece)) (bytes_of-insert files name front) ∙ insert-insert files name front (front ++ piece)

pub appended-held : (old : Option Files) (name front piece : List ℕ) → option_map (appended name piece) (option_map (written name front) old) ≡ option_map (written name (front ++ piece)) old
appended-held None name front piece = refl
appended-held (Some files) name front piece = ap Some (appended-written files name front piece)

pub part_begun : (name text : List ℕ) (old new : Option Files) → new ≡ option_map (begun name) old → IsPartWritten name text text old new
part_begun name text old new begins = record { front = []; held = begins; whole = refl }

pub part_more : (name text piece rest : List ℕ) (old mid new : Option Files) → IsPartWritten name text (piece ++ rest) old mid → new ≡ option_map (appended name piece) mid → IsPartWritten name text rest old new
part_more name text piece rest old mid new part more = record {
  front = part.front ++ piece;
  held = more ∙ ap (option_map (appended name piece)) part.held ∙ appended-held old name part.front piece;
  whole = append_assoc part.front piece rest ∙ part.whole;
}

pub part_whole : (name text : List ℕ) (old new : Option Files) → IsPartWritten name text [] old new → new ≡ option_map (written name text) old
part_whole name text old new part = part.held ∙ ap (λ front. option_map (written name front) old) (sym (append-nil part.front) ∙ part.whole)

-- where the writing stops, a prefix stands
pub part_stands : (name text rest : List ℕ) (old new : Option Files) → IsPartWritten name text rest old new → MayWrite name text old new
part_stands name text rest old new part =
    inr (length part.front, part.held ∙ ap (λ front. option_map (written name front) old) (sym (take_at part.front rest (length part.front) refl) ∙ ap (take (length part.front)) part.whole))

-- an append that is refused leaves a prefix too
pub part_refused : (name text piece rest : List ℕ) (old mid new : Option Files) → IsPartWritten name text (piece ++ rest) old mid → MayAppend name piece mid new → MayWrite name text old new
part_refused name text piece rest old mid new part (inl same) =
    part_stands name text (piece ++ rest) old new (record { front = part.front; held = same ∙ part.held; whole = part.whole })
part_refused name text piece rest old mid new part (inr more) =
    part_stands name text (drop more.0 piece ++ rest) old new
    (part_more name text (take more.0 piece) (drop more.0 piece ++ rest) old mid new
    (record {
      front = part.front;
      held = part.held;
      whole =
          ap (λ u. part.front ++ u) (sym (append_assoc (take more.0 piece) (drop more.0 piece) rest) ∙ ap (λ u. u ++ rest) (take-append-drop more.0 piece)) ∙ part.whole;
    })
    more.1)
