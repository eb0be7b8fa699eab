-- Reading a file piece by piece.
use Rattle.std.proofs.Common.{◌≡◌, ◌≢◌, ◌≤◌, ◌+◌, ◌-◌, ◌⊎◌, inl, inr, ℕ, Bool, true, false, Option, Some, None, List, ◌++◌, length, take, drop, sym, ap, subst, ◌∙◌, arith, IfSome, length-append}
use Rattle.std.proofs.lemmas.List.{length-take, length-take-le, length-drop, take_all}
use Rattle.std.proofs.lemmas.Option.{IfSome_then}
use Rattle.std.proofs.Math.Seq.{take-add}
use Rattle.outside.specs.Files.{Files, bytes_of, ReadsFrom}
use Rattle.outside.specs.Reading.{ReadsMore}

length_piece : (n : ℕ) (buf file : List ℕ) (at : ℕ) → take n buf ≡ take n (drop at file) → at + n ≤ length file → length (take n buf) ≡ n
length_piece n buf file at e h = ap length e ∙ length-take-le n (drop at file) (omega (arith, length-drop at file))

-- a front and the next piece are a longer front
pub front_more : (file buf old new : List ℕ) (n : ℕ) → take n buf ≡ take n (drop (length old) file) → length old + n ≤ length file → new ≡ old ++ take n buf →
    old ≡ take (length old) file → new ≡ take (length new) file
front_more file buf old new n bytes fits is front =
    let len : length new ≡ length old + n = ap length is ∙ length-append old (take n buf) ∙ ap (λ k. length old + k) (length_piece n buf file (length old) bytes fits) in
    is ∙ ap (λ xs. xs ++ take n buf) front ∙ ap (λ ys. take (length old) file ++ ys) bytes
    ∙ sym (take-add (length old) n file) ∙ ap (λ k. take k file) (sym len)

more_of : (file buf old new : List ℕ) (at n : ℕ) → at ≡ length old → n ≢ 0 → new ≡ old ++ take n buf → ReadsFrom file at n buf → ReadsMore file old new true
more_of file buf old new at n here some is from =
    let fits : length old + n ≤ length file = elim from.there [ inl h ↦ omega (arith, h, here) | inr z ↦ absurd (some z) ] in
    let bytes : take n buf ≡ take n (drop (length old) file) = subst (λ k. take n buf ≡ take n (drop k file)) here from.bytes in
    record {
      front = front_more file buf old new n bytes fits is;
      grows = λ _. omega (arith, ap length is, length-append old (take n buf), length_piece n buf file (length old) bytes fits);
      ends = λ e. cc;
    }

-- a read that gave bytes
pub reads_more : (held : Option Files) (name : List ℕ) (at n : ℕ) (buf old new : List ℕ) → at ≡ length old → n ≢ 0 → new ≡ old ++ take n buf →
    IfSome held (λ files. ReadsFrom (bytes_of files name) at n buf) → IfSome held (λ files. ReadsMore (bytes_of files name) old new true)
reads_more held name at n buf old new here some is from = IfSome_then held from (λ files f. more_of (bytes_of files name) buf old new at n here some is f)

-- what was read is a front of the file, of a byte for each turn at least
pub record IsFront (file items : List ℕ) (turns : ℕ) : Type 0 where
  pub front : items ≡ take (length items) file
  pub keeps_up : turns ≤ length items

pub front_step : (held now : Option Files) (name old new : List ℕ) (turns : ℕ) (b : Bool) → now ≡ held → b ≡ true →
    IfSome held (λ files. IsFront (bytes_of files name) old turns) → IfSome now (λ files. ReadsMore (bytes_of files name) old new b) →
    IfSome held (λ files. IsFront (bytes_of files name) new (turns + 1))
front_step None now name old new turns b same t front more = tt
front_step (Some files) now name old new turns b same t front more =
    let m : ReadsMore (bytes_of files name) old new b = subst (λ h. IfSome h (λ fs. ReadsMore (bytes_of fs name) old new b)) same more in
    record { front = m.front front.front; keeps_up = omega (arith, m.grows t, front.keeps_up) }

-- a front as long as the file is the file
pub front_whole : (held : Option Files) (name items : List ℕ) (turns len : ℕ) → len ≤ turns ⊎ len ≤ length items →
    IfSome held (λ files. IsFront (bytes_of files name) items turns) → IfSome held (λ files. len ≡ length (bytes_of files name) → items ≡ bytes_of files name)
front_whole held name items turns len enough front =
    IfSome_then held front (λ files f e. f.front ∙ take_all (length items) (bytes_of files name)
    (elim enough [ inl h ↦ omega (arith, h, e, f.keeps_up) | inr h ↦ omega (arith, h, e) ]))

-- a front behind which no byte was read is the file
pub front_end : (held now : Option Files) (name old new : List ℕ) (turns len : ℕ) (b : Bool) → now ≡ held → b ≡ false →
    IfSome held (λ files. IsFront (bytes_of files name) old turns) → IfSome now (λ files. ReadsMore (bytes_of files name) old new b) →
    IfSome held (λ files. len ≡ length (bytes_of files name) → new ≡ bytes_of files name)
front_end None now name old new turns len b same f front more = tt
front_end (Some files) now name old new turns len b same f front more =
    let m : ReadsMore (bytes_of files name) old new b = subst (λ h. IfSome h (λ fs. ReadsMore (bytes_of fs name) old new b)) same more in
    λ e. (m.ends f).0 ∙ front.front ∙ take_all (length old) (bytes_of files name) (m.ends f).1

-- with a piece that is no longer than what is left, the bytes stay within the length
pub within_piece : (len old new room : ℕ) (piece : List ℕ) → room ≤ len - old → old ≤ len → new ≤ old + length (take room piece) → new ≤ len
within_piece len old new room piece fits before after = omega (arith, length-take room piece)
