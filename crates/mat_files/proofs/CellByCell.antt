-- Reading the cells of a table one by one: what is read and what is left give what the whole gives.
use Rattle.std.proofs.Common.{◌≡◌, ◌<◌, ◌+◌, ◌-◌, ℕ, suc, List, [], ◌∷◌, ◌++◌, Result, Ok, Err, refl, sym, ap, ◌∙◌, arith, append_assoc}
use Rattle.mat_files.specs.Words.{Word}
use Rattle.mat_files.specs.Tables.{cells_at, ◌>>=◌}
use Rattle.mat_files.specs.declared.faults.TextFault.{TextFault}

-- cells that were read before those of the result
abbrev pub with_front : {C : Type 0} → List C → Result (List C) TextFault → Result (List C) TextFault
with_front front read = read >>= λ xs. Ok (front ++ xs)

next_cell : {C : Type 0} (cell_at : Word → Result C TextFault) (front : List C) (n len : ℕ) (x : C) (w : Word) (ws : List Word) → cell_at w ≡ Ok x →
    with_front front (cells_at cell_at (suc n) len (w ∷ ws)) ≡ with_front (front ++ x ∷ []) (cells_at cell_at n len ws)
next_cell {C} cell_at front n len x w ws e =
    ap (λ (r : Result C TextFault). with_front front (r >>= λ y. cells_at cell_at n len ws >>= λ ys. Ok (y ∷ ys))) e ∙ rest (cells_at cell_at n len ws) where
      rest : (read : Result (List C) TextFault) → with_front front (read >>= λ ys. Ok (x ∷ ys)) ≡ with_front (front ++ x ∷ []) read
      rest (Ok ys) = ap Ok (sym (append_assoc front (x ∷ []) ys))
      rest (Err f) = refl

-- one more cell moves to the front
pub front_more : {C : Type 0} (cell_at : Word → Result C TextFault) (front cells : List C) (n i len : ℕ) (x : C) (w : Word) (all ws : List Word) (whole : Result (List C) TextFault) →
    i < n → Ok x ≡ cell_at w → all ≡ w ∷ ws → cells ≡ front ++ x ∷ [] → with_front front (cells_at cell_at (n - i) len all) ≡ whole →
    with_front cells (cells_at cell_at (n - (i + 1)) len ws) ≡ whole
front_more cell_at front cells n i len x w all ws whole below e words is before =
    ap (λ cs. with_front cs (cells_at cell_at (n - (i + 1)) len ws)) is
    ∙ sym (next_cell cell_at front (n - (i + 1)) len x w ws (sym e))
    ∙ ap (λ k. with_front front (cells_at cell_at k len (w ∷ ws))) (let k : suc (n - (i + 1)) ≡ n - i = omega arith in k)
    ∙ ap (λ us. with_front front (cells_at cell_at (n - i) len us)) (sym words)
    ∙ before
