-- A walk closes at most as many norms as its limit of pairs and the rows that wait in its stages.
-- The next norm is that of a waiting row, which then waits no longer, or of a pair, which is then used; and no more pairs are used than the limit.
use Rattle.std.proofs.Common.{◌≡◌, ℕ, ◌+◌, ◌≤◌, ◌<◌, min, List, length, refl, arith, inl, inr, ◌⊎◌, not, eqb, eq-eqb}
use Rattle.std.specs.Prelude.{ℤ, map}
use Rattle.std.specs.List.{Contains, filter}
use Rattle.std.proofs.lemmas.List.{length-map}
use Rattle.std.proofs.lemmas.List.Filters.{length-filter_both}
use Rattle.lift_core.specs.Systems.{LinearSystem, row}
use Rattle.lift_core.specs.Stages.{extend, stage_norm, IsNextNorm}
use Rattle.lift_core.specs.Ends.{Limits, End}
use Rattle.lift_core.specs.Walks.{WalkEnds, walk_norm_overflow, walk_pairs_spent, walk_rows_spent, walk_closing, walk_row_overflow, walk_next_stage, walk_finish, solutions_in, still_waiting, used_up_to}
use Rattle.lift_core.proofs.Orders.{in_filter}
use Rattle.stage_store.specs.Classes.{pairs_of}
use Rattle.stage_store.proofs.Numbering.{numbered}
use Rattle.stage_store.proofs.Used.{used_to_next}
use Rattle.lift_run.specs.Counts.{closed_norms, later_waiting}

-- the rows of norm e and those that wait on are all that wait
waits_apart : (e : ℕ) (waiting : List (List ℤ)) → length (filter (λ z. eqb (stage_norm z) e) waiting) + length (still_waiting e waiting) ≡ length waiting
waits_apart e waiting = length-filter_both (λ z. eqb (stage_norm z) e) (λ z. not (eqb (stage_norm z) e)) (λ z. refl) waiting

-- at the next norm a row waits no longer, or a pair is used
progress : (listed waiting : List (List ℤ)) (d e : ℕ) → IsNextNorm listed waiting d e → (length (still_waiting e waiting) < length waiting) ⊎ (0 < length (pairs_of listed e))
progress listed waiting d e next = elim next.occurs [
  | inl w ↦
      let here : Contains (filter (λ z. eqb (stage_norm z) e) waiting) w.0 = in_filter (λ z. eqb (stage_norm z) e) waiting w.0 w.1.waits (eq-eqb (stage_norm w.0) e w.1.norm_is) in
      inl (omega (arith, waits_apart e waiting, here.1))
  | inr p ↦
      let here : Contains (pairs_of listed e) (p.0, p.1) = (numbered listed e p.0 p.1).1 (p.2, p.3) in
      inr (omega (arith, here.1))
]

pub bounded : (S : LinearSystem) (limits : Limits) {k d used : ℕ} {listed waiting : List (List ℤ)} {end : End} (walk : WalkEnds S limits k d used listed waiting end)
    → closed_norms S limits walk + min used limits.pairs ≤ limits.pairs + (length waiting + later_waiting S limits walk)
bounded S limits (walk_norm_overflow next large) = omega arith
bounded S limits (walk_pairs_spent next small over) = omega arith
bounded S limits (walk_rows_spent grown next small fits g over) = omega arith
bounded S limits {k} {d} {used} {listed} {waiting} (walk_closing {e} grown next small fits g room rest) =
    let later : closed_norms S limits rest + min (used_up_to used listed d e) limits.pairs ≤ limits.pairs + (length (still_waiting e waiting) + later_waiting S limits rest) = bounded S limits rest in
    let more : used_up_to used listed d e ≡ used + length (pairs_of listed e) = used_to_next listed waiting d e used next in
    elim (progress listed waiting d e next) [
      | inl fewer ↦ omega (arith, fits)
      | inr some ↦ omega (arith, fits, waits_apart e waiting)
    ]
bounded S limits (walk_row_overflow none more found) = omega arith
bounded S limits {k} {d} {used} {listed} {waiting} (walk_next_stage none more found rest) =
    let later : closed_norms S limits rest + min used limits.pairs ≤ limits.pairs + (length (map (extend (row S (k + 1))) (solutions_in listed)) + later_waiting S limits rest) = bounded S limits rest in
    omega (arith, length-map (solutions_in listed) (extend (row S (k + 1))))
bounded S limits (walk_finish none last) = omega arith
