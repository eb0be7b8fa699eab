-- The pool grows by all rows at once, and the tree by one place after another, so it holds the places up to the loop's.
-- After a refusal both are cut to the rows that were held before.
use Rattle.std.proofs.Common.{◌≡◌, ◌∙◌, ℕ, List, ◌++◌, ◌∷◌, [], length, take, refl, ap, sym, subst, arith}
use Rattle.std.specs.Prelude.{ℤ}
use Rattle.std.specs.List.{range_with_len}
use Rattle.std.proofs.lemmas.List.FromFn.{length-range_with_len}
use Rattle.std.proofs.Math.Seq.{take-append_seam}
use Rattle.row_pool.specs.Rows.{PoolValue}
use Rattle.reduce_tree.specs.Tree.{TreeValue, Fits, places_of}
use Rattle.reduce_tree.proofs.Pools.{fits_grown}
use Rattle.stage_store.proofs.Indexed.{range_more, holds_cut}
use Rattle.stage_store.proofs.growing.list_rows.Goals as goal

pub loop-i-init : goal.loop-i-init
loop-i-init c = record {
  listed = refl;
  fits = fits_grown c.args.tree.now c.args.listed.now c.append_from.new.self c.args.rows.now.rows c.requires.held.fits c.append_from.ensures.width c.append_from.ensures.rows;
  places = c.requires.held.places ∙ ap (λ n. range_with_len 0 n) (sym c.len-from.ensures);
}

pub truncate-requires : goal.truncate-requires
truncate-requires c =
    omega (arith, ap (λ (t : TreeValue). length (places_of t)) c.in-Err.ensures.err, ap length c.loop-i.invariant.places, length-range_with_len 0 c.loop-i.i, c.loop-i.auto.i)

pub returns-in-Err-clause-held : goal.returns-in-Err-clause-held
returns-in-Err-clause-held c =
    let same : c.insert.new.self ≡ c.loop-i.tree = c.in-Err.ensures.err in
    let fits : Fits c.insert.new.self c.loop-i.listed = subst (λ (t : TreeValue). Fits t c.loop-i.listed) (sym same) c.loop-i.invariant.fits in
    let grown : c.loop-i.listed.rows ≡ c.args.listed.now.rows ++ c.args.rows.now.rows = ap (λ (p : PoolValue). p.rows) c.loop-i.invariant.listed ∙ c.append_from.ensures.rows in
    let back : take c.len-from.result c.loop-i.listed.rows ≡ c.args.listed.now.rows =
    ap (λ n. take n c.loop-i.listed.rows) c.len-from.ensures ∙ ap (λ (r : List (List ℤ)). take (length c.args.listed.now.rows) r) grown ∙ take-append_seam c.args.listed.now.rows c.args.rows.now.rows in
    holds_cut c.loop-i.tree c.truncate.new.self c.args.listed.now c.loop-i.listed c.truncate-in-Err.new.self c.len-from.result c.loop-i.i c.len-from.ensures c.loop-i.auto.i (c.truncate.ensures.fits c.loop-i.listed fits) c.loop-i.invariant.places
    (c.truncate.ensures.places ∙ ap (λ (t : TreeValue). take c.len-from.result (places_of t)) same) c.truncate-in-Err.ensures.width c.truncate-in-Err.ensures.rows (c.truncate-in-Err.ensures.rows ∙ back)

pub loop-i-preserved : goal.loop-i-preserved
loop-i-preserved c = record {
  listed = c.loop-i.invariant.listed;
  fits = c.in-Ok.ensures.fits;
  places = c.in-Ok.ensures.places ∙ ap (λ (p : List ℕ). p ++ c.loop-i.i ∷ []) c.loop-i.invariant.places ∙ sym (range_more 0 c.loop-i.i ∙ ap (λ n. range_with_len 0 c.loop-i.i ++ n ∷ []) (omega arith));
}
