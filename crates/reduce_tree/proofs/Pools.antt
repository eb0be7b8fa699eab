-- What a pool may do without a tree ceasing to fit it: it may grow, and it may lose rows that the tree does not hold.
use Rattle.std.proofs.Common.{◌≡◌, ℕ, ◌<◌, List, [], ◌∷◌, ◌++◌, length, get_or, take, sym, ap, ◌∙◌, subst, arith, length-append}
use Rattle.std.specs.Prelude.{ℤ, map}
use Rattle.std.specs.List.{AllByRecursion}
use Rattle.std.proofs.lemmas.List.{get_or_append_left, get_or-take, length-take}
use Rattle.row_pool.specs.Rows.{PoolValue}
use Rattle.reduce_tree.specs.declared.tree.Filed.{Filed}
use Rattle.reduce_tree.specs.Items.{size_of, IsKeyOf}
use Rattle.reduce_tree.specs.Signatures.{signature_of}
use Rattle.reduce_tree.specs.Tree.{TreeValue, place_of, places_of, StandsAt, Fits}

stands_same : (levels : ℕ) (rows other : List (List ℤ)) (f : Filed) → StandsAt levels rows f → f.place < length other → get_or other f.place [] ≡ get_or rows f.place [] → StandsAt levels other f
stands_same levels rows other f s inside e = record {
  inside = inside;
  key = subst (λ r. IsKeyOf r f.bits f.key) (sym e) s.key;
  size = s.size ∙ ap size_of (sym e);
  bits = s.bits ∙ ap (λ r. signature_of levels r) (sym e);
}

all_grown : (levels : ℕ) (rows more : List (List ℤ)) (filed : List Filed) → AllByRecursion (StandsAt levels rows) filed → AllByRecursion (StandsAt levels (rows ++ more)) filed
all_grown levels rows more [] h = tt
all_grown levels rows more (f ∷ filed) h =
    (stands_same levels rows (rows ++ more) f h.0 (omega (arith, h.0.inside, length-append rows more)) (get_or_append_left rows more [] f.place h.0.inside), all_grown levels rows more filed h.1)

pub fits_grown : (t : TreeValue) (p q : PoolValue) (more : List (List ℤ)) → Fits t p → q.width ≡ p.width → q.rows ≡ p.rows ++ more → Fits t q
fits_grown t p q more h w e = record {
  width = w ∙ h.width;
  rows = subst (λ (r : List (List ℤ)). AllByRecursion (StandsAt t.levels r) t.filed) (sym e) (all_grown t.levels p.rows more t.filed h.rows);
}

all_cut : (levels n : ℕ) (rows : List (List ℤ)) (filed : List Filed) → AllByRecursion (λ i. i < n) (map place_of filed) → AllByRecursion (StandsAt levels rows) filed → AllByRecursion (StandsAt levels (take n rows)) filed
all_cut levels n rows [] b h = tt
all_cut levels n rows (f ∷ filed) b h =
    (stands_same levels rows (take n rows) f h.0 (omega (arith, h.0.inside, b.0, length-take n rows)) (get_or-take n rows f.place [] b.0), all_cut levels n rows filed b.1 h.1)

pub fits_cut : (t : TreeValue) (p q : PoolValue) (n : ℕ) → Fits t p → AllByRecursion (λ i. i < n) (places_of t) → q.width ≡ p.width → q.rows ≡ take n p.rows → Fits t q
fits_cut t p q n h below w e = record {
  width = w ∙ h.width;
  rows = subst (λ (r : List (List ℤ)). AllByRecursion (StandsAt t.levels r) t.filed) (sym e) (all_cut t.levels n p.rows t.filed below h.rows);
}
