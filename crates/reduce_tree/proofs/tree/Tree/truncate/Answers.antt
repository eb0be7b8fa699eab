-- The last filed row is the last one of its bucket.
use Rattle.std.proofs.Common.{◌≡◌, ◌∷◌, [], List, length, take, map, refl, arith, ap, sym, subst, ◌∙◌, length-append}
use Rattle.std.specs.Vec.{with_item}
use Rattle.std.proofs.lemmas.List.{take-map}
use Rattle.reduce_tree.specs.declared.tree.Filed.{Filed}
use Rattle.reduce_tree.specs.Tree.{place_of}
use Rattle.reduce_tree.specs.Inside.Filing.{IsTree}
use Rattle.reduce_tree.proofs.Inserts.{tree_less, bucket_some, cut_once}
use Rattle.reduce_tree.proofs.tree.Tree.truncate.Goals as goal

pub pop-requires-in-loop-self : goal.pop-requires-in-loop-self
pop-requires-in-loop-self c =
    bucket_some c.loop-self.self-inside.width c.loop-self.self-inside.levels c.pop.new.self.items c.in-Some.filed c.loop-self.self-inside.index c.index_mut-bucket.result.now
    (subst (λ (fs : List Filed). IsTree c.loop-self.self-inside.width c.loop-self.self-inside.levels fs c.loop-self.self-inside.index) c.in-Some.ensures.items c.loop-self.invariant.tree) c.index_mut-bucket.ensures.value

pub loop-self-preserved : goal.loop-self-preserved
loop-self-preserved c = record {
  tree = tree_less c.loop-self.self-inside.width c.loop-self.self-inside.levels c.pop.new.self.items c.in-Some.filed c.loop-self.self-inside.index (record { first = c.loop-self.self-inside.index.first; second = c.loop-self.self-inside.index.second; third = c.loop-self.self-inside.index.third; buckets = with_item c.loop-self.self-inside.index.buckets c.in-Some.filed.bucket c.pop-in-loop-self.new.self }) c.index_mut-bucket.result.now c.pop-in-loop-self.new.self
      (record { first = refl; second = refl; third = refl; buckets = refl }) (subst (λ (fs : List Filed). IsTree c.loop-self.self-inside.width c.loop-self.self-inside.levels fs c.loop-self.self-inside.index) c.in-Some.ensures.items c.loop-self.invariant.tree) c.index_mut-bucket.ensures.value c.pop-in-loop-self.ensures;
  cut = cut_once c.pop.new.self.items c.args.self.now.filed c.in-Some.filed (subst (λ (fs : List Filed). fs ≡ take (length fs) c.args.self.now.filed) c.in-Some.ensures.items c.loop-self.invariant.cut);
  least = omega (arith, c.loop-self-test.true, c.len.ensures, c.loop-self.self-inside.filed.ok, ap (λ (fs : List Filed). length fs) c.in-Some.ensures.items, length-append c.pop.new.self.items (c.in-Some.filed ∷ []));
  width = c.loop-self.invariant.width;
  levels = c.loop-self.invariant.levels;
}

pub returns-clause-places : goal.returns-clause-places
returns-clause-places c =
    let n : length c.loop-self.self-inside.filed.items ≡ c.args.len = omega (arith, c.loop-self-test.false, c.len.ensures, c.loop-self.self-inside.filed.ok, c.loop-self.invariant.least) in
    ap (λ (fs : List Filed). map place_of fs) (c.loop-self.invariant.cut ∙ ap (λ k. take k c.args.self.now.filed) n) ∙ sym (take-map place_of c.args.len c.args.self.now.filed)
