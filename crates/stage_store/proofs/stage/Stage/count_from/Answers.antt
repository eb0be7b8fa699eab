-- Counting changes the tally alone: what it says is true of the classes, and the stage's value is the same.
use Rattle.std.proofs.Common.{◌<◌, ℕ, List, length, sym, subst, subst₂}
use Rattle.std.specs.List.Sorted.{IsStrictlySortedBy}
use Rattle.stage_store.specs.Classes.{ClassValue, class_cmp, norm_at}
use Rattle.stage_store.specs.Tallies.{IsTally}
use Rattle.stage_store.proofs.Tallies.{positive_at}
use Rattle.stage_store.proofs.stage.Stage.count_from.Goals as goal

pub restart-requires-clause-sorted : goal.restart-requires-clause-sorted
restart-requires-clause-sorted c = subst (λ (cs : List ClassValue). IsStrictlySortedBy class_cmp cs) (sym c.deref-then-is_none.ensures.value) c.self.invariant.minus_classes.ascending

pub restart-requires-clause-positive : goal.restart-requires-clause-positive
restart-requires-clause-positive c = subst (λ (cs : List ClassValue). (k : ℕ) → k < length cs → 0 < norm_at cs k) (sym c.deref-then-is_none.ensures.value) (positive_at c.self.inside.listed.rows c.self.inside.minus.items c.self.invariant.minus_classes.each)

pub invariant_of-self : goal.invariant_of-self
invariant_of-self c =
    let i = c.self.invariant in
    record {
      stage = i.stage;
      listed_width = i.listed_width;
      indexed = i.indexed;
      waiting_width = i.waiting_width;
      waited_inside = i.waited_inside;
      waiting_most = i.waiting_most;
      used_is = i.used_is;
      plus_classes = i.plus_classes;
      minus_classes = i.minus_classes;
      plus_ids = i.plus_ids;
      minus_ids = i.minus_ids;
      sieve_is = i.sieve_is;
      following_is = i.following_is;
      tally_is = subst₂ (λ (p m : List ClassValue). IsTally p m c.restart.new.self) c.deref.ensures.value c.deref-then-is_none.ensures.value c.restart.ensures;
      ahead_is = i.ahead_is;
    }
