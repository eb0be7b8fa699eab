-- A filter by the norm keeps each pair that is above the closed norm.
use Rattle.std.proofs.Common.{◌≡◌, rules, ap, ◌∙◌}
use Rattle.std.specs.Prelude.{nat_lt}
use Rattle.std.specs.List.{filter}
use Rattle.std.proofs.lemmas.Fn.{filter_same}
use Rattle.stage_store.specs.declared.sieve.KeptPair.{KeptPair}
use Rattle.stage_store.proofs.Keeping.{filtered_stays, lt_true}
use Rattle.stage_store.proofs.shelves.Shelf.drop_closed.Goals as goal

pub returns : goal.returns
returns c = λ p l h.
    let kept : c.retain.new.self.items ≡ filter (λ (x : KeptPair). nat_lt c.args.closed x.norm) c.self.inside.pairs.items = filter_same _ _ _ (λ x b f' k. search rules) _ _ c.retain.ensures.filtered in
    filtered_stays (λ (x : KeptPair). nat_lt c.args.closed x.norm) c.args.self.now c.give_back.new.self p (c.give_back.ensures ∙ kept ∙ ap (filter (λ (x : KeptPair). nat_lt c.args.closed x.norm)) c.self.view_is) (lt_true c.args.closed p.norm l) h
