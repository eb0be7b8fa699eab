-- The first k kept pairs are opened: the next comes with its number, or has none and is left out.
use Rattle.std.proofs.Common.{◌≡◌, ◌∙◌, ◌+◌, ◌++◌, ◌∷◌, [], ap, sym, subst, take, get_or, refl, List}
use Rattle.std.proofs.lemmas.List.{take_more, take_all}
use Rattle.stage_store.specs.declared.sieve.KeptPair.{KeptPair}
use Rattle.stage_store.specs.declared.opened.OpenPair.{OpenPair}
use Rattle.stage_store.specs.Opened.{AreOpened}
use Rattle.stage_store.proofs.Opening.{opened_none, opened_same, opened_more}
use Rattle.stage_store.proofs.opened.open_kept.Goals as goal
use Rattle.stage_store.proofs.opened.open_kept.Goals.{in-None, in-Some+in_ok-push-in-Some}

abbrev no_pair : KeptPair
no_pair = record { norm = 0; first = 0; second = 0 }

pub loop-k-init : goal.loop-k-init
loop-k-init c = subst (λ (o : List OpenPair). AreOpened c.args.plus.now c.args.minus.now c.args.e [] o) (sym c.new-opens.ensures.items) (opened_none c.args.plus.now c.args.minus.now c.args.e)

pub loop-k-preserved : goal.loop-k-preserved
loop-k-preserved c =
    let more : take (c.loop-k.k + 1) c.args.kept.now ≡ take c.loop-k.k c.args.kept.now ++ (get_or c.args.kept.now c.loop-k.k no_pair ∷ []) = take_more c.args.kept.now c.loop-k.k no_pair c.loop-k-test.true in
    elim c.match-number_of_kept.branch [
      | in-None w ↦
          subst (λ (o : List OpenPair). AreOpened c.args.plus.now c.args.minus.now c.args.e (take (c.loop-k.k + 1) c.args.kept.now) o) (sym (ap (λ v. v.items) w.opens-is))
          (opened_same c.args.plus.now c.args.minus.now c.args.e (take c.loop-k.k c.args.kept.now) (take (c.loop-k.k + 1) c.args.kept.now) (get_or c.args.kept.now c.loop-k.k no_pair) c.loop-k.opens.items more w.in-None.ensures c.loop-k.invariant)
      | in-Some+in_ok-push-in-Some w ↦
          opened_more c.args.plus.now c.args.minus.now c.args.e (take c.loop-k.k c.args.kept.now) (take (c.loop-k.k + 1) c.args.kept.now) (get_or c.args.kept.now c.loop-k.k no_pair) c.loop-k.opens.items c.match-number_of_kept.opens.items
          (record { number = w.in-Some.number; first = (get_or c.args.kept.now c.loop-k.k no_pair).first; second = (get_or c.args.kept.now c.loop-k.k no_pair).second }) more
          (ap (λ v. v.items) w.opens-is ∙ w.in_ok-push-in-Some.ensures.items) refl refl w.in-Some.ensures c.loop-k.invariant
    ]

pub returns : goal.returns
returns c = subst (λ (l : List KeptPair). AreOpened c.args.plus.now c.args.minus.now c.args.e l c.loop-k.opens.items) (take_all c.loop-k.k c.args.kept.now c.loop-k-test.false) c.loop-k.invariant
