-- The classes up to k have added their products; from the first class on whose norm with this one lies beyond the tally
-- none adds, as norms ascend.
use Rattle.std.proofs.Common.{◌≡◌, ◌∙◌, ◌+◌, ◌-◌, ◌*◌, ◌<◌, ◌≤◌, ℕ, length, ap, ap₂, arith, inl, inr}
use Rattle.stage_store.specs.Classes.{norm_at, class_norm}
use Rattle.stage_store.proofs.Classes.{class_at, class_ids}
use Rattle.stage_store.proofs.Tallies.{gained_none, gained_more, gained_all, all_beyond}
use Rattle.stage_store.proofs.tally.Tally.add_from.Goals as goal

pub loop-k-init : goal.loop-k-init
loop-k-init c = record {
  range = c.requires.range;
  gained = gained_none c.args.self.now c.args.others.now c.args.class.now c.args.from c.requires.within c.requires.before;
}

pub returns-in_default-place-clause-gained : goal.returns-in_default-place-clause-gained
returns-in_default-place-clause-gained c =
    let others = c.args.others.now in
    let k : ℕ = c.loop-k.k in
    let kl : c.loop-k.k < length c.args.others.now = omega (arith, c.loop-k-test.true) in
    let at : c.index-others-k.result.norm ≡ norm_at c.args.others.now c.loop-k.k = ap class_norm (class_at others k c.index-others-k.result kl c.index-others-k.is) in
    let from : c.args.self.now.base - c.args.class.now.norm ≤ norm_at c.args.others.now c.loop-k.k = c.requires.from k (omega (arith, c.loop-k.auto.k)) kl in
    let here : c.loop-k.self.base + c.loop-k.self.span ≤ c.args.class.now.norm + norm_at c.args.others.now c.loop-k.k = elim c.in_default-place.ensures [
      | inl a ↦ absurd (omega (arith, a, from, at, c.saturating_add.ensures, c.norm.ensures, c.norm-in-loop-k.ensures, c.loop-k.invariant.gained.base_is, c.requires.range.norms))
      | inr b ↦ omega (arith, b, at, c.saturating_add.ensures, c.norm.ensures, c.norm-in-loop-k.ensures)
    ] in
    gained_all c.args.self.now others c.args.class.now c.loop-k.self k (omega (arith, kl)) c.requires.positive c.loop-k.invariant.gained
    (all_beyond others k (c.loop-k.self.base + c.loop-k.self.span) c.args.class.now.norm c.requires.sorted here)

pub loop-k-preserved : goal.loop-k-preserved
loop-k-preserved c =
    let others = c.args.others.now in
    let k : ℕ = c.loop-k.k in
    let kl : c.loop-k.k < length c.args.others.now = omega (arith, c.loop-k-test.true) in
    let at : c.index-others-k.result.norm ≡ norm_at c.args.others.now c.loop-k.k = ap class_norm (class_at others k c.index-others-k.result kl c.index-others-k.is) in
    let place : c.loop-k.self.base + c.in-Some.place ≡ c.args.class.now.norm + norm_at c.args.others.now c.loop-k.k =
    omega (arith, c.in-Some.ensures.0, c.in-Some.ensures.1, at, c.saturating_add.ensures, c.norm.ensures, c.norm-in-loop-k.ensures, c.loop-k.invariant.range.norms) in
    record {
      range = c.raise.ensures.range;
      gained = gained_more c.args.self.now others c.args.class.now c.loop-k.self c.raise.new.self k c.in-Some.place _ kl (c.requires.positive k kl) c.loop-k.invariant.gained place
          (ap₂ (λ (m n : ℕ). m * n) (c.in-Ok.ensures.1 ∙ ap length c.ids.ensures) (ap length (c.ids-in-loop-k.ensures ∙ ap class_ids (class_at others k c.index-others-k-in-loop-k.result kl c.index-others-k-in-loop-k.is)))) c.raise.ensures.raised;
    }
