use Rattle.std.proofs.Common.{ℕ, ◌<◌, ◌≤◌, List, length, slice_index_or, subst, arith}
use Rattle.stage_store.specs.Classes.{pairs_of}
use Rattle.stage_store.specs.declared.opened.OpenPair.{OpenPair}
use Rattle.stage_store.proofs.NumberedSums.{gap_before, next_open}
use Rattle.stage_store.proofs.numbered.next_opened.Goals as goal

pub returns-then-k-len : goal.returns-then-k-len
returns-then-k-len c =
    next_open c.args.stage.now c.args.opened.now.norm c.args.opened.now.pairs.items c.open_from-k.result c.args.first c.index-pair.result.now c.requires (omega (arith, c.if-k-len.true, c.len.ensures)) c.index-pair.ensures (subst (λ (l : List OpenPair). (k : ℕ) (d : OpenPair) → k < c.open_from-k.result → (slice_index_or l k d).number < c.args.first) c.deref.ensures.value c.open_from-k.ensures.before) (subst (λ (l : List OpenPair). (k : ℕ) (d : OpenPair) → c.open_from-k.result ≤ k → k < length l → c.args.first ≤ (slice_index_or l k d).number) c.deref.ensures.value c.open_from-k.ensures.after)

pub returns-else-k-len : goal.returns-else-k-len
returns-else-k-len c =
    gap_before c.args.stage.now c.args.opened.now.norm c.args.opened.now.pairs.items c.open_from-k.result c.args.first (length (pairs_of c.args.stage.now.listed c.args.opened.now.norm)) c.requires (omega arith) (subst (λ (l : List OpenPair). (k : ℕ) (d : OpenPair) → k < c.open_from-k.result → (slice_index_or l k d).number < c.args.first) c.deref.ensures.value c.open_from-k.ensures.before) (λ d m. omega (arith, c.if-k-len.false, c.len.ensures, m))
