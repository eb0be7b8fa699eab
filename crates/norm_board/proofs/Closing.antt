-- The sums of all blocks of a norm, in order, are its new sums.
use Rattle.std.proofs.Common.{◌≡◌, ℕ, ◌+◌, ◌*◌, ◌/◌, ◌<◌, ◌≤◌, ◌⊎◌, inl, inr, List, [], ◌∷◌, ◌++◌, sym, subst, subst₂, ◌∙◌, arith, Less}
use Rattle.std.specs.Prelude.{ℤ}
use Rattle.std.specs.List.{Contains}
use Rattle.std.specs.List.Sorted.{IsStrictlySortedBy}
use mathlib.Core.Logic.{dite}
use native.Mathlib.Decide.{dec_le}
use Rattle.std.proofs.lemmas.List.{get_or_default}
use Rattle.std.proofs.lemmas.List.Elements.{Contains-get_or}
use Rattle.lift_core.specs.Lists.{IsListOf}
use Rattle.lift_core.specs.Stages.{stage_norm, norm_cmp, IsPair}
use Rattle.int_vector.specs.Vectors.{lex_cmp, largest}
use Rattle.lift_core.specs.PairSums.{IsNewSum}
use Rattle.lift_core.specs.Times.{times, once_below}
use Rattle.lift_core.proofs.Lists.{contains_head, contains_tail, each_contained, each_from_contained}
use Rattle.lift_core.proofs.Times.{times-append, once_yes}
use Rattle.stage_store.specs.Stage.{StageValue, IsStage, IsStageRow}
use Rattle.stage_store.specs.Classes.{pairs_of}
use Rattle.stage_store.specs.Found.{IsSumOf}
use Rattle.stage_store.proofs.Numbering.{numbered}
use Rattle.stage_store.proofs.Publish.{one_norm_order}
use Rattle.stage_store.proofs.Closing.{sum_is_row}
use Rattle.norm_board.specs.declared.rule.Plan.{Plan}
use Rattle.norm_board.specs.Books.{BookValue}
use Rattle.norm_board.specs.Rule.{IsBookOf}
use Rattle.stage_store.specs.Numbered.{pair_at, IsSumNumbered}
use Rattle.norm_board.specs.Blocks.{pair_count, blocks_of, block_end, Sums}

-- rows of one norm that ascend entry by entry ascend by norm first too
norms_ascend : (e : ℕ) (xs : List (List ℤ)) → ((z : List ℤ) → Contains xs z → stage_norm z ≡ e) → IsStrictlySortedBy lex_cmp xs → IsStrictlySortedBy norm_cmp xs
unfolding IsStrictlySortedBy
norms_ascend e [] h s = tt
norms_ascend e (x ∷ xs) h s = (
  each_from_contained (λ z. norm_cmp x z ≡ Less) xs (λ z c. one_norm_order x z (h x (contains_head x xs) ∙ sym (h z (contains_tail x xs z c))) ∙ each_contained (λ z. lex_cmp x z ≡ Less) xs z s.0 c),
  norms_ascend e xs (λ z c. h z (contains_tail x xs z c)) s.1,
)

module _ (s : StageValue) (e : ℕ) where
  new_sum : (from to : ℕ) (z : List ℤ) → to ≤ pair_count s e → IsSumNumbered s e from to z → IsNewSum s.system.equations s.listed e z
  new_sum from to z most n =
      let f : List ℤ = (pair_at s e n.number).0 in
      let g : List ℤ = (pair_at s e n.number).1 in
      let below = n.below in
      let c : Contains (pairs_of s.listed e) (f, g) = Contains-get_or (pairs_of s.listed e) n.number ([], []) (omega arith) in
      let p : IsPair s.listed f g × (stage_norm f + stage_norm g ≡ e) = (numbered s.listed e f g).0 c in
      record { first = f; second = g; pair = p.0; norms = p.1; sum = n.sum.sum; is = n.sum.is; irreducible = n.sum.irreducible }

  block_of_sum : (z : List ℤ) → IsNewSum s.system.equations s.listed e z → (b : ℕ) × (b < blocks_of (pair_count s e)) × IsSumNumbered s e (256 * b) (block_end s e b) z
  block_of_sum z n =
      let c : Contains (pairs_of s.listed e) (n.first, n.second) = (numbered s.listed e n.first n.second).1 (n.pair, n.norms) in
      let inside = c.1 in
      let at : pair_at s e c.0 ≡ (n.first, n.second) = get_or_default (pairs_of s.listed e) c.0 ([], []) (n.first, n.second) c.1 ∙ c.2 in
      let sum : IsSumOf s.system.equations s.listed n.first n.second z = record { sum = n.sum; is = n.is; irreducible = n.irreducible } in (
        c.0 / 256,
        omega arith,
        record {
          number = c.0;
          at_least = omega arith;
          below = let l : c.0 < 256 * (c.0 / 256) + 256 = omega arith in omega arith;
          sum = subst (λ (t : List ℤ × List ℤ). IsSumOf s.system.equations s.listed t.0 t.1 z) (sym at) sum;
        },
      )

  module _ (first second rows : List (List ℤ)) (blocks left : List ℕ) (f : Sums s e blocks first) (g : Sums s e left second) (all : (x : ℕ) → times x (blocks ++ left) ≡ once_below x (blocks_of (pair_count s e)))
      (list : IsListOf lex_cmp (λ z. Contains first z ⊎ Contains second z) rows) (stage : IsStage s) (small : e ≤ largest) where
    to_new : (z : List ℤ) → Contains rows z → IsNewSum s.system.equations s.listed e z
    to_new z c = elim ((list.members z).0 c) [
      | inl a ↦ let t = f.sound z a in new_sum (256 * t.0) (block_end s e t.0) z (omega arith) t.2
      | inr b ↦ let t = g.sound z b in new_sum (256 * t.0) (block_end s e t.0) z (omega arith) t.2
    ]

    from_new : (z : List ℤ) → IsNewSum s.system.equations s.listed e z → Contains rows z
    from_new z n =
        let b = block_of_sum z n in
        let one = once_yes b.0 (blocks_of (pair_count s e)) b.1 in
        let a = all b.0 in
        let t = times-append b.0 blocks left in
        (list.members z).1 (dite (dec_le 1 (times b.0 blocks))
        (λ here. inl (f.whole b.0 z here b.2))
        (λ gone. inr (g.whole b.0 z (omega arith) b.2)))

    norm_of_new : (z : List ℤ) → IsNewSum s.system.equations s.listed e z → stage_norm z ≡ e
    norm_of_new z n =
        let row : IsStageRow s.system.equations s.number n.first = each_contained (IsStageRow s.system.equations s.number) s.listed n.first stage.listed_rows n.pair.first_listed in
        let positive = row.positive in
        let norms = n.norms in
        (sum_is_row s e z stage (omega arith) small n).1

    pub closes_norm : IsListOf norm_cmp (IsNewSum s.system.equations s.listed e) rows
    closes_norm = record {
      ascending = norms_ascend e rows (λ z c. norm_of_new z (to_new z c)) list.ascending;
      members = λ z. (to_new z, from_new z);
    }

-- the rows of the book and of what is left, in order, close the norm
pub closed_by : (p : Plan) (turn left : BookValue) (first second rows : List (List ℤ)) → IsBookOf p turn → IsBookOf p left → first ≡ turn.rows → second ≡ left.rows
    → Sums turn.stage turn.norm turn.blocks turn.rows → Sums left.stage left.norm left.blocks left.rows
    → ((x : ℕ) → times x (turn.blocks ++ left.blocks) ≡ once_below x (blocks_of (pair_count p.stage.value p.norm)))
    → IsListOf lex_cmp (λ z. Contains first z ⊎ Contains second z) rows → IsStage p.stage.value → p.norm ≤ largest
    → IsListOf norm_cmp (IsNewSum p.stage.value.system.equations p.stage.value.listed p.norm) rows
closed_by p turn left first second rows t l a b f g all list stage small =
    let s = p.stage.value in
    let f' : Sums s p.norm turn.blocks turn.rows = subst₂ (λ (v : StageValue) (e : ℕ). Sums v e turn.blocks turn.rows) t.stage t.norm f in
    let g' : Sums s p.norm left.blocks left.rows = subst₂ (λ (v : StageValue) (e : ℕ). Sums v e left.blocks left.rows) l.stage l.norm g in
    closes_norm s p.norm first second rows turn.blocks left.blocks
    (subst (λ (r : List (List ℤ)). Sums s p.norm turn.blocks r) (sym a) f')
    (subst (λ (r : List (List ℤ)). Sums s p.norm left.blocks r) (sym b) g')
    all list stage small
