-- The rows that wait for the norm are the next ones of the waiting list, and merged with the sums they are all rows
-- that the norm lists; where they are too many, that is the answer.
use Rattle.std.proofs.Common.{◌≡◌, ◌∙◌, sym, arith, ap, subst, ℕ, ◌-◌, ◌++◌, length, take, drop, length-append}
use Rattle.std.specs.Prelude.{List, ℤ}
use Rattle.std.specs.List.Sorted.{IsStrictlySortedBy}
use Rattle.std.proofs.lemmas.List.{drop-take}
use Rattle.int_vector.specs.Vectors.{lex_cmp}
use Rattle.stage_store.specs.Merge.{merged}
use Rattle.stage_store.specs.Classes.{places, sign_test}
use Rattle.stage_store.specs.Stage.{IsStage, waiting_of, listed_of, width_of}
use Rattle.stage_store.proofs.StageFields.{stage_of}
use Rattle.stage_store.proofs.FirstWaiting.{IsFront, front_of, grown_is, new_norms, still_is, front_entries, sums_entries}
use Rattle.stage_store.proofs.stage.Stage.growth.Goals as goal
use Rattle.stage_store.specs.declared.side.Side.TheVariants.{Plus, Minus}

pub merged_rows-requires-clause-waits : goal.merged_rows-requires-clause-waits
merged_rows-requires-clause-waits c =
    let s = c.args.self.now in
    let e = c.args.closed.now.norm in
    let n : ℕ = c.waits_up_to.result - c.self.inside.waited in
    let h : IsStage c.args.self.now = stage_of c.self.view_is c.self.invariant.stage in
    let w : drop c.self.inside.waited c.self.inside.waiting.rows ≡ c.args.self.now.waiting = ap waiting_of c.self.view_is in
    let f : IsFront c.args.self.now.waiting c.args.closed.now.norm (c.waits_up_to.result - c.self.inside.waited) = subst (λ (l : List (List ℤ)). IsFront l c.args.closed.now.norm (c.waits_up_to.result - c.self.inside.waited)) w (front_of c.self.inside.waiting.rows c.self.inside.waited c.waits_up_to.result c.args.closed.now.norm c.waits_up_to.ensures.from c.waits_up_to.ensures.to c.waits_up_to.ensures.before c.waits_up_to.ensures.at) in
    subst (λ (l : List (List ℤ)). IsStrictlySortedBy lex_cmp l) (sym (drop-take c.self.inside.waited n c.self.inside.waiting.rows ∙ ap (take n) w))
    (front_entries s e n c.args.closed.now.rows.rows h c.requires.next c.requires.small c.requires.sums.sums f)

pub merged_rows-requires-clause-sums : goal.merged_rows-requires-clause-sums
merged_rows-requires-clause-sums c =
    let s = c.args.self.now in
    let e = c.args.closed.now.norm in
    let n : ℕ = c.waits_up_to.result - c.self.inside.waited in
    let h : IsStage c.args.self.now = stage_of c.self.view_is c.self.invariant.stage in
    let w : drop c.self.inside.waited c.self.inside.waiting.rows ≡ c.args.self.now.waiting = ap waiting_of c.self.view_is in
    let f : IsFront c.args.self.now.waiting c.args.closed.now.norm (c.waits_up_to.result - c.self.inside.waited) = subst (λ (l : List (List ℤ)). IsFront l c.args.closed.now.norm (c.waits_up_to.result - c.self.inside.waited)) w (front_of c.self.inside.waiting.rows c.self.inside.waited c.waits_up_to.result c.args.closed.now.norm c.waits_up_to.ensures.from c.waits_up_to.ensures.to c.waits_up_to.ensures.before c.waits_up_to.ensures.at) in
    sums_entries s e n c.args.closed.now.rows.rows h c.requires.next c.requires.small c.requires.sums.sums f

pub returns-then-count-from : goal.returns-then-count-from
returns-then-count-from c =
    let s = c.args.self.now in
    let e = c.args.closed.now.norm in
    let n : ℕ = c.waits_up_to.result - c.self.inside.waited in
    let h : IsStage c.args.self.now = stage_of c.self.view_is c.self.invariant.stage in
    let w : drop c.self.inside.waited c.self.inside.waiting.rows ≡ c.args.self.now.waiting = ap waiting_of c.self.view_is in
    let f : IsFront c.args.self.now.waiting c.args.closed.now.norm (c.waits_up_to.result - c.self.inside.waited) = subst (λ (l : List (List ℤ)). IsFront l c.args.closed.now.norm (c.waits_up_to.result - c.self.inside.waited)) w (front_of c.self.inside.waiting.rows c.self.inside.waited c.waits_up_to.result c.args.closed.now.norm c.waits_up_to.ensures.from c.waits_up_to.ensures.to c.waits_up_to.ensures.before c.waits_up_to.ensures.at) in
    record {
      grown = c.args.self.now.listed ++ c.in_ok-rows.rows.rows;
      listed = grown_is s e n c.args.closed.now.rows.rows h c.requires.next c.requires.small c.requires.sums.sums f c.in_ok-rows.rows.rows
          (c.in_ok-rows.ensures.rows ∙ ap (λ (l : List (List ℤ)). merged lex_cmp l c.args.closed.now.rows.rows) (drop-take c.self.inside.waited n c.self.inside.waiting.rows ∙ ap (take n) w));
      length_is = omega (arith, length-append c.args.self.now.listed c.in_ok-rows.rows.rows, c.from.ensures, c.from-2.ensures, c.len-2.ensures, c.len-3.ensures, ap (λ v. length (listed_of v)) c.self.view_is);
      above = omega (arith, c.if-count-from.true, c.from-3.ensures);
    }

pub returns : goal.returns
returns c =
    let s = c.args.self.now in
    let e = c.args.closed.now.norm in
    let n : ℕ = c.waits_up_to.result - c.self.inside.waited in
    let new = c.in_ok-rows.rows.rows in
    let h : IsStage c.args.self.now = stage_of c.self.view_is c.self.invariant.stage in
    let w : drop c.self.inside.waited c.self.inside.waiting.rows ≡ c.args.self.now.waiting = ap waiting_of c.self.view_is in
    let f : IsFront c.args.self.now.waiting c.args.closed.now.norm (c.waits_up_to.result - c.self.inside.waited) = subst (λ (l : List (List ℤ)). IsFront l c.args.closed.now.norm (c.waits_up_to.result - c.self.inside.waited)) w (front_of c.self.inside.waiting.rows c.self.inside.waited c.waits_up_to.result c.args.closed.now.norm c.waits_up_to.ensures.from c.waits_up_to.ensures.to c.waits_up_to.ensures.before c.waits_up_to.ensures.at) in
    let is : c.in_ok-rows.rows.rows ≡ merged lex_cmp (take (c.waits_up_to.result - c.self.inside.waited) c.args.self.now.waiting) c.args.closed.now.rows.rows = c.in_ok-rows.ensures.rows ∙ ap (λ (l : List (List ℤ)). merged lex_cmp l c.args.closed.now.rows.rows) (drop-take c.self.inside.waited n c.self.inside.waiting.rows ∙ ap (take n) w) in
    let m : length c.self.inside.listed.rows ≡ length c.args.self.now.listed = ap (λ v. length (listed_of v)) c.self.view_is in
    record {
      width_is = omega (arith, c.in_ok-rows.ensures.width, c.self.invariant.waiting_width, ap width_of c.self.view_is);
      grown = grown_is s e n c.args.closed.now.rows.rows h c.requires.next c.requires.small c.requires.sums.sums f new is;
      norms = new_norms s e n c.args.closed.now.rows.rows h c.requires.next c.requires.small c.requires.sums.sums f new is;
      within = omega (arith, c.from.ensures, c.from-2.ensures, c.len-2.ensures, c.len-3.ensures, m, c.if-count-from.false, c.from-3.ensures);
      plus_norm = c.in_ok-class_of.ensures.norm;
      plus_ids = c.in_ok-class_of.ensures.ids ∙ ap (λ k. places (sign_test Plus) k c.in_ok-rows.rows.rows) (c.len-4.ensures ∙ m);
      minus_norm = c.in_ok-class_of-2.ensures.norm;
      minus_ids = c.in_ok-class_of-2.ensures.ids ∙ ap (λ k. places (sign_test Minus) k c.in_ok-rows.rows.rows) (c.len-5.ensures ∙ m);
      taken_inside = f.within;
      still = still_is s e n c.args.closed.now.rows.rows h c.requires.next c.requires.small c.requires.sums.sums f;
      pairs_are = c.pairs_at.ensures.number;
    }
