-- The candidate is passed over, or taken.
use Rattle.std.proofs.Common.{◌≡◌, ◌∙◌, ◌+◌, length, refl, sym, ap, subst, arith, false}
use Rattle.std.specs.Prelude.{ℕ, ℤ, List}
use Rattle.std.specs.Vec.{with_items}
use Rattle.std.proofs.lemmas.List.{with_items_is}
use Rattle.decompose_tool.proofs.InPlace.{length-subtract, length-times_here}
use Rattle.int_vector.specs.Operations.{subtract}
use Rattle.decompose_tool.specs.declared.walking.Walk.{Walk}
use Rattle.decompose_tool.specs.Rows.{is_zero}
use Rattle.decompose_tool.specs.Walks.{times, IsMost}
use Rattle.decompose_tool.proofs.Going.{goes_by, goes_with, open_after}
use Rattle.decompose_tool.proofs.walking.take.Goals as goal

pub returns-in_ok-push_term-clause-goes : goal.returns-in_ok-push_term-clause-goes
returns-in_ok-push_term-clause-goes c =
    let u = c.args.u.now in
    let k = c.count-count.result in
    let zero : is_zero u ≡ false = sym c.is_zero.ensures ∙ c.if-is_zero.false in
    let most : IsMost u c.args.walk.now.rest.items k = subst (λ (r : List ℤ). IsMost u r k) c.deref.ensures.value c.count-count.ensures.most in
    let old = c.args.walk.now.rest in
    let less : c.remove.new.rest ≡ subtract old.items (times k u) = c.remove.ensures ∙ ap (λ r. subtract r (times k u)) c.deref_mut.ensures.value in
    let long : length (subtract old.items (times k u)) ≡ length old.items = length-subtract old.items (times k u) (length-times_here k u ∙ sym c.requires.state.width) in
    let rest : (with_items old c.remove.new.rest).items ≡ subtract old.items (times k u) = with_items_is old c.remove.new.rest (omega (arith, ap length less, long, old.ok.0)) ∙ less in
    let new : Walk = record { rest = with_items c.args.walk.now.rest c.remove.new.rest; terms = c.args.walk.now.terms + 1; cells = c.push_term.new.cells } in
    goes_with c.args.n k u c.args.walk.now new zero most (omega (arith, c.if-count-gt0.true)) c.count-count.ensures.small c.requires.columns c.requires.range
    rest c.in_ok-push_term.ensures refl

pub returns-in_ok-push_term-clause-state : goal.returns-in_ok-push_term-clause-state
returns-in_ok-push_term-clause-state c =
    let u = c.args.u.now in
    let k = c.count-count.result in
    let most : IsMost u c.args.walk.now.rest.items k = subst (λ (r : List ℤ). IsMost u r k) c.deref.ensures.value c.count-count.ensures.most in
    let old = c.args.walk.now.rest in
    let less : c.remove.new.rest ≡ subtract old.items (times k u) = c.remove.ensures ∙ ap (λ r. subtract r (times k u)) c.deref_mut.ensures.value in
    let long : length (subtract old.items (times k u)) ≡ length old.items = length-subtract old.items (times k u) (length-times_here k u ∙ sym c.requires.state.width) in
    let rest : (with_items old c.remove.new.rest).items ≡ subtract old.items (times k u) = with_items_is old c.remove.new.rest (omega (arith, ap length less, long, old.ok.0)) ∙ less in
    let new : Walk = record { rest = with_items c.args.walk.now.rest c.remove.new.rest; terms = c.args.walk.now.terms + 1; cells = c.push_term.new.cells } in
    open_after k (length u) u c.args.walk.now new most.below rest c.requires.state

pub returns-else-count-gt0-clause-goes : goal.returns-else-count-gt0-clause-goes
returns-else-count-gt0-clause-goes c =
    let u = c.args.u.now in
    let zero : is_zero u ≡ false = sym c.is_zero.ensures ∙ c.if-is_zero.false in
    let none : c.count-count.result ≡ 0 = omega (arith, c.if-count-gt0.false) in
    let most : IsMost u c.args.walk.now.rest.items c.count-count.result = subst (λ (r : List ℤ). IsMost u r c.count-count.result) c.deref.ensures.value c.count-count.ensures.most in
    goes_by c.args.n u c.args.walk.now zero (subst (λ (k : ℕ). IsMost u c.args.walk.now.rest.items k) none most)
