-- The row's pairs with those of the other table are sifted, and it joins its own with its lines and its norm.
use Rattle.std.proofs.Common.{◌≡◌, ◌∙◌, ◌+◌, ◌*◌, ℕ, List, length, ap, sym, subst, arith, true, false}
use Rattle.std.specs.Prelude.{OnOk}
use Rattle.lift_core.specs.ToolSystems.{width}
use Rattle.lift_core.specs.Stages.{stage_norm}
use Rattle.stage_store.specs.Classes.{row_at, sign_test, other_side}
use Rattle.stage_store.specs.Levels.{AreTrue, BarsLine, ReachesLine}
use Rattle.stage_store.specs.Sieve.{AreSized, AreGroups, IsBefore}
use Rattle.stage_store.proofs.Tables.{inside_table, on_ok_table, on_ok_groups, before_more, before_cases}
use Rattle.stage_store.proofs.sieve.sift_into.Goals as goal

pub sift_row-requires-clause-places : goal.sift_row-requires-clause-places
sift_row-requires-clause-places c =
    inside_table c.args.system.now.equations c.args.listed.now.rows (IsBefore c.args.listed.now.rows (sign_test (other_side c.args.side)) c.args.i) c.args.i (length c.args.reaches.now) c.args.other.now
    (λ x xl p. omega (arith, xl, c.requires.reach_count)) c.requires.other

pub sift_row-requires-clause-few : goal.sift_row-requires-clause-few
sift_row-requires-clause-few c = omega (arith, c.requires.other.few, c.requires.row, c.requires.few)

pub returns-clause-own : goal.returns-clause-own
returns-clause-own c =
    let asked = c.in_ok-ask.ensures.asked in
    let lines : 8 * length c.deref-3.result.now ≡ 16 * width c.args.system.now.equations = omega (arith, ap length c.deref-3.ensures.value, asked.bars_count) in
    let sized : OnOk c.push.result (AreSized (16 * width c.args.system.now.equations) c.push.new.self.groups.items) = subst (λ (n : ℕ). OnOk c.push.result (AreSized n c.push.new.self.groups.items)) lines c.push.ensures.sized in
    let bars : AreTrue (BarsLine c.args.system.now.equations c.args.listed.now.rows (row_at c.args.listed.now.rows c.args.i)) true c.deref-3.result.now =
    subst (λ (l : List ℕ). AreTrue (BarsLine c.args.system.now.equations c.args.listed.now.rows (row_at c.args.listed.now.rows c.args.i)) true l) (sym c.deref-3.ensures.value) asked.bars in
    let reached : AreTrue (ReachesLine (row_at c.args.listed.now.rows c.args.i)) false c.deref-4.result.now =
    subst (λ (l : List ℕ). AreTrue (ReachesLine (row_at c.args.listed.now.rows c.args.i)) false l) (sym c.deref-4.ensures.value) asked.reached in
    let norm : c.norm_of-norm.result ≡ stage_norm (row_at c.args.listed.now.rows c.args.i) = c.norm_of-norm.ensures ∙ ap stage_norm c.row.ensures.row in
    let groups : OnOk c.push.result (AreGroups c.args.system.now.equations c.args.listed.now.rows c.push.new.self.ids.items c.push.new.self.groups.items) =
    on_ok_groups c.args.system.now.equations c.args.listed.now.rows c.args.i c.norm_of-norm.result c.deref-3.result.now c.deref-4.result.now c.args.own.now.ids.items c.push.new.self.ids.items c.args.own.now.groups.items c.push.new.self.groups.items c.push.result
    c.push.ensures.groups c.requires.own.groups norm bars reached in
    on_ok_table c.args.system.now.equations c.args.listed.now.rows (IsBefore c.args.listed.now.rows (sign_test c.args.side) c.args.i) (IsBefore c.args.listed.now.rows (sign_test c.args.side) (c.args.i + 1)) c.args.i c.args.i c.args.own.now c.push.new.self c.push.result
    c.requires.row (omega arith, c.requires.sign) (λ x xl p. before_more c.args.system.now.equations c.args.listed.now.rows (sign_test c.args.side) c.args.i x p) (λ x xl q. before_cases c.args.system.now.equations c.args.listed.now.rows (sign_test c.args.side) c.args.i x q) c.requires.own
    c.push.ensures.ids c.push.ensures.count sized groups
