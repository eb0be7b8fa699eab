-- The row's pairs with the negatives before it are sifted, and with each the pair of its negatives is, by the law of
-- negatives. What the row's negative bars is what the row bars at the other sign. So both join their tables.
use Rattle.std.proofs.Common.{◌≡◌, ◌∙◌, ◌+◌, ◌*◌, ◌<◌, ℕ, List, length, ap, sym, subst, arith, refl, inl, inr, true, false}
use Rattle.std.specs.Prelude.{ℤ, OnOk}
use Rattle.std.proofs.lemmas.List.{get_or_default}
use Rattle.int_vector.specs.Vectors.{negated}
use Rattle.lift_core.specs.ToolSystems.{width}
use Rattle.lift_core.specs.Stages.{stage_norm, has_positive_last}
use Rattle.stage_store.specs.Classes.{row_at}
use Rattle.stage_store.specs.Levels.{AreTrue, BarsLine, ReachesLine}
use Rattle.stage_store.specs.Mirror.{place_in}
use Rattle.stage_store.specs.Shelves.{IsKept}
use Rattle.stage_store.specs.Sieve.{AreSized, AreGroups, IsTable, IsBefore, IsTurnedBefore, IsSiftedBy, AreSiftedBy, pair_by}
use Rattle.stage_store.proofs.Negatives.{mirror_closed, levels_negated, norm_at_mirror}
use Rattle.stage_store.proofs.Sifting.{on_ok_couple, turned_cases, turned_here, stay_through, both_stay}
use Rattle.stage_store.proofs.Tables.{table_put, on_ok_table, on_ok_groups, before_more, before_cases}
use Rattle.stage_store.proofs.sieve.Sieve.sift_couple.Goals as goal
use Rattle.stage_store.specs.declared.side.Side.TheVariants.{Plus}

pub returns-clause-coupled : goal.returns-clause-coupled
returns-clause-coupled c =
    let whole = c.requires.coupled.whole in
    let il : c.args.i < length c.args.self.now.mirror.items = omega (arith, c.requires.row, whole.count) in
    let q : c.index-negative.result.now ≡ place_in c.args.self.now.mirror.items c.args.i = c.index-negative.ensures ∙ get_or_default c.args.self.now.mirror.items c.args.i c.index-negative.result.now 0 il in
    let ql : place_in c.args.self.now.mirror.items c.args.i < length c.args.listed.now.rows = omega (arith, whole.mirror_is.inside c.args.i il, whole.count) in
    let asked = c.in_ok-ask.ensures.asked in
    -- the row itself
    let lines : 8 * length c.deref-5.result.now ≡ 16 * width c.args.system.now.equations = omega (arith, ap length c.deref-5.ensures.value, asked.bars_count) in
    let bars : AreTrue (BarsLine c.args.system.now.equations c.args.listed.now.rows (row_at c.args.listed.now.rows c.args.i)) true c.deref-5.result.now =
    subst (λ (l : List ℕ). AreTrue (BarsLine c.args.system.now.equations c.args.listed.now.rows (row_at c.args.listed.now.rows c.args.i)) true l) (sym c.deref-5.ensures.value) asked.bars in
    let reached : AreTrue (ReachesLine (row_at c.args.listed.now.rows c.args.i)) false c.deref-6.result.now =
    subst (λ (l : List ℕ). AreTrue (ReachesLine (row_at c.args.listed.now.rows c.args.i)) false l) (sym c.deref-6.ensures.value) asked.reached in
    let own : c.norm_of-own.result ≡ stage_norm (row_at c.args.listed.now.rows c.args.i) = c.norm_of-own.ensures ∙ ap stage_norm c.row.ensures.row in
    let plus : IsTable c.args.system.now.equations c.args.listed.now.rows (IsBefore c.args.listed.now.rows has_positive_last (c.args.i + 1)) (c.args.i + 1) c.push.new.self =
    table_put c.args.system.now.equations c.args.listed.now.rows (IsBefore c.args.listed.now.rows has_positive_last c.args.i) (IsBefore c.args.listed.now.rows has_positive_last (c.args.i + 1)) c.args.i c.args.i c.args.self.now.plus c.push.new.self
    c.requires.row (omega arith, c.requires.sign) (λ x xl p. before_more c.args.system.now.equations c.args.listed.now.rows has_positive_last c.args.i x p) (λ x xl b. before_cases c.args.system.now.equations c.args.listed.now.rows has_positive_last c.args.i x b) c.requires.coupled.plus_table
    c.in_ok-push.ensures.ids c.in_ok-push.ensures.count (subst (λ (n : ℕ). AreSized n c.push.new.self.groups.items) lines c.in_ok-push.ensures.sized)
    (c.in_ok-push.ensures.groups c.args.system.now.equations c.args.listed.now.rows c.requires.coupled.plus_table.groups own bars reached) in
    -- its negative
    let turned_row : row_at c.args.listed.now.rows (place_in c.args.self.now.mirror.items c.args.i) ≡ negated (row_at c.args.listed.now.rows c.args.i) = whole.mirror_is.negative c.args.i il in
    let lines' : 8 * length c.deref-7.result.now ≡ 16 * width c.args.system.now.equations = omega (arith, ap length c.deref-7.ensures.value, c.turn.ensures.room.turned_count) in
    let barred : AreTrue (BarsLine c.args.system.now.equations c.args.listed.now.rows (row_at c.args.listed.now.rows c.index-negative.result.now)) true c.deref-7.result.now =
    subst (λ (l : List ℕ). AreTrue (BarsLine c.args.system.now.equations c.args.listed.now.rows (row_at c.args.listed.now.rows c.index-negative.result.now)) true l) (sym c.deref-7.ensures.value)
    (subst (λ (f : List ℤ). AreTrue (BarsLine c.args.system.now.equations c.args.listed.now.rows f) true c.turn.new.self.turned.items) (sym (ap (row_at c.args.listed.now.rows) q ∙ turned_row))
    (levels_negated c.args.system.now.equations c.args.listed.now.rows (mirror_closed c.args.listed.now.rows c.args.self.now.mirror.items whole) (row_at c.args.listed.now.rows c.args.i) c.ask.new.self.bars.items c.turn.new.self.turned.items (omega (arith, asked.bars_count)) c.turn.ensures.turned asked.bars)) in
    let reaching : AreTrue (ReachesLine (row_at c.args.listed.now.rows c.index-negative.result.now)) false c.deref-8.result.now =
    subst (λ (l : List ℕ). AreTrue (ReachesLine (row_at c.args.listed.now.rows c.index-negative.result.now)) false l) (sym c.deref-8.ensures.value) c.turn.ensures.reached in
    let other : c.norm_of-own.result ≡ stage_norm (row_at c.args.listed.now.rows c.index-negative.result.now) = own ∙ sym (ap (λ k. stage_norm (row_at c.args.listed.now.rows k)) q ∙ norm_at_mirror c.args.listed.now.rows c.args.self.now.mirror.items c.args.i whole.mirror_is il) in
    let groups : OnOk c.push-2.result (AreGroups c.args.system.now.equations c.args.listed.now.rows c.push-2.new.self.ids.items c.push-2.new.self.groups.items) =
    on_ok_groups c.args.system.now.equations c.args.listed.now.rows c.index-negative.result.now c.norm_of-own.result c.deref-7.result.now c.deref-8.result.now c.args.self.now.minus.ids.items c.push-2.new.self.ids.items c.args.self.now.minus.groups.items c.push-2.new.self.groups.items c.push-2.result
    c.push-2.ensures.groups c.requires.coupled.minus_table.groups other barred reaching in
    let minus : OnOk c.push-2.result (IsTable c.args.system.now.equations c.args.listed.now.rows (IsTurnedBefore c.args.listed.now.rows c.args.self.now.mirror.items (c.args.i + 1)) (c.args.i + 1) c.push-2.new.self) =
    on_ok_table c.args.system.now.equations c.args.listed.now.rows (IsTurnedBefore c.args.listed.now.rows c.args.self.now.mirror.items c.args.i) (IsTurnedBefore c.args.listed.now.rows c.args.self.now.mirror.items (c.args.i + 1)) c.args.i c.index-negative.result.now c.args.self.now.minus c.push-2.new.self c.push-2.result
    (omega (arith, q, ql)) (subst (λ k. IsTurnedBefore c.args.listed.now.rows c.args.self.now.mirror.items (c.args.i + 1) k) (sym q) (turned_here c.args.system.now.equations c.args.listed.now.rows c.args.self.now.mirror.items whole c.args.i c.requires.row c.requires.sign))
    (λ x xl p. (omega (arith, p.0), p.1)) (λ x xl b. elim (turned_cases c.args.system.now.equations c.args.listed.now.rows c.args.self.now.mirror.items whole c.args.i c.requires.row x xl b) [ inl p ↦ inl p | inr e ↦ inr (e ∙ sym q) ]) c.requires.coupled.minus_table
    c.push-2.ensures.ids c.push-2.ensures.count (subst (λ (n : ℕ). OnOk c.push-2.result (AreSized n c.push-2.new.self.groups.items)) lines' c.push-2.ensures.sized) groups in
    -- their pairs
    let here : AreSiftedBy Plus c.args.system.now.equations c.args.listed.now.rows c.sift_row.new.shelves c.args.self.now.mirror.items c.args.i c.args.self.now.minus.ids.items =
    subst (λ (m : List ℕ). AreSiftedBy Plus c.args.system.now.equations c.args.listed.now.rows c.sift_row.new.shelves m c.args.i c.args.self.now.minus.ids.items) c.deref-2.ensures.value c.in_ok-sift_row.ensures.sifted in
    let pair : IsSiftedBy Plus c.args.system.now.equations c.args.listed.now.rows c.keep_rows.new.shelves c.args.i (place_in c.args.self.now.mirror.items c.args.i) =
    inl (subst (λ (k : ℕ). IsKept c.keep_rows.new.shelves (pair_by Plus (stage_norm (row_at c.args.listed.now.rows c.args.i) + stage_norm (row_at c.args.listed.now.rows k)) c.args.i k)) q c.in_ok-keep_rows.ensures.kept) in
    on_ok_couple c.args.system.now.equations c.args.listed.now.rows c.args.norm c.args.i c.args.self.now
    (record { rows = c.args.self.now.rows; reaches = c.args.self.now.reaches; mirror = c.args.self.now.mirror; plus = c.push.new.self; minus = c.push-2.new.self; shelves = c.keep_rows.new.shelves })
    c.requires.row c.requires.sign c.requires.coupled (stay_through c.args.self.now.shelves c.sift_row.new.shelves c.keep_rows.new.shelves c.sift_row.ensures.stay c.keep_rows.ensures.stay) c.keep_rows.ensures.count refl refl c.push-2.result
    (λ k l. both_stay Plus c.args.system.now.equations c.args.listed.now.rows c.args.self.now.mirror.items c.sift_row.new.shelves c.keep_rows.new.shelves c.args.i _ c.keep_rows.ensures.stay (here k l)) pair plus minus
