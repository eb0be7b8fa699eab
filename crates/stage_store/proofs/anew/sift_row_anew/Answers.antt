-- The lines in which the row is marked tell what it bars and reaches, so they are read against the other table as for a
-- new row.
use Rattle.std.proofs.Common.{◌≡◌, ◌∙◌, ◌*◌, ◌/◌, ◌<◌, ℕ, List, length, get_or, sym, subst, subst₂, arith}
use Rattle.std.specs.Prelude.{OnOk}
use Rattle.std.proofs.lemmas.List.{get_or_default}
use Rattle.lift_core.specs.ToolSystems.{width}
use Rattle.lift_core.specs.Stages.{has_positive_last, has_negative_last}
use Rattle.stage_store.specs.Classes.{row_at}
use Rattle.stage_store.specs.Levels.{BarsLine, ReachesLine}
use Rattle.stage_store.specs.Sieve.{AreReads, AreSiftedBefore, IsBefore}
use Rattle.stage_store.proofs.Tables.{group_at, sized_at, inside_table}
use Rattle.stage_store.proofs.Classes.{each_at}
use Rattle.stage_store.proofs.Sifting.{marked_reads}
use Rattle.stage_store.proofs.anew.sift_row_anew.Goals as goal
use Rattle.stage_store.specs.declared.side.Side.TheVariants.{Plus}

pub sift_first-requires-clause-row : goal.sift_first-requires-clause-row
sift_first-requires-clause-row c =
    let e : c.index.result.now ≡ get_or c.args.plus.now.ids.items c.args.k 0 = c.index.ensures ∙ get_or_default c.args.plus.now.ids.items c.args.k c.index.result.now 0 c.requires.place in
    omega (
      arith,
      e,
      each_at (λ j. j < length c.args.reaches.now) c.args.plus.now.ids.items c.args.k 0
          (inside_table c.args.system.now.equations c.args.listed.now.rows (IsBefore c.args.listed.now.rows has_positive_last (length c.args.reaches.now)) (length c.args.reaches.now) (length c.args.reaches.now) c.args.plus.now (λ x xl p. p.0) c.requires.plus) c.requires.place,
    )

pub sift_first-requires-clause-places : goal.sift_first-requires-clause-places
sift_first-requires-clause-places c = inside_table c.args.system.now.equations c.args.listed.now.rows (IsBefore c.args.listed.now.rows has_negative_last (length c.args.reaches.now)) (length c.args.reaches.now) (length c.args.reaches.now) c.args.minus.now (λ x xl p. p.0) c.requires.minus

pub sift_first-requires-clause-few : goal.sift_first-requires-clause-few
sift_first-requires-clause-few c = omega (arith, c.requires.minus.few, c.requires.reach_count, c.requires.few)

pub sift_first-requires-clause-groups : goal.sift_first-requires-clause-groups
sift_first-requires-clause-groups c = c.requires.minus.count

pub sift_first-requires-clause-sized : goal.sift_first-requires-clause-sized
sift_first-requires-clause-sized c = c.requires.minus.sized

pub sift_first-requires-clause-tell : goal.sift_first-requires-clause-tell
sift_first-requires-clause-tell c = c.requires.minus.groups

pub sift_first-requires-clause-bar_reads : goal.sift_first-requires-clause-bar_reads
sift_first-requires-clause-bar_reads c =
    let sized = (sized_at (16 * width c.args.system.now.equations) c.args.plus.now.groups.items (c.args.k / 64) c.index-group.result.now c.requires.plus.sized (omega (arith, c.requires.place, c.requires.plus.count)) c.index-group.ensures) in
    let group = (group_at c.args.system.now.equations c.args.listed.now.rows c.args.plus.now.ids.items c.args.plus.now.groups.items (c.args.k / 64) c.index-group.result.now c.requires.plus.groups (omega (arith, c.requires.place, c.requires.plus.count)) c.index-group.ensures) in
    let here : AreReads (ReachesLine (row_at c.args.listed.now.rows c.index.result.now)) (16 * width c.args.system.now.equations) c.take_marked.new.places.items =
    subst₂ (λ (i n : ℕ). AreReads (ReachesLine (row_at c.args.listed.now.rows i)) n c.take_marked.new.places.items) (sym (c.index.ensures ∙ get_or_default c.args.plus.now.ids.items c.args.k c.index.result.now 0 c.requires.place)) sized.reached_count
    (marked_reads ReachesLine c.args.listed.now.rows c.args.plus.now.ids.items c.index-group.result.now.reached c.take_marked.new.places.items c.args.k group.reached c.in_ok-take_marked.ensures) in
    subst (λ (places : List ℕ). AreReads (ReachesLine (row_at c.args.listed.now.rows c.index.result.now)) (16 * width c.args.system.now.equations) places) (sym c.deref.ensures.value) here

pub sift_first-requires-clause-reach_reads : goal.sift_first-requires-clause-reach_reads
sift_first-requires-clause-reach_reads c =
    let sized = (sized_at (16 * width c.args.system.now.equations) c.args.plus.now.groups.items (c.args.k / 64) c.index-group.result.now c.requires.plus.sized (omega (arith, c.requires.place, c.requires.plus.count)) c.index-group.ensures) in
    let group = (group_at c.args.system.now.equations c.args.listed.now.rows c.args.plus.now.ids.items c.args.plus.now.groups.items (c.args.k / 64) c.index-group.result.now c.requires.plus.groups (omega (arith, c.requires.place, c.requires.plus.count)) c.index-group.ensures) in
    let here : AreReads (BarsLine c.args.system.now.equations c.args.listed.now.rows (row_at c.args.listed.now.rows c.index.result.now)) (16 * width c.args.system.now.equations) c.take_marked-2.new.places.items =
    subst₂ (λ (i n : ℕ). AreReads (BarsLine c.args.system.now.equations c.args.listed.now.rows (row_at c.args.listed.now.rows i)) n c.take_marked-2.new.places.items) (sym (c.index.ensures ∙ get_or_default c.args.plus.now.ids.items c.args.k c.index.result.now 0 c.requires.place)) sized.bars_count
    (marked_reads (BarsLine c.args.system.now.equations c.args.listed.now.rows) c.args.listed.now.rows c.args.plus.now.ids.items c.index-group.result.now.bars c.take_marked-2.new.places.items c.args.k group.bars c.in_ok-take_marked-2.ensures) in
    subst (λ (places : List ℕ). AreReads (BarsLine c.args.system.now.equations c.args.listed.now.rows (row_at c.args.listed.now.rows c.index.result.now)) (16 * width c.args.system.now.equations) places) (sym c.deref-2.ensures.value) here

pub returns-clause-sifted : goal.returns-clause-sifted
returns-clause-sifted c =
    subst (λ (i : ℕ). OnOk c.sift_first.result (AreSiftedBefore Plus c.args.system.now.equations c.args.listed.now.rows c.sift_first.new.shelves c.args.mirror.now i c.args.end c.args.minus.now.ids.items)) (c.index.ensures ∙ get_or_default c.args.plus.now.ids.items c.args.k c.index.result.now 0 c.requires.place) c.sift_first.ensures.sifted
