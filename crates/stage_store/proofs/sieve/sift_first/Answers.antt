-- The table is sifted by its groups: the lines that are read tell which of a group's rows make no new sum, and a group
-- whose norms are all closed or beyond the horizon is sifted as it stands.
use Rattle.std.proofs.Common.{◌≡◌, ◌∙◌, ◌+◌, ◌-◌, ◌*◌, ◌≤◌, ◌<◌, ℕ, List, arith, ap, sym, refl, take, drop, length, get_or, min, subst, length-take}
use Rattle.std.specs.List.{AllByRecursion}
use Rattle.lift_core.specs.Stages.{stage_norm}
use Rattle.lift_core.specs.ToolSystems.{width}
use Rattle.stage_store.specs.Sieve.{AreSiftedBy}
use Rattle.stage_store.proofs.Tables.{each_cut, each_less, group_at, sized_at}
use Rattle.stage_store.proofs.Sifting.{group_has_none, group_more, group_out, part_at, stay_through}
use Rattle.stage_store.proofs.sieve.sift_first.Goals as goal

pub dead-dead-requires-clause-bars : goal.dead-dead-requires-clause-bars
dead-dead-requires-clause-bars c = λ a l. omega (arith, (c.requires.bar_reads a l).0, (sized_at (16 * width c.args.system.now.equations) c.args.table.now.groups.items c.loop-group.group c.index-lines.result.now c.requires.sized (omega (arith, c.loop-group-test.true, c.requires.end, c.requires.groups)) c.index-lines.ensures).bars_count)

pub dead-dead-requires-clause-reached : goal.dead-dead-requires-clause-reached
dead-dead-requires-clause-reached c = λ a l. omega (arith, (c.requires.reach_reads a l).0, (sized_at (16 * width c.args.system.now.equations) c.args.table.now.groups.items c.loop-group.group c.index-lines.result.now c.requires.sized (omega (arith, c.loop-group-test.true, c.requires.end, c.requires.groups)) c.index-lines.ensures).reached_count)

pub sift_group-requires-clause-others : goal.sift_group-requires-clause-others
sift_group-requires-clause-others c = each_cut _ _ _ c.deref.result.now (subst (λ (ids : List ℕ). AllByRecursion (λ j. j < length c.args.reaches.now) ids) (sym c.deref.ensures.value) c.requires.places)

pub sift_group-requires-clause-dead : goal.sift_group-requires-clause-dead
sift_group-requires-clause-dead c =
    let n : ℕ = c.min-to.result - 64 * c.loop-group.group in
    let few : c.min-to.result - 64 * c.loop-group.group ≤ 64 = omega (arith, c.min-to.ensures) in
    let short : length (take (c.min-to.result - 64 * c.loop-group.group) (drop (64 * c.loop-group.group) c.deref.result.now)) ≤ c.min-to.result - 64 * c.loop-group.group =
    omega (arith, length-take (c.min-to.result - 64 * c.loop-group.group) (drop (64 * c.loop-group.group) c.deref.result.now)) in
    group_has_none c.args.side c.args.system.now.equations c.args.listed.now.rows c.args.i c.loop-group.group c.dead-dead.result c.args.table.now.ids.items
    (take (c.min-to.result - 64 * c.loop-group.group) (drop (64 * c.loop-group.group) c.deref.result.now)) c.args.bar_reads.now c.args.reach_reads.now c.index-lines.result.now
    c.requires.wide (omega (arith, c.requires.row, c.requires.reach_count)) (each_less (length c.args.reaches.now) (length c.args.listed.now.rows) c.args.table.now.ids.items c.requires.reach_count c.requires.places)
    (sized_at (16 * width c.args.system.now.equations) c.args.table.now.groups.items c.loop-group.group c.index-lines.result.now c.requires.sized (omega (arith, c.loop-group-test.true, c.requires.end, c.requires.groups)) c.index-lines.ensures) (group_at c.args.system.now.equations c.args.listed.now.rows c.args.table.now.ids.items c.args.table.now.groups.items c.loop-group.group c.index-lines.result.now c.requires.tell (omega (arith, c.loop-group-test.true, c.requires.end, c.requires.groups)) c.index-lines.ensures) c.requires.bar_reads c.requires.reach_reads c.dead-dead.ensures (omega (arith, short, few))
    (λ k l.
    part_at (c.min-to.result - 64 * c.loop-group.group) (64 * c.loop-group.group) k c.deref.result.now (omega (arith, l, short))
    ∙ ap (λ (xs : List ℕ). get_or xs (64 * c.loop-group.group + k) 0) c.deref.ensures.value)

pub loop-group-preserved-then-leaves_out : goal.loop-group-preserved-then-leaves_out
loop-group-preserved-then-leaves_out c = record {
  count = c.loop-group.invariant.count;
  stay = c.loop-group.invariant.stay;
  sifted = group_out c.args.side c.args.system.now.equations c.args.listed.now.rows c.args.mirror.now c.loop-group.shelves c.args.i c.loop-group.group c.index-lines.result.now.least c.index-lines.result.now.most c.norm_of-norm.result c.args.end c.args.table.now.ids.items c.requires.end c.requires.mirror (omega (arith, c.requires.row, c.requires.reach_count))
      (each_less (length c.args.reaches.now) (length c.args.listed.now.rows) c.args.table.now.ids.items c.requires.reach_count c.requires.places)
      (group_at c.args.system.now.equations c.args.listed.now.rows c.args.table.now.ids.items c.args.table.now.groups.items c.loop-group.group c.index-lines.result.now c.requires.tell (omega (arith, c.loop-group-test.true, c.requires.end, c.requires.groups)) c.index-lines.ensures).norms (c.norm_of-norm.ensures ∙ ap stage_norm c.row.ensures.row) (c.if-leaves_out.ensures refl) c.loop-group.invariant.sifted;
}

pub loop-group-preserved : goal.loop-group-preserved
loop-group-preserved c =
    let to : c.min-to.result ≡ min c.args.end (64 * c.loop-group.group + 64) = omega (arith, c.min-to.ensures) in
    record {
      count = c.sift_group.ensures.count;
      stay = stay_through _ _ _ c.loop-group.invariant.stay c.sift_group.ensures.stay;
      sifted = group_more c.args.side c.args.system.now.equations c.args.listed.now.rows c.args.mirror.now c.loop-group.shelves c.sift_group.new.shelves c.args.i c.loop-group.group c.args.end c.min-to.result c.args.table.now.ids.items c.sift_group.ensures.stay c.requires.end to c.loop-group.invariant.sifted
          (subst (λ (l : List ℕ). AreSiftedBy c.args.side c.args.system.now.equations c.args.listed.now.rows c.sift_group.new.shelves c.args.mirror.now c.args.i (take (c.min-to.result - 64 * c.loop-group.group) (drop (64 * c.loop-group.group) l))) c.deref.ensures.value c.in_ok-sift_group.ensures.sifted);
    }

pub returns-clause-sifted : goal.returns-clause-sifted
returns-clause-sifted c = λ k l. c.loop-group.invariant.sifted k (omega (arith, l, c.loop-group-test.false)) l
