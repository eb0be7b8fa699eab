-- The row's bits are set in the lines of the last group and its norm is taken into the group's bounds; the other groups
-- are as they were.
use Rattle.std.proofs.Common.{◌≡◌, ◌+◌, ◌*◌, ◌/◌, ◌%◌, ◌<◌, ℕ, List, set, length, ap, sym, subst, subst₂, arith, ◌++◌, ◌∷◌, []}
use Rattle.stage_store.specs.Sieve.{AreGroups, IsGroup, IsSized}
use Rattle.stage_store.proofs.Tables.{groups_set, group_marked}
use Rattle.stage_store.proofs.table.Table.push.Goals as goal

pub returns-clause-groups : goal.returns-clause-groups
returns-clause-groups c = λ S listed h is above under.
    let ids : c.open_group.new.self.ids.items ≡ c.args.self.now.ids.items = ap (λ v. v.items) c.open_group.ensures.ids in
    let b : ℕ = c.len-place.result / 64 in
    let inside : c.len-place.result / 64 < length c.open_group.new.self.groups.items = omega (arith, c.in_ok-open_group.ensures.count, c.len-place.ensures) in
    let before : AreGroups S listed c.open_group.new.self.ids.items c.open_group.new.self.groups.items =
    subst (λ (l : List ℕ). AreGroups S listed l c.open_group.new.self.groups.items) (sym ids) (c.in_ok-open_group.ensures.groups S listed h) in
    let old : IsGroup S listed c.open_group.new.self.ids.items (c.len-place.result / 64) c.index_mut-group.result.now =
    subst (IsGroup S listed c.open_group.new.self.ids.items (c.len-place.result / 64)) (sym c.index_mut-group.ensures.value) (before (c.len-place.result / 64) c.index_mut-group.result.now inside) in
    let sized : IsSized (8 * length c.args.bars.now) c.index_mut-group.result.now =
    subst (IsSized (8 * length c.args.bars.now)) (sym c.index_mut-group.ensures.value) (c.in_ok-open_group.ensures.sized (c.len-place.result / 64) c.index_mut-group.result.now inside) in
    let place : length c.open_group.new.self.ids.items ≡ 64 * (c.len-place.result / 64) + c.len-place.result % 64 = omega (arith, ap length ids, c.len-place.ensures) in
    subst (λ (l : List ℕ). AreGroups S listed l (set c.open_group.new.self.groups.items (c.len-place.result / 64) (record { bars = c.mark.new.self; reached = c.mark-2.new.self; least = c.min-group.result; most = c.max-group.result }))) (sym c.in_ok-push.ensures.items)
    (groups_set S listed c.open_group.new.self.ids.items c.args.i c.open_group.new.self.groups.items (c.len-place.result / 64) (c.len-place.result % 64) (record { bars = c.mark.new.self; reached = c.mark-2.new.self; least = c.min-group.result; most = c.max-group.result }) place (omega arith) before
    (subst₂ (λ (l m : ℕ). IsGroup S listed (c.open_group.new.self.ids.items ++ (c.args.i ∷ [])) (c.len-place.result / 64) (record { bars = c.mark.new.self; reached = c.mark-2.new.self; least = l; most = m })) (omega (arith, c.min-group.ensures)) (omega (arith, c.max-group.ensures))
    (group_marked S listed c.open_group.new.self.ids.items c.args.i (c.len-place.result / 64) (c.len-place.result % 64) c.args.norm c.args.bars.now c.args.reached.now c.mark.new.self c.mark-2.new.self c.index_mut-group.result.now place sized c.requires.lengths
    is above under c.mark.ensures.count c.mark-2.ensures.count c.mark.ensures.marks c.mark-2.ensures.marks old)))
