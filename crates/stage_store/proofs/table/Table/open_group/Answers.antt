-- A group without rows tells nothing, so one more is true of the rows that the table has.
use Rattle.std.proofs.Common.{sym, subst, length, List, arith}
use Rattle.stage_store.specs.declared.table.Group.{Group}
use Rattle.stage_store.specs.Sieve.{AreGroups}
use Rattle.stage_store.specs.Levels.{BarsLine, ReachesLine}
use Rattle.stage_store.proofs.LineBits.{tell_nothing}
use Rattle.stage_store.proofs.Tables.{between_nothing, groups_put}
use Rattle.stage_store.proofs.table.Table.open_group.Goals as goal

pub returns-in_ok-push-clause-groups : goal.returns-in_ok-push-clause-groups
returns-in_ok-push-clause-groups c = λ S listed h.
    subst (λ (l : List Group). AreGroups S listed c.args.self.now.ids.items l) (sym c.in_ok-push.ensures.items)
    (groups_put S listed c.args.self.now.ids.items c.args.self.now.groups.items c.in_ok-new.field-0 h (record {
      bars = tell_nothing (BarsLine S listed) listed c.args.self.now.ids.items (length c.args.self.now.groups.items) c.in_ok-new.field-0.bars c.in_ok-new.ensures.bars;
      reached = tell_nothing ReachesLine listed c.args.self.now.ids.items (length c.args.self.now.groups.items) c.in_ok-new.field-0.reached c.in_ok-new.ensures.reached;
      norms = between_nothing listed c.args.self.now.ids.items (length c.args.self.now.groups.items) c.in_ok-new.field-0.least c.in_ok-new.field-0.most (omega (arith, c.requires.count));
    }))
