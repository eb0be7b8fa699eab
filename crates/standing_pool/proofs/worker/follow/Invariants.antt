use Rattle.stage_store.specs.Stage.{IsDefined}
use Rattle.standing_pool.proofs.worker.follow.Given as goal

abbrev pub invariant-loop : goal.invariant-loop
invariant-loop g l =
    (goal.iterator-loop g).can_next l.iterator' × (goal.iterator-loop g).is_finite l.iterator' × IsDefined l.stage
