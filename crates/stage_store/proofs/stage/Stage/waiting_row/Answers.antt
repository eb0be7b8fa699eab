use Rattle.std.proofs.Common.{arith, length, ap, length-drop}
use Rattle.stage_store.specs.Stage.{waiting_of}
use Rattle.stage_store.proofs.stage.Stage.waiting_row.Goals as goal

pub overflow_add-self-inside : goal.overflow_add-self-inside
overflow_add-self-inside c =
    omega (arith, ap (λ s. length (waiting_of s)) c.self.view_is, length-drop c.self.inside.waited c.self.inside.waiting.rows, c.self.invariant.waited_inside, c.self.invariant.waiting_most, c.requires)
