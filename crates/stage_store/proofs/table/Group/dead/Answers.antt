-- A row with a bit in either reading is dead: by a line of bars or by one of reaches.
use Rattle.std.proofs.Common.{inl, inr}
use Rattle.stage_store.proofs.LineBits.{either_bit}
use Rattle.stage_store.proofs.table.Group.dead.Goals as goal

pub returns-then-barred : goal.returns-then-barred
returns-then-barred c = λ r rl bit. inl (c.any-barred.ensures r rl bit)

pub returns : goal.returns
returns c = λ r rl bit. elim (either_bit c.any-barred.result c.any.result r bit) [
  | inl a ↦ inl (c.any-barred.ensures r rl a)
  | inr b ↦ inr (c.any.ensures r rl b)
]
