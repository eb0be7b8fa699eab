use Rattle.std.proofs.Common.{◌-◌, vec_len}
use Rattle.stage_store.proofs.tally.fill.Given as goal

abbrev pub decreases-loop-numbers : goal.decreases-loop-numbers
decreases-loop-numbers l = l.len - vec_len l.numbers
