-- Zeros come behind: the numbers that were there stay.
use Rattle.std.proofs.Common.{◌≡◌, ◌<◌, ◌≤◌, ◌-◌, ℕ, length, get_or, vec_len}
use Rattle.reduce_tree.proofs.tier.fill.Given as goal

abbrev pub invariant-loop-numbers : goal.invariant-loop-numbers
invariant-loop-numbers l = record {
  kept : (k : ℕ) → k < length l.initial.numbers.items → get_or l.numbers.items k 0 ≡ get_or l.initial.numbers.items k 0;
  count : length l.initial.numbers.items ≤ length l.numbers.items;
}

abbrev pub decreases-loop-numbers : goal.decreases-loop-numbers
decreases-loop-numbers l = l.len - vec_len l.numbers
