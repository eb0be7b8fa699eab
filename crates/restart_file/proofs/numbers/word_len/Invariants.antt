use Rattle.std.proofs.Common.{◌≡◌, ℕ, ◌<◌, get_or, false}
use Rattle.restart_file.specs.Inside.Words.{ends_word}
use Rattle.restart_file.proofs.numbers.word_len.Given as goal

abbrev pub invariant-loop-i : goal.invariant-loop-i
invariant-loop-i l = (k : ℕ) → k < l.i → ends_word (get_or l.text k 0) ≡ false
