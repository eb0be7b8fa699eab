use Rattle.std.proofs.Common.{◌≡◌, map, take, IsUtf8}
use Rattle.std.specs.List.{AllByRecursion}
use Rattle.tool_words.proofs.reading.texts.Given as goal

abbrev pub invariant-loop-i : goal.invariant-loop-i
invariant-loop-i l = (map (λ w. w.now) l.texts.items ≡ take l.i l.words) × AllByRecursion IsUtf8 (take l.i l.words)
