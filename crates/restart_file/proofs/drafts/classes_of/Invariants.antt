use Rattle.std.proofs.Common.{◌≡◌, take}
use Rattle.restart_file.specs.Texts.{class_counts}
use Rattle.restart_file.proofs.drafts.classes_of.Given as goal

abbrev pub invariant-loop-i : goal.invariant-loop-i
invariant-loop-i l = l.counts ≡ class_counts (take l.i l.rows.rows)
