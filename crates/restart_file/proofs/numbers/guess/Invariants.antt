-- Where the text is a line of cells, those so far are guessed and the rest of it is left.
use Rattle.std.proofs.Common.{◌≡◌, length, List}
use Rattle.std.specs.Prelude.{ℤ}
use Rattle.std.specs.List.{AllByRecursion, AllWithin}
use Rattle.int_vector.specs.Range.{InRange}
use Rattle.mat_files.specs.Texts.{line_of}
use Rattle.restart_file.specs.Inside.Words.{IsGuessed}
use Rattle.restart_file.proofs.numbers.guess.Given as goal

abbrev pub invariant-loop-i : goal.invariant-loop-i
invariant-loop-i l = record {
  guessed : (zs : List ℤ) → length zs ≡ length l.cells → AllByRecursion InRange zs → l.text ≡ line_of zs → IsGuessed zs l.i l.cells l.rest;
  range : AllWithin InRange l.cells 0 l.i;
}
