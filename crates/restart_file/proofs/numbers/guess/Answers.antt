-- One cell more is guessed from the next word.
use Rattle.std.proofs.Common.{rules, arith, length, ◌<◌, subst, sym, SFits, w64, to_z, of_z, to_z-of_z, ◌∙◌}
use Rattle.std.proofs.lemmas.List.{length-set}
use Rattle.std.specs.Prelude.{ℤ}
use Rattle.int_vector.specs.Range.{InRange}
use Rattle.restart_file.proofs.Numerals.{guessed_more, range_more}
use Rattle.restart_file.proofs.numbers.guess.Goals as goal

pub loop-i-preserved : goal.loop-i-preserved
loop-i-preserved c =
    let fits : SFits w64 c.number_in.result = search rules in
    let n : ℤ = to_z w64 (of_z w64 c.number_in.result) in
    let inside : c.loop-i.i < length c.loop-i.cells = omega (arith, c.loop-i-test.true, c.loop-i.auto.cells) in
    record {
      guessed = λ zs same range is.
          let len = same ∙ length-set c.loop-i.cells c.loop-i.i n in
          guessed_more zs c.loop-i.i c.loop-i.cells c.loop-i.rest.now c.split_at.result.0.now c.split_at.result.1.now c.behind_first-rest.result.now c.word_len.result n inside len range c.word_len.ensures.within c.word_len.ensures.before
          c.word_len.ensures.ends c.split_at.ensures.front c.split_at.ensures.back (λ z r w. to_z-of_z fits ∙ c.number_in.ensures.is z r w) c.behind_first-rest.ensures (c.loop-i.invariant.guessed zs len range is);
      range = range_more c.loop-i.cells c.loop-i.i n inside (subst InRange (sym (to_z-of_z fits)) c.number_in.ensures.range) c.loop-i.invariant.range;
    }
