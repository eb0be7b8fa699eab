-- The cells that are guessed are those of the line, where it is a line of cells.
use Rattle.std.proofs.Common.{ap, sym, ◌∙◌, ◌≡◌, ◌++◌, drop, length}
use Rattle.mat_files.specs.Texts.{line_of}
use Rattle.restart_file.proofs.Numerals.{drop_length, found_equal}
use Rattle.restart_file.proofs.numbers.cells_in.Goals as goal

pub returns-clause-complete : goal.returns-clause-complete
returns-clause-complete c = λ zs len range is.
    let same : c.guess.new.cells ≡ zs = c.guess.ensures.cells zs len range (c.behind.ensures ∙ ap (drop (length c.args.word.now)) is ∙ drop_length c.args.word.now (line_of zs)) in (
      found_equal c.as_slice.result.now c.args.line.now c.eq.result c.eq.ensures
          (c.as_slice.ensures.value ∙ c.in_ok-push_cells.ensures ∙ ap (λ front. front ++ (c.args.word.now ++ line_of c.guess.new.cells)) c.clear.ensures.items ∙ ap (λ v. c.args.word.now ++ line_of v) same ∙ sym is),
      same,
    )
