-- The line is that of the counts exactly where its cells are counts.
use Rattle.std.proofs.Common.{arith, ap, sym, ◌∙◌, ◌≡◌, ◌++◌, ◌∷◌, [], ℕ, List, length, true, subst}
use Rattle.std.specs.Prelude.{ℤ, pos, map}
use Rattle.std.proofs.lemmas.List.{length-map, length-take-le}
use Rattle.mat_files.specs.Texts.{line_of}
use Rattle.restart_file.proofs.CountLines.{counts_as_cells, counts_in_range, counts_small}
use Rattle.std.specs.List.{All}
use Rattle.int_vector.specs.Range.{InRange}
use Rattle.restart_file.proofs.counts.counts_in.Goals as goal

pub returns-then-not-branch-clause-complete : goal.returns-then-not-branch-clause-complete
returns-then-not-branch-clause-complete c = λ ns len small is.
    let found = c.in_ok-cells_in.ensures.complete (map pos ns) (omega (arith, length-map ns (λ (x : ℕ). pos x), len, length-take-le (length c.args.counts.now) (pos 0 ∷ pos 0 ∷ pos 0 ∷ []) c.requires)) (counts_in_range ns small) (is ∙ counts_as_cells c.args.word.now ns) in
    let e : c.in_ok-cells_in.field-0 ≡ true = found.0 in
    absurd cc

pub returns-clause-sound : goal.returns-clause-sound
returns-clause-sound c = λ t.
    let e : c.in_ok-cells_in.field-0 ≡ true = cc in
    c.in_ok-cells_in.ensures.sound e ∙ ap (λ (zs : List ℤ). c.args.word.now ++ line_of zs) (c.counts_of.ensures.sound t) ∙ sym (counts_as_cells c.args.word.now c.counts_of.new.counts)

pub returns-clause-complete : goal.returns-clause-complete
returns-clause-complete c = λ ns len small is.
    let found = c.in_ok-cells_in.ensures.complete (map pos ns) (omega (arith, length-map ns (λ (x : ℕ). pos x), len, length-take-le (length c.args.counts.now) (pos 0 ∷ pos 0 ∷ pos 0 ∷ []) c.requires)) (counts_in_range ns small) (is ∙ counts_as_cells c.args.word.now ns) in
    c.counts_of.ensures.complete ns found.1

pub returns-clause-small : goal.returns-clause-small
returns-clause-small c = λ t. counts_small c.counts_of.new.counts (subst (λ (zs : List ℤ). All InRange zs) (c.counts_of.ensures.sound t) c.in_ok-cells_in.ensures.range)
