-- The pairs with the rows before the place are sifted by the lines, and the pair with the row's own negative is kept.
use Rattle.std.proofs.Common.{◌≡◌, ◌∙◌, ◌<◌, length, get_or, arith}
use Rattle.std.proofs.lemmas.List.{get_or_default}
use Rattle.stage_store.proofs.Sifting.{on_ok_couple_sifted, stay_through}
use Rattle.stage_store.proofs.anew.sift_couple_anew.Goals as goal

pub sift_row_anew-requires-clause-end : goal.sift_row_anew-requires-clause-end
sift_row_anew-requires-clause-end c = omega (arith, c.requires.couples.count, c.requires.place)

pub keep_rows-requires-clause-one : goal.keep_rows-requires-clause-one
keep_rows-requires-clause-one c =
    let e : c.index.result.now ≡ get_or c.args.plus.now.ids.items c.args.k 0 = c.index.ensures ∙ get_or_default c.args.plus.now.ids.items c.args.k c.index.result.now 0 c.requires.place in
    omega (arith, e, (c.requires.plus.inside c.args.k c.requires.place).0)

pub keep_rows-requires-clause-two : goal.keep_rows-requires-clause-two
keep_rows-requires-clause-two c =
    let l : c.args.k < length c.args.minus.now.ids.items = omega (arith, c.requires.couples.count, c.requires.place) in
    let e : c.index-2.result.now ≡ get_or c.args.minus.now.ids.items c.args.k 0 = c.index-2.ensures ∙ get_or_default c.args.minus.now.ids.items c.args.k c.index-2.result.now 0 l in
    omega (arith, e, (c.requires.minus.inside c.args.k l).0)

pub returns-clause-stay : goal.returns-clause-stay
returns-clause-stay c = stay_through _ _ _ c.sift_row_anew.ensures.stay c.keep_rows.ensures.stay

pub returns-clause-sifted : goal.returns-clause-sifted
returns-clause-sifted c =
    let l : c.args.k < length c.args.minus.now.ids.items = omega (arith, c.requires.couples.count, c.requires.place) in
    on_ok_couple_sifted c.args.system.now.equations c.args.listed.now.rows c.sift_row_anew.new.shelves c.keep_rows.new.shelves c.args.mirror.now c.args.plus.now.ids.items c.args.minus.now.ids.items c.args.k c.index.result.now c.index-2.result.now c.keep_rows.result
    c.keep_rows.ensures.stay (c.index.ensures ∙ get_or_default c.args.plus.now.ids.items c.args.k c.index.result.now 0 c.requires.place) (c.index-2.ensures ∙ get_or_default c.args.minus.now.ids.items c.args.k c.index-2.result.now 0 l)
    c.in_ok-sift_row_anew.ensures.sifted c.keep_rows.ensures.kept
