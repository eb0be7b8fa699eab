-- What is filed is marked for the search, and the search of part 0 and of the part of z is a search of all.
use Rattle.std.proofs.Common.{◌∙◌, sym}
use Rattle.reduce_tree.proofs.Trees.{bounds_with, are_bounds, fits_rows, tree_marked, tree_found, tree_none, tree_result}
use Rattle.reduce_tree.proofs.tree.Tree.find_below_before.Goals as goal

pub find_below-requires-clause-marked : goal.find_below-requires-clause-marked
find_below-requires-clause-marked c =
    tree_marked c.self.inside.width c.self.inside.levels c.self.inside.filed.items c.self.inside.index c.self.invariant c.args.pool.now.rows c.args.z.now (bounds_with c.signature-bits.result c.size_of.result c.args.end)
    (fits_rows c.args.self.now c.self.inside.width c.self.inside.levels c.self.inside.filed.items c.args.pool.now c.self.view_is c.requires.fits)
    (are_bounds c.self.inside.levels c.args.z.now c.signature-bits.result c.size_of.result c.args.end c.signature-bits.ensures c.size_of.ensures)

pub returns-in-Some : goal.returns-in-Some
returns-in-Some c =
    tree_found c.self.inside.width c.self.inside.levels c.self.inside.filed.items c.self.inside.index c.self.invariant c.args.pool.now.rows c.args.z.now (bounds_with c.signature-bits.result c.size_of.result c.args.end)
    c.args.self.now c.in-Some.id.0 c.self.view_is c.in-Some.ensures

pub returns-then-part-eq0 : goal.returns-then-part-eq0
returns-then-part-eq0 c =
    tree_none c.self.inside.width c.self.inside.levels c.self.inside.filed.items c.self.inside.index c.self.invariant c.args.pool.now.rows c.args.z.now (bounds_with c.signature-bits.result c.size_of.result c.args.end)
    c.args.self.now 0 c.self.view_is
    (fits_rows c.args.self.now c.self.inside.width c.self.inside.levels c.self.inside.filed.items c.args.pool.now c.self.view_is c.requires.fits)
    (are_bounds c.self.inside.levels c.args.z.now c.signature-bits.result c.size_of.result c.args.end c.signature-bits.ensures c.size_of.ensures)
    (sym c.if-part-eq0.true ∙ c.part_of-part.ensures) c.in_default.ensures c.in_default.ensures

pub find_below-requires-2-clause-marked : goal.find_below-requires-2-clause-marked
find_below-requires-2-clause-marked c =
    tree_marked c.self.inside.width c.self.inside.levels c.self.inside.filed.items c.self.inside.index c.self.invariant c.args.pool.now.rows c.args.z.now (bounds_with c.signature-bits.result c.size_of.result c.args.end)
    (fits_rows c.args.self.now c.self.inside.width c.self.inside.levels c.self.inside.filed.items c.args.pool.now c.self.view_is c.requires.fits)
    (are_bounds c.self.inside.levels c.args.z.now c.signature-bits.result c.size_of.result c.args.end c.signature-bits.ensures c.size_of.ensures)

pub returns : goal.returns
returns c =
    tree_result c.self.inside.width c.self.inside.levels c.self.inside.filed.items c.self.inside.index c.self.invariant c.args.pool.now.rows c.args.z.now (bounds_with c.signature-bits.result c.size_of.result c.args.end)
    c.find_below-2.result c.args.self.now c.from.result c.self.view_is
    (fits_rows c.args.self.now c.self.inside.width c.self.inside.levels c.self.inside.filed.items c.args.pool.now c.self.view_is c.requires.fits)
    (are_bounds c.self.inside.levels c.args.z.now c.signature-bits.result c.size_of.result c.args.end c.signature-bits.ensures c.size_of.ensures)
    (c.from.ensures ∙ c.part_of-part.ensures) c.in_default.ensures c.find_below-2.ensures
