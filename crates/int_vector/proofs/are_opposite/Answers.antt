-- The product of two entries has room in 128 bits.
use Rattle.std.proofs.Common.{rules, SFits, w64, to_z-of_z}
use Rattle.std.specs.Prelude.{◌*ℤ◌}
use mir.Syntax.{w128}
use Rattle.int_vector.proofs.Products.{widens, product_fits}
use Rattle.int_vector.proofs.are_opposite.Goals as goal

pub returns : goal.returns
returns c =
    let fx : SFits w64 c.args.x = search rules in
    let fy : SFits w64 c.args.y = search rules in
    let gx : SFits w128 c.args.x = widens c.args.x fx in
    let gy : SFits w128 c.args.y = widens c.args.y fy in
    let p : SFits w128 (c.args.x *ℤ c.args.y) = product_fits c.args.x c.args.y fx fy in
    simp to_z-of_z (search rules)
