use Rattle.std.proofs.Common.{◌≤◌, ◌^◌, arith}
use Rattle.gf2m.proofs.Halves.{sixteen_below}
use Rattle.gf2m.proofs.slices.low_products.Goals as goal

pub product_of-requires-clause-right : goal.product_of-requires-clause-right
product_of-requires-clause-right g c = let h : 16 ≤ 2 ^ g.row.M = sixteen_below g.row.M c.requires.low in omega arith
