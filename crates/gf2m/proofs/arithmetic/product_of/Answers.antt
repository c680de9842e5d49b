use Rattle.gf2m.proofs.ByTables.{product_by_tables, product_below}
use Rattle.gf2m.proofs.arithmetic.product_of.Goals as goal

pub returns-clause-value : goal.returns-clause-value
returns-clause-value g c = product_by_tables g.row.M c.requires.low c.requires.high c.exponents.result.now c.logarithms-logarithms.result.now c.exponents.ensures c.logarithms-logarithms.ensures c.args.x c.args.y c.requires.left c.requires.right

pub returns-clause-below : goal.returns-clause-below
returns-clause-below g c = product_below g.row.M c.requires.low c.requires.high c.exponents.result.now c.logarithms-logarithms.result.now c.exponents.ensures c.logarithms-logarithms.ensures c.args.x c.args.y c.requires.left c.requires.right
