use Rattle.std.proofs.Common.{◌<◌, ◌^◌}
use Rattle.gf2m.proofs.ByTables.{inverse_by_tables, inverse_below}
use Rattle.gf2m.proofs.arithmetic.inverse_of.Goals as goal

pub returns-clause-value : goal.returns-clause-value
returns-clause-value g c = inverse_by_tables g.row.M c.requires.low c.requires.high c.exponents.result.now c.logarithms-logarithms.result.now c.exponents.ensures c.logarithms-logarithms.ensures c.args.x c.requires.positive c.requires.below

pub returns-clause-below : goal.returns-clause-below
returns-clause-below g c =
    let positive : 0 < c.args.x = c.requires.positive in
    let below : c.args.x < 2 ^ g.row.M = c.requires.below in
    inverse_below g.row.M c.requires.low c.requires.high c.exponents.result.now c.logarithms-logarithms.result.now c.exponents.ensures c.logarithms-logarithms.ensures c.args.x positive below
