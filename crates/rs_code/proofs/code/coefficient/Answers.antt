use Rattle.std.proofs.Common.{◌≡◌, ◌<◌, ◌≤◌, arith}
use Rattle.rs_code.proofs.FieldSize.{some_elements, most_elements}
use Rattle.rs_code.proofs.code.coefficient.Goals as goal

pub overflow_cast-number-3 : goal.overflow_cast-number-3
overflow_cast-number-3 g c =
    let met = g.met.F.Field in
    let some : 0 < g.F.Field.Q = some_elements g.F.Field.BITS g.F.Field.Q met.size in
    let most : g.F.Field.Q ≤ 256 = most_elements g.F.Field.BITS g.F.Field.Q met.size met.most_bits in
    let is : c.Q.result ≡ g.F.Field.Q = c.Q.ensures in
    omega arith
