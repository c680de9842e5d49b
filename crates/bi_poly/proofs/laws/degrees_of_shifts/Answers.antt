use Rattle.bi_poly.proofs.ShiftedDegrees.{shifted_x, shifted_y, shifted_weight}
use Rattle.bi_poly.proofs.laws.degrees_of_shifts.Goals as goal

pub returns-clause-x : goal.returns-clause-x
returns-clause-x g c = let met = g.met.F.Field in λ q shifted by is. shifted_x g.F.Field.ring g.F.Field.number met.number_nil met.same q shifted by is

pub returns-clause-y : goal.returns-clause-y
returns-clause-y g c = let met = g.met.F.Field in λ q shifted by is. shifted_y g.F.Field.ring g.F.Field.number met.number_nil met.same q shifted by is

pub returns-clause-weight : goal.returns-clause-weight
returns-clause-weight g c = let met = g.met.F.Field in λ q shifted by is w. shifted_weight g.F.Field.ring g.F.Field.number met.number_nil met.same q shifted by is w
