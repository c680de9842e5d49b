use Rattle.std.proofs.Common.{ap, ◌∙◌}
use Rattle.bi_poly.specs.Rows.{polynomial_of}
use Rattle.bi_poly.proofs.Cells.{no_rows}
use Rattle.bi_poly.proofs.bivariate.BiPoly.zero.Goals as goal

pub returns : goal.returns
returns g c = ap (polynomial_of g.F.Field.number) c.new.ensures.items ∙ no_rows g.F.Field.ring g.F.Field.number g.met.F.Field.number_nil g.met.F.Field.same
