use Rattle.std.proofs.Common.{◌≡◌, subst}
use Rattle.algebra.specs.Bivariate.{Bivariate, IsProper}
use Rattle.bi_poly.specs.Results.{IsPowerOfX, IsStripped}
use Rattle.rr_roots.proofs.Branching.{proper_nonzero, reduction_of}
use Rattle.rr_roots.proofs.branches.reduction.Goals as goal

pub returns : goal.returns
returns g c =
    let R = g.F.Field.ring in
    let same : c.in_ok-curve.curve ≡ c.args.q.now = c.in_ok-curve.ensures in
    reduction_of R c.args.q.now c.strip_x.new.self c.strip_x.result
    (subst (λ (t : Bivariate g.row.F.Denot). IsPowerOfX c.strip_x.result t) same c.strip_x.ensures.power)
    (subst (λ (t : Bivariate g.row.F.Denot). IsStripped c.strip_x.result t c.strip_x.new.self) same c.strip_x.ensures.divided)
    (proper_nonzero R c.args.q.now (subst (λ (t : Bivariate g.row.F.Denot). IsProper R t) same c.strip_x.ensures.proper))
