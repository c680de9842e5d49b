use Rattle.std.proofs.Common.{◌≡◌, ℕ, subst, arith}
use Rattle.std.specs.Option.{IfSome}
use mathlib.Core.Path.{fun_ext}
use Rattle.algebra.specs.Bivariate.{greatest, weight_by, x_power}
use Rattle.bi_poly.proofs.bivariate.BiPoly.x_degree.Goals as goal

-- where y counts nothing, only the power of x does
plain : weight_by 0 ≡ x_power
plain = fun_ext (λ i. fun_ext (λ j. omega arith))

pub returns-clause-some : goal.returns-clause-some
returns-clause-some g c =
    subst (λ (weigh : ℕ → ℕ → ℕ). IfSome c.weighted_degree.result (λ d. d ≡ greatest weigh c.args.self.now)) plain c.weighted_degree.ensures.some
