-- The curves that the decoder works with.
-- Source: V. Guruswami and M. Sudan, Improved decoding of Reed-Solomon and algebraic-geometry codes, IEEE Transactions on Information Theory 45 (1999).
use Rattle.std.specs.Prelude.{ℕ, ◌-◌, ◌*◌, ◌<◌, ◌≤◌, List, length, All}
use Rattle.algebra.specs.Ring.{Ring}
use Rattle.algebra.specs.Bivariate.{Bivariate, HasMultiplicity, greatest, weight_by}
use Rattle.decoding_terms.specs.Parameters.{IsAgreement}
use Rattle.pair_terms.specs.Pairs.{Pair}
use Rattle.list_decode.specs.Points.{ArePoints}

-- what an interpolator promises of the curve that it finds for these pairs, by the parameters that are chosen for messages of k
-- coefficients and coalitions of c: t of the points are a c-th part of them, all terms weigh less than e, and each point is a
-- zero of multiplicity s
pub record IsCurveOf {F : Type 0} (R : Ring F) (number : F → ℕ) (k c : ℕ) (pairs : List Pair) (q : Bivariate F) : Type 0 where
  pub some : 1 ≤ k
  pub points : List (F × F)
  pub are : ArePoints number pairs points
  pub t : ℕ
  pub s : ℕ
  pub e : ℕ
  pub agreement : IsAgreement c (length pairs) t
  pub enough : e ≤ s * t
  pub light : greatest (weight_by (k - 1)) q < e
  pub zeros : All (λ p. HasMultiplicity R s q p.0 p.1) points
