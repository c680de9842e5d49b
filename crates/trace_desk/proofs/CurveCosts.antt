-- What a curve costs at most.
use Rattle.std.proofs.Common.{◌≡◌, ℕ, zero, suc, ◌+◌, ◌-◌, ◌*◌, ◌/◌, ◌%◌, ◌<◌, ◌≤◌, refl, ◌∙◌, ap, arith}
use Rattle.std.proofs.lemmas.Nat.{mul-le}
use Rattle.std.proofs.Math.Nat.{mul-le-mul_left, mul-le-mul_right, lt_of_mul-lt-mul_left, mod-add-div}
use Rattle.decoding_terms.specs.Parameters.{AreEnough, AreParameters, equation_count, term_count}
use Rattle.decoding_terms.proofs.Sizes.{few_times, light, not_many, some_weight}
use Rattle.desk_terms.specs.Bounds.{most_equations, most_terms, linear_curve_bound, iterative_curve_bound, product_bound, iterative_product_bound}
use Rattle.gs_params.specs.declared.parameters.Params.{Params}
use Rattle.list_decode.specs.Answers.{CostsAtMost}
use Rattle.list_decode.proofs.Bounds.{weight_low}

-- z (z + 1) is even
record Halved (z : ℕ) : Type 0 where
  half : ℕ
  is : z * (z + 1) ≡ half + half

halved : (z : ℕ) → Halved z
halved zero = record { half = 0; is = refl }
halved (suc z) =
    let before = halved z in
    let half : ℕ = before.half in
    let is : z * (z + 1) ≡ half + half = before.is in
    record { half = half + (z + 1); is = omega (arith, is) }

few_equations : (n r s z : ℕ) → r ≤ n → s ≤ z → equation_count r s ≤ n * (z * (z + 1) / 2)
few_equations n r s z points few =
    let whole = halved z in
    let half : ℕ = whole.half in
    let is : z * (z + 1) ≡ half + half = whole.is in
    let half_is : z * (z + 1) / 2 ≡ half = omega (arith, is) in
    let pairs : s * (s + 1) ≤ z * (z + 1) = mul-le s (s + 1) z (z + 1) few (omega arith) in
    let all : r * (s * (s + 1)) ≤ n * (z * (z + 1)) = mul-le r (s * (s + 1)) n (z * (z + 1)) points pairs in
    let doubled : n * (z * (z + 1)) ≡ n * (half + half) = ap (λ t. n * t) is in
    let bound : n * (z * (z + 1) / 2) ≡ n * half = ap (λ t. n * t) half_is in
    let parts : n * (half + half) ≡ n * half + n * half = omega arith in
    omega arith

module _ (n k c r : ℕ) (places : r ≤ n) (enough : AreEnough (k - 1) c r) (p : Params) (points : p.r ≡ r) (weight : p.w ≡ k - 1)
    (are : AreParameters (k - 1) c r p.t p.s p.e) where
  rows_few : p.rows ≤ most_equations n k c
  rows_few =
      let is : p.rows ≡ equation_count r p.s = p.equations ∙ ap (λ t. equation_count t p.s) points in
      let few = few_equations n r p.s (c * (k - 1)) places (few_times (k - 1) c r enough p.t p.s are.agreement are.multiplicity) in
      omega arith

  columns_few : p.cols ≤ most_terms n k c
  columns_few =
      let is : p.cols ≡ term_count (k - 1) p.e = p.terms ∙ ap (λ t. term_count t p.e) weight in
      let same : p.rows ≡ equation_count r p.s = p.equations ∙ ap (λ t. equation_count t p.s) points in
      let many = not_many (k - 1) (equation_count r p.s) p.e enough.some_weight are.weight in
      let few = rows_few in
      omega arith

  pub linear_few : 16 * (p.rows * p.rows) * p.cols ≤ linear_curve_bound n k c
  linear_few =
      let square : p.rows * p.rows ≤ most_equations n k c * most_equations n k c = mul-le p.rows p.rows (most_equations n k c) (most_equations n k c) rows_few rows_few in
      let scaled : 16 * (p.rows * p.rows) ≤ 16 * (most_equations n k c * most_equations n k c) = mul-le-mul_left 16 square in
      mul-le (16 * (p.rows * p.rows)) p.cols (16 * (most_equations n k c * most_equations n k c)) (most_terms n k c) scaled columns_few

  -- the powers of y that weigh less than e
  powers_few : (p.e - 1) / p.w + 1 ≤ n + c
  powers_few =
      let w : ℕ = k - 1 in
      let q : ℕ = (p.e - 1) / p.w in
      let some : 1 ≤ r = omega (arith, enough.many) in
      let low : p.e ≤ w * (r + c - 1) =
      weight_low w c r p.t p.s p.e some are.agreement (few_times w c r enough p.t p.s are.agreement are.multiplicity) (light w c r enough p.t p.s are.agreement are.multiplicity p.e are.weight) in
      let divided : (p.e - 1) % p.w + p.w * q ≡ p.e - 1 = mod-add-div (p.e - 1) p.w in
      let scaled : p.w * q ≡ w * q = ap (λ t. t * q) weight in
      let heavy : 1 ≤ p.e = some_weight w (equation_count r p.s) p.e enough.some_weight are.weight in
      let less : w * q < w * (r + c - 1) = omega arith in
      let few : q < r + c - 1 = lt_of_mul-lt-mul_left w less in
      omega arith

  pub iterative_few : 8 * p.rows * ((p.e - 1) / p.w + 1) * p.cols ≤ iterative_curve_bound n k c
  iterative_few =
      let rows : 8 * p.rows ≤ 8 * most_equations n k c = mul-le-mul_left 8 rows_few in
      let powers : 8 * p.rows * ((p.e - 1) / p.w + 1) ≤ 8 * most_equations n k c * (n + c) = mul-le (8 * p.rows) ((p.e - 1) / p.w + 1) (8 * most_equations n k c) (n + c) rows powers_few in
      mul-le (8 * p.rows * ((p.e - 1) / p.w + 1)) p.cols (8 * most_equations n k c * (n + c)) (most_terms n k c) powers columns_few

pub linear_cost : (cost : Params → ℕ) → ((p : Params) → cost p ≤ 16 * (p.rows * p.rows) * p.cols) → (n k c r : ℕ) → r ≤ n → CostsAtMost cost k c r (linear_curve_bound n k c)
linear_cost cost most n k c r places enough p weight points are =
    let few = linear_few n k c r places enough p points weight are in
    let here = most p in
    omega arith

pub iterative_cost : (cost : Params → ℕ) → ((p : Params) → cost p ≤ 8 * p.rows * ((p.e - 1) / p.w + 1) * p.cols) → (n k c r : ℕ) → r ≤ n → CostsAtMost cost k c r (iterative_curve_bound n k c)
iterative_cost cost most n k c r places enough p weight points are =
    let few = iterative_few n k c r places enough p points weight are in
    let here = most p in
    omega arith

-- there are as many places as colluders, and at least one equation a place
pub iterative_less : (n k c r : ℕ) → AreEnough (k - 1) c r → r ≤ n → iterative_product_bound n k c ≤ product_bound n k c
iterative_less n k c r enough places =
    let w : ℕ = k - 1 in
    let z : ℕ = c * w in
    let rows : ℕ = most_equations n k c in
    let some : 1 * 1 ≤ c * w = mul-le 1 1 c w enough.some_bound enough.some_weight in
    let times : c * 1 ≤ c * (c * w) = mul-le-mul_left c (omega arith) in
    let turned : c * (c * w) ≡ c * c * w = omega arith in
    let many = enough.many in
    let colluders : c ≤ n = omega arith in
    let pairs : 1 * 2 ≤ z * (z + 1) = mul-le 1 2 z (z + 1) (omega arith) (omega arith) in
    let half : 1 ≤ z * (z + 1) / 2 = omega arith in
    let each : n * 1 ≤ n * (z * (z + 1) / 2) = mul-le-mul_left n half in
    let both : n + c ≤ rows + rows = omega arith in
    let scaled : 8 * rows * (n + c) ≤ 8 * rows * (rows + rows) = mul-le-mul_left (8 * rows) both in
    let grouped : 8 * rows * (rows + rows) ≡ 16 * (rows * rows) = omega arith in
    let first : 8 * rows * (n + c) * most_terms n k c ≤ 16 * (rows * rows) * most_terms n k c = mul-le-mul_right (most_terms n k c) (omega arith) in
    omega arith
