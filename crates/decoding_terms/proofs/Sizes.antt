-- How large the parameters are.
use Rattle.std.proofs.Common.{◌≡◌, ◌⊎◌, inl, inr, ℕ, suc, ◌+◌, ◌-◌, ◌*◌, ◌/◌, ◌<◌, ◌≤◌, ap, arith}
use Rattle.std.proofs.lemmas.Bool.{cases_lt}
use Rattle.std.proofs.lemmas.Nat.{mul-le}
use Rattle.std.proofs.Math.Nat.{mul-le-mul, mul-le-mul_left, mul-le-mul_right, lt_of_mul-lt-mul_left, div-le_self}
use Rattle.decoding_terms.specs.Parameters.{AreEnough, IsAgreement, IsMultiplicity, IsWeight, equation_count, term_count}
use Rattle.decoding_terms.proofs.Squares.{above_weight, room, square_above, too_few}
use Rattle.decoding_terms.proofs.Terms.{many, term_count-next, triangle}

-- a multiplicity that does leaves room
pub above : (w r s t : ℕ) → w * r - t < s * (t * t - w * r) → w * r < t * t
above w r s t does = by_order (cases_lt (w * r) (t * t))
  where
    by_order : (w * r < t * t) ⊎ (t * t ≤ w * r) → w * r < t * t
    by_order (inl less) = less
    by_order (inr more) =
        let none : t * t - w * r ≡ 0 = omega (arith, more) in
        let nothing : s * (t * t - w * r) ≡ s * 0 = ap (λ d. s * d) none in
        absurd (omega (arith, does, nothing))

-- half of a number
pub half_below : (x n : ℕ) → x < 2 * n → x / 2 < n
half_below x n less = omega (arith, less)

-- with such a multiplicity, s t is a weight that does
pub heavy_enough : (w r s t : ℕ) → 1 ≤ w → w * r - t < s * (t * t - w * r) → equation_count r s < term_count w (s * t)
heavy_enough w r s t some does =
    let d : ℕ = t * t - w * r in
    let square : t * t ≡ d + w * r = omega (arith, above w r s t does) in
    let squares : s * (t * t) ≡ s * (d + w * r) = ap (λ x. s * x) square in
    let each : w * r * (s + 1) < t * (s * t + 1) = omega (arith, does, squares) in
    let some_s : 1 ≤ s = positive (cases_lt 0 s) in
    let scaled : s * suc (w * r * (s + 1)) ≤ s * (t * (s * t + 1)) = mul-le-mul_left s each in
    let terms = triangle w (s * t) some in
    let whole : w * (r * (s * (s + 1))) < w * (2 * term_count w (s * t)) = omega (arith, scaled, terms, some_s) in
    half_below (r * (s * (s + 1))) (term_count w (s * t)) (lt_of_mul-lt-mul_left w whole)
  where
    positive : (0 < s) ⊎ (s ≤ 0) → 1 ≤ s
    positive (inl less) = less
    positive (inr no_s) =
        let none : s ≡ 0 = omega (arith, no_s) in
        let nothing : s * (t * t - w * r) ≡ 0 * (t * t - w * r) = ap (λ x. x * (t * t - w * r)) none in
        absurd (omega (arith, does, nothing))

module _ (w equations e : ℕ) (some : 1 ≤ w) (least : IsWeight w equations e) where
  -- one less does not do
  before : (n : ℕ) → e ≡ suc n → term_count w n ≤ equations
  before n is = by_order (cases_lt equations (term_count w n))
    where
      by_order : (equations < term_count w n) ⊎ (term_count w n ≤ equations) → term_count w n ≤ equations
      by_order (inl does) = absurd (least.none_below n (omega (arith, is)) does)
      by_order (inr few) = few

  pub some_weight : 1 ≤ e
  some_weight = by_order (cases_lt 0 e)
    where
      by_order : (0 < e) ⊎ (e ≤ 0) → 1 ≤ e
      by_order (inl less) = less
      by_order (inr none) =
          let is : e ≡ 0 = omega (arith, none) in
          let counts : term_count w e ≡ term_count w 0 = ap (term_count w) is in
          absurd (omega (arith, least.holds, counts))

  pub not_many : term_count w e ≤ 2 * equations + 1
  not_many =
      let n : ℕ = e - 1 in
      let is : e ≡ suc n = omega (arith, some_weight) in
      let few = before n is in
      let next = term_count-next w n some in
      let next_is : e ≡ n + 1 = omega (arith, is) in
      let same : term_count w e ≡ term_count w (n + 1) = ap (term_count w) next_is in
      let quotient : n / w ≤ n = div-le_self n w in
      omega (arith, few, next, same, quotient, many w n some)

  pub low : w ≤ 12 → equations ≤ 8000 → e ≤ 4096
  low light few = by_order (cases_lt 4096 e)
    where
      by_order : (4096 < e) ⊎ (e ≤ 4096) → e ≤ 4096
      by_order (inr less) = less
      by_order (inl more) =
          let n : ℕ = e - 1 in
          let is : e ≡ suc n = omega (arith, more) in
          let fewer = before n is in
          let terms = triangle w n some in
          let counted : w * term_count w n ≤ 12 * 8000 = mul-le w (term_count w n) 12 8000 light (omega (arith, fewer, few)) in
          let great : 4096 * 4096 ≤ n * n = mul-le 4096 4096 n n (omega (arith, is, more)) (omega (arith, is, more)) in
          absurd (omega (arith, terms, counted, great))

-- c² w is at most 72 for the bounds that are allowed
c²w : (w c : ℕ) → c ≤ 8 → c * w ≤ 12 → c * c * w ≤ 72
c²w w c few_c few_w = by_order (cases_lt 6 c)
  where
    by_order : (6 < c) ⊎ (c ≤ 6) → c * c * w ≤ 72
    by_order (inr six) =
        let all : c * (c * w) ≤ 6 * 12 = mul-le-mul six few_w in
        omega (arith, all)
    by_order (inl more) =
        let seven : 7 * w ≤ c * w = mul-le-mul_right w more in
        let one : w ≤ 1 = omega (arith, seven, few_w) in
        let squares : c * c ≤ 8 * 8 = mul-le-mul few_c few_c in
        let all : c * c * w ≤ 64 * 1 = mul-le (c * c) w 64 1 (omega (arith, squares)) one in
        omega (arith, all)

-- the equations of multiplicity m + 1, from 2 to 12
few_equations : (r m : ℕ) → m ≤ 11 → 1 ≤ m → m * r < 72 * (m + 1) → r * (suc m * (suc m + 1)) ≤ 16000
few_equations r m most some few = by_order (cases_lt m 3)
  where
    by_order : (m < 3) ⊎ (3 ≤ m) → r * (suc m * (suc m + 1)) ≤ 16000
    by_order (inr three) =
        let points : r ≤ 95 = less_than_96 (cases_lt 95 r) in
        let first : suc m ≤ 12 = omega (arith, most) in
        let pairs : suc m * (suc m + 1) ≤ 12 * 13 = mul-le (suc m) (suc m + 1) 12 13 first (omega (arith, most)) in
        let all : r * (suc m * (suc m + 1)) ≤ 95 * 156 = mul-le r (suc m * (suc m + 1)) 95 156 points (omega (arith, pairs)) in
        omega (arith, all)
      where
        less_than_96 : (95 < r) ⊎ (r ≤ 95) → r ≤ 95
        less_than_96 (inr less) = less
        less_than_96 (inl more) =
            let each : m * 96 ≤ m * r = mul-le-mul_left m more in
            absurd (omega (arith, each, few, three))
    by_order (inl less) =
        let once : 1 * r ≤ m * r = mul-le-mul_right r some in
        let points : r ≤ 215 = omega (arith, once, few, less) in
        let first : suc m ≤ 3 = omega (arith, less) in
        let pairs : suc m * (suc m + 1) ≤ 3 * 4 = mul-le (suc m) (suc m + 1) 3 4 first (omega (arith, less)) in
        let all : r * (suc m * (suc m + 1)) ≤ 215 * 12 = mul-le r (suc m * (suc m + 1)) 215 12 points (omega (arith, pairs)) in
        omega (arith, all)

module _ (w c r : ℕ) (enough : AreEnough w c r) where
  some_points : 1 ≤ r
  some_points = omega (arith, enough.many)

  module _ (t : ℕ) (share : r ≤ t * c) where
    more_than_weight : c * w < t
    more_than_weight = above_weight w c r t enough.many share

    pub square : w * r < t * t
    square = square_above w c r t some_points (room w c r t more_than_weight share)

    -- c w is a multiplicity that does
    pub bound_does : w * r - t < c * w * (t * t - w * r)
    bound_does =
        let d : ℕ = t * t - w * r in
        let whole : t * t ≡ d + w * r = omega (arith, square) in
        let scaled : c * (t * t) ≡ c * (d + w * r) = ap (λ x. c * x) whole in
        let enough_room = room w c r t more_than_weight share in
        let times : w * r ≤ w * (c * d) = mul-le-mul_left w (omega (arith, scaled, enough_room)) in
        let some : 1 * 1 ≤ w * r = mul-le-mul enough.some_weight some_points in
        omega (arith, times, some, more_than_weight)

    pub some_bound : 1 ≤ c * w
    some_bound = let some : 1 * 1 ≤ c * w = mul-le-mul enough.some_bound enough.some_weight in omega (arith, some)

  module _ (t s : ℕ) (agreement : IsAgreement c r t) (multiplicity : IsMultiplicity w r t s) where
    pub few_times : s ≤ c * w
    few_times = by_order (cases_lt (c * w) s)
      where
        by_order : (c * w < s) ⊎ (s ≤ c * w) → s ≤ c * w
        by_order (inr less) = less
        by_order (inl more) = absurd (multiplicity.none_below (c * w) more (some_bound t agreement.holds, bound_does t agreement.holds))

    pub light : (e : ℕ) → IsWeight w (equation_count r s) e → e ≤ s * t
    light e weight = by_order (cases_lt (s * t) e)
      where
        by_order : (s * t < e) ⊎ (e ≤ s * t) → e ≤ s * t
        by_order (inr less) = less
        by_order (inl more) = absurd (weight.none_below (s * t) more (heavy_enough w r s t enough.some_weight multiplicity.holds.1))

    -- a lesser multiplicity does not do
    lesser : (m : ℕ) → 1 ≤ m → s ≡ suc m → m * (t * t - w * r) ≤ w * r - t
    lesser m some is = by_order (cases_lt (w * r - t) (m * (t * t - w * r)))
      where
        by_order : (w * r - t < m * (t * t - w * r)) ⊎ (m * (t * t - w * r) ≤ w * r - t) → m * (t * t - w * r) ≤ w * r - t
        by_order (inr less) = less
        by_order (inl does) = absurd (multiplicity.none_below m (omega (arith, is)) (some, does))

    few_points : (m : ℕ) → 1 ≤ m → s ≡ suc m → m * r < c * c * w * (m + 1)
    few_points m some is =
        let d : ℕ = t * t - w * r in
        let q : ℕ = r - c * c * w in
        let g : ℕ = w * r - t in
        let square_is : t * t ≡ d + w * r = omega (arith, square t agreement.holds) in
        let whole : r ≡ c * c * w + q = omega (arith, enough.many) in
        let less : m * d ≤ g = lesser m some is in
        let some_d : m * 1 ≤ m * d = mul-le-mul_left m (omega (arith, square t agreement.holds)) in
        let gap : g + t ≡ w * r = omega (arith, less, some_d, some) in
        let few : m * q < c * c * w = too_few w c r t d m q g enough.some_bound some_points whole agreement.holds square_is gap less in
        let scaled : m * r ≡ m * (c * c * w + q) = ap (λ x. m * x) whole in
        omega (arith, scaled, few)

    pub small_system : c ≤ 8 → c * w ≤ 12 → r ≤ 1024 → equation_count r s ≤ 8000
    small_system few_c few_w few_r = by_order (cases_lt 1 s)
      where
        by_order : (1 < s) ⊎ (s ≤ 1) → equation_count r s ≤ 8000
        by_order (inr one) =
            let times : s * (s + 1) ≤ 1 * 2 = mul-le s (s + 1) 1 2 one (omega (arith, one)) in
            let all : r * (s * (s + 1)) ≤ r * 2 = mul-le-mul_left r (omega (arith, times)) in
            omega (arith, all, few_r)
        by_order (inl more) =
            let m : ℕ = s - 1 in
            let is : s ≡ suc m = omega (arith, more) in
            let few = few_points m (omega (arith, more)) is in
            let squares = c²w w c few_c few_w in
            let times : c * c * w * (m + 1) ≤ 72 * (m + 1) = mul-le-mul_right (m + 1) squares in
            let all = few_equations r m (omega (arith, is, few_times, few_w)) (omega (arith, more)) (omega (arith, few, times)) in
            let same : s * (s + 1) ≡ suc m * (suc m + 1) = ap (λ x. x * (x + 1)) is in
            let whole : r * (s * (s + 1)) ≡ r * (suc m * (suc m + 1)) = ap (λ x. r * x) same in
            omega (arith, all, whole)

pub weight_few : (w c r : ℕ) → AreEnough w c r → c * w ≤ 12 → w ≤ 12
weight_few w c r enough few = let once : 1 * w ≤ c * w = mul-le-mul_right w enough.some_bound in omega (arith, once, few)
