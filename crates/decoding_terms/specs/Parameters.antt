-- The numbers with which a list decoder works: how many points a polynomial has to go through, how often the curve Q(x, y) is zero at each point, and which weight its terms stay below.
-- Source: V. Guruswami and M. Sudan, Improved decoding of Reed-Solomon and algebraic-geometry codes, IEEE Transactions on Information Theory 45 (1999). That the least multiplicity is taken is this project's own.
use Rattle.std.specs.Prelude.{ℕ, ◌+◌, ◌-◌, ◌*◌, ◌/◌, ◌<◌, ◌≤◌, Bool, ◌&&◌, nat_le}
use Rattle.algebra.specs.Roots.{total}
use Rattle.decoding_terms.specs.Least.{IsLeast}

-- how many x^i y^j weigh less than e, where x weighs 1 and y weighs w: for each j there are e - w j powers of x, and none from e on
abbrev pub term_count : ℕ → ℕ → ℕ
term_count w e = total e (λ j. e - w * j)

-- how many orders (u, v) with u + v < s there are at r points: the equations of a curve with multiplicity s at each
abbrev pub equation_count : ℕ → ℕ → ℕ
equation_count r s = r * (s * (s + 1)) / 2

-- t is the least number that is at least a c-th part of r
abbrev pub IsAgreement : (c r t : ℕ) → Type 0
IsAgreement c r t = IsLeast (λ n. r ≤ n * c) t

-- s is the least multiplicity, from 1 on, with s (t² - w r) > w r - t
abbrev pub IsMultiplicity : (w r t s : ℕ) → Type 0
IsMultiplicity w r t s = IsLeast (λ n. (1 ≤ n) × (w * r - t < n * (t * t - w * r))) s

-- e is the least weight below which there are more terms than equations
abbrev pub IsWeight : (w equations e : ℕ) → Type 0
IsWeight w equations e = IsLeast (λ n. equations < term_count w n) e

-- the parameters of a decoder for polynomials of degree at most w that go through at least a c-th part of r points
pub record AreParameters (w c r t s e : ℕ) : Type 0 where
  pub agreement : IsAgreement c r t
  pub multiplicity : IsMultiplicity w r t s
  pub weight : IsWeight w (equation_count r s) e

-- more than c² w points
pub record AreEnough (w c r : ℕ) : Type 0 where
  pub some_weight : 1 ≤ w
  pub some_bound : 1 ≤ c
  pub many : c * c * w < r

-- coalitions of so many may be allowed for
abbrev pub is_bound : ℕ → Bool
is_bound c = nat_le 1 c && nat_le c 8

-- tracing a coalition of so many is not too much work
abbrev pub is_light : ℕ → ℕ → Bool
is_light k c = nat_le (c * (k - 1)) 12

-- whether codes of dimension k allow for coalitions of c
abbrev pub is_allowed_bound : ℕ → ℕ → Bool
is_allowed_bound k c = is_bound c && is_light k c
