-- Polynomials in two variables x and y, each as the finite map from the powers of x and y in its terms to their coefficients.
-- Source: any text on algebra; the Hasse derivative and the multiplicity as in Guruswami and Sudan (1999), in characteristic two.
use Rattle.std.specs.Prelude.{◌≡◌, ◌≢◌, ℕ, zero, suc, ◌+◌, ◌-◌, ◌*◌, ◌<◌, ◌==◌, if◌then◌else◌, nat_lt, max, List, [], ◌∷◌, None, Some}
use Rattle.std.specs.Option.{unwrap_or}
use Rattle.std.specs.Ordering.{nat_cmp, ordering_then}
use Rattle.std.specs.declared.cmp.Ordering.{Ordering}
use Rattle.std.specs.FinMap.{FinMap, get, entries}
use Rattle.algebra.specs.Ring.{Ring}
use Rattle.algebra.specs.Sums.{power}
use Rattle.algebra.specs.Series.{product, constant}
use Rattle.algebra.specs.Binomials.{has_bits}

-- by the power of x, and then by that of y
abbrev pub pair_cmp : ℕ × ℕ → ℕ × ℕ → Ordering
pair_cmp p q = ordering_then (nat_cmp p.0 q.0) (nat_cmp p.1 q.1)

-- at (i, j) the coefficient of x^i y^j
abbrev pub Bivariate : Type 0 → Type 0
Bivariate F = FinMap pair_cmp F

-- the greatest of the weights of the entries, and 0 where there are none
unfoldable pub greatest_of : {F : Type 0} → (ℕ → ℕ → ℕ) → List ((ℕ × ℕ) × F) → ℕ
greatest_of weigh [] = 0
greatest_of weigh (e ∷ es) = max (weigh e.0.0 e.0.1) (greatest_of weigh es)

-- the greatest weigh i j of all x^i y^j that stand in the polynomial, and 0 for the zero polynomial
abbrev pub greatest : {F : Type 0} → (ℕ → ℕ → ℕ) → Bivariate F → ℕ
greatest weigh q = greatest_of weigh (entries q)

-- the power of x in x^i y^j, that of y, and the weight in which y counts as x^w
abbrev pub x_power : ℕ → ℕ → ℕ
x_power i j = i

abbrev pub y_power : ℕ → ℕ → ℕ
y_power i j = j

abbrev pub weight_by : ℕ → ℕ → ℕ → ℕ
weight_by w i j = i + w * j

-- the power of x where the power of y is h, and else 0
abbrev pub x_power_at : ℕ → ℕ → ℕ → ℕ
x_power_at h i j = if j == h then i else 0

-- all powers of x are below m, and all powers of y below d
abbrev pub IsWithin : {F : Type 0} → ℕ → ℕ → Bivariate F → Type 0
IsWithin m d q = (i j : ℕ) → get q (i, j) ≢ None → (i < m) × (j < d)

module _ {F : Type 0} (R : Ring F) where
  infixl 60 ◌⊕◌
  infixl 70 ◌⊗◌
  open R use {nil, unit, plus as ◌⊕◌, times as ◌⊗◌}

  -- the coefficient of x^i y^j
  abbrev pub coefficient : Bivariate F → ℕ → ℕ → F
  coefficient q i j = unwrap_or (get q (i, j)) nil

  -- no coefficient in the map is zero
  abbrev pub IsProper : Bivariate F → Type 0
  IsProper q = (i j : ℕ) → get q (i, j) ≢ Some nil

  -- the sum of term i j c over the entries, where c is the coefficient of x^i y^j
  unfoldable pub sum_of : (ℕ → ℕ → F → F) → List ((ℕ × ℕ) × F) → F
  sum_of term [] = nil
  sum_of term (e ∷ es) = term e.0.0 e.0.1 e.1 ⊕ sum_of term es

  abbrev pub sum_terms : (ℕ → ℕ → F → F) → Bivariate F → F
  sum_terms term q = sum_of term (entries q)

  -- the coefficient of x^u in (x + a)^i, which is the binomial of i over u times a^(i - u)
  unfoldable pub weight : F → ℕ → ℕ → F
  weight a i u = if has_bits i u then power R a (i - u) else nil

  -- the Hasse derivative of order (u, v) at (a, b)
  abbrev pub hasse_derivative : Bivariate F → ℕ → ℕ → F → F → F
  hasse_derivative q u v a b = sum_terms (λ i j c. c ⊗ weight a i u ⊗ weight b j v) q

  -- Q is zero at (a, b) with multiplicity at least s
  abbrev pub HasMultiplicity : ℕ → Bivariate F → F → F → Type 0
  HasMultiplicity s q a b = (u v : ℕ) → u + v < s → hasse_derivative q u v a b ≡ nil

  -- the coefficients of f(x)^j
  unfoldable pub power_of : (ℕ → F) → ℕ → ℕ → F
  power_of f zero = constant R unit
  power_of f (suc j) = product R f (power_of f j)

  -- the coefficients of x^i p(x)
  abbrev pub raised : ℕ → (ℕ → F) → ℕ → F
  raised i p k = if nat_lt k i then nil else p (k - i)

  -- the coefficients of Q(x, f(x)): the sum of c x^i f(x)^j over the terms c x^i y^j
  abbrev pub substituted : Bivariate F → (ℕ → F) → ℕ → F
  substituted q f k = sum_terms (λ i j c. c ⊗ raised i (power_of f j) k) q

  -- the coefficient of x^k y^h in Q(x, x y + g), where c x^i y^j gives c x^(i + h) y^h times the coefficient of z^h in (z + g)^j
  abbrev pub shift_of : Bivariate F → F → ℕ → ℕ → F
  shift_of q g k h = sum_terms (λ i j c. if i + h == k then c ⊗ weight g j h else nil) q
