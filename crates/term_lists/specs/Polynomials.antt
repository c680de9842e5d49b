-- Polynomials in two variables as lists of coefficients, one for each of a list of terms.
-- Source: this project's own.
use Rattle.std.specs.Prelude.{◌≡◌, ◌≢◌, ℕ, ◌<◌, List, None}
use Rattle.std.specs.FinMap.{get}
use Rattle.algebra.specs.Bivariate.{Bivariate, coefficient, hasse_derivative, weight}
use Rattle.algebra.specs.Lists.{coefficients}
use Rattle.algebra.specs.Ring.{Ring}
use Rattle.algebra.specs.Sums.{sum_below}
use Rattle.term_lists.specs.declared.exponents.Exponents.{Exponents}
use Rattle.term_lists.specs.Places.{exponents_at}

module _ {F : Type 0} (R : Ring F) where
  -- the Hasse derivative of order (u, v) at (a, b) of a term
  abbrev pub term_derivative : F → F → ℕ → ℕ → Exponents → F
  term_derivative a b u v term = R.times (weight R a term.x u) (weight R b term.y v)

  -- the first n coefficients belong to the terms at the same places, and there are no others
  pub record HasTerms (terms : List Exponents) (coefs : List F) (n : ℕ) (q : Bivariate F) : Type 0 where
    pub only : (i j : ℕ) → get q (i, j) ≢ None → (k : ℕ) × (k < n) × (exponents_at terms k ≡ record { x = i; y = j })
    pub each : (k : ℕ) → k < n → coefficient R q (exponents_at terms k).x (exponents_at terms k).y ≡ coefficients R coefs k
    pub derivatives : (u v : ℕ) (a b : F) → hasse_derivative R q u v a b
        ≡ sum_below R n (λ k. R.times (term_derivative a b u v (exponents_at terms k)) (coefficients R coefs k))
