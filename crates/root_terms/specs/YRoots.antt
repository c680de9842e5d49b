-- The polynomials f with Q(x, f(x)) = 0, as lists of coefficients with the lowest first, and in which order they are given.
-- Source: R. M. Roth and G. Ruckenstein, Efficient decoding of Reed-Solomon codes beyond half the minimum distance, IEEE Trans. Inform. Theory 46 (2000), who call them y-roots. The order is this project's own.
use Rattle.std.specs.Prelude.{◌≡◌, ◌≢◌, ℕ, zero, suc, ◌+◌, ◌*◌, ◌≤◌, List, [], ◌∷◌, length, map, All, Contains}
use Rattle.std.specs.List.{AllPairs}
use Rattle.std.specs.List.Sorted.{IsStrictlyIncreasing}
use Rattle.algebra.specs.Ring.{Ring}
use Rattle.algebra.specs.Series.{IsBelow}
use Rattle.algebra.specs.Lists.{coefficients}
use Rattle.algebra.specs.Bivariate.{Bivariate, substituted}

-- Q(x, f(x)) is zero
abbrev pub IsYRoot : {F : Type 0} → Ring F → Bivariate F → (ℕ → F) → Type 0
IsYRoot R q f = (k : ℕ) → substituted R q f k ≡ R.nil

-- the polynomial c + x f(x)
abbrev pub led_by : {F : Type 0} → F → (ℕ → F) → ℕ → F
led_by c f zero = c
led_by c f (suc k) = f k

-- lists of k coefficients: one for each y-root that has no more, and nothing else
pub record AreYRootLists {F : Type 0} (R : Ring F) (q : Bivariate F) (k : ℕ) (lists : List (List F)) : Type 0 where
  pub only : All (λ list. (length list ≡ k) × IsYRoot R q (coefficients R list)) lists
  pub every : (f : ℕ → F) → IsBelow R k f → IsYRoot R q f → (list : List F) × Contains lists list × ((i : ℕ) → coefficients R list i ≡ f i)
  pub apart : AllPairs (λ earlier later. earlier ≢ later) lists

-- the number with these digits, the lowest first, in a system with so many digits
abbrev pub number_of : {F : Type 0} → (F → ℕ) → ℕ → List F → ℕ
number_of digit size [] = 0
number_of digit size (c ∷ list) = digit c + size * number_of digit size list

-- all y-roots of degree below k and nothing else, each once, in ascending order of the numbers whose digits are their coefficients
pub record AreYRoots {F : Type 0} (R : Ring F) (digit : F → ℕ) (size : ℕ) (q : Bivariate F) (k : ℕ) (roots : List (List F)) : Type 0 where
  pub only : All (λ root. (length root ≤ k) × IsYRoot R q (coefficients R root)) roots
  pub every : (f : ℕ → F) → IsBelow R k f → IsYRoot R q f → (root : List F) × Contains roots root × ((i : ℕ) → coefficients R root i ≡ f i)
  pub ascending : IsStrictlyIncreasing (map (number_of digit size) roots)
