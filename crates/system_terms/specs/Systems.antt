-- Systems of linear equations with zero on their right sides. A matrix is the function from a row and a column to the entry there.
-- Source: any text on linear algebra.
use Rattle.std.specs.Prelude.{◌≡◌, ℕ, ◌<◌, ◌≤◌}
use Rattle.algebra.specs.Ring.{Ring}
use Rattle.algebra.specs.Roots.{AreDifferent}
use Rattle.algebra.specs.Sums.{sum_below}

module _ {F : Type 0} (R : Ring F) where
  -- a row's sum of products with a vector of n elements
  abbrev pub row_times : ℕ → (ℕ → F) → (ℕ → F) → F
  row_times n row x = sum_below R n (λ k. R.times (row k) (x k))

  -- each of the m rows of a gives zero with the vector
  abbrev pub Solves : ℕ → ℕ → (ℕ → ℕ → F) → (ℕ → F) → Type 0
  Solves m n a x = (i : ℕ) → i < m → row_times n (a i) x ≡ R.nil

  -- all of the n elements are zero
  abbrev pub IsZero : ℕ → (ℕ → F) → Type 0
  IsZero n x = (k : ℕ) → k < n → x k ≡ R.nil

  abbrev pub OnlyZeroSolves : ℕ → ℕ → (ℕ → ℕ → F) → Type 0
  OnlyZeroSolves m n a = (x : ℕ → F) → Solves m n a x → IsZero n x

  -- only the combination with zero factors gives the zero row
  abbrev pub AreIndependent : ℕ → ℕ → (ℕ → ℕ → F) → Type 0
  AreIndependent m n rows = (factors : ℕ → F) → IsZero n (λ k. sum_below R m (λ i. R.times (factors i) (rows i k))) → IsZero m factors

  -- a list of s different rows of a, which has m rows, that are independent
  pub record IndependentRows (m n : ℕ) (a : ℕ → ℕ → F) (s : ℕ) : Type 0 where
    pub chosen : ℕ → ℕ
    pub inside : (i : ℕ) → i < s → chosen i < m
    pub different : AreDifferent s chosen
    pub independent : AreIndependent s n (λ i. a (chosen i))

  -- the length of the longest such list
  pub record IsRank (m n : ℕ) (a : ℕ → ℕ → F) (rank : ℕ) : Type 0 where
    pub some : IndependentRows m n a rank
    pub longest : (s : ℕ) → IndependentRows m n a s → s ≤ rank
