-- Lists of coefficients as the y-roots that are given, each with its number.
-- Source: this project's own.
use Rattle.std.specs.Prelude.{◌≡◌, ℕ, ◌<◌, List, length, All, slice_index_or}
use Rattle.algebra.specs.Ring.{Ring}
use Rattle.algebra.specs.Lists.{coefficients, IsListOf}
use Rattle.root_terms.specs.YRoots.{number_of}

-- each entry has one of the lists, in the same order, without the zeros at its end, and the number whose digits it has
pub record AreNumbered {F X : Type 0} (R : Ring F) (digit : F → ℕ) (size : ℕ) (value : X → ℕ) (root : X → List F) (lists : List (List F)) (entries : List X) : Type 0 where
  pub count : length entries ≡ length lists
  pub numbers : All (λ entry. value entry ≡ number_of digit size (root entry)) entries
  pub each : (i : ℕ) (d : List F) (e : X) → i < length lists → IsListOf R (coefficients R (slice_index_or lists i d)) (root (slice_index_or entries i e))
