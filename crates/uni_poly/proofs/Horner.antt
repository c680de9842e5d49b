-- The division by x + a that comes with a value by nested products.
use Rattle.std.proofs.Common.{◌≡◌, ℕ, zero, suc, List, length, sym, ◌∙◌, ap, ap₂}
use Rattle.algebra.specs.Ring.{Ring}
use Rattle.algebra.specs.Series.{product, constant, linear}
use Rattle.algebra.specs.Lists.{coefficients, IsListOf}
use Rattle.algebra.proofs.RingLaws.{ring}
use Rattle.algebra.proofs.Division.{linear_first, linear_next}
use Rattle.algebra.proofs.CoefficientLists.{coefficients_below}
use Rattle.algebra.proofs.Horner.{nested_from, nested_from-each}
use Rattle.uni_poly.specs.Division.{IsDivision}

module _ {F : Type 0} (R : Ring F) (xs : List F) (a : F) where
  infixl 60 ◌⊕◌
  infixl 70 ◌⊗◌
  open R use {nil, unit, plus as ◌⊕◌, times as ◌⊗◌}

  -- the value at a of the polynomial whose coefficients are those from place i on
  abbrev pub value_from : ℕ → F
  value_from i = nested_from R (length xs) (coefficients R xs) a i

  value_from-step : (i : ℕ) → value_from i ≡ value_from (suc i) ⊗ a ⊕ coefficients R xs i
  value_from-step = nested_from-each R (length xs) (coefficients R xs) a (coefficients_below R xs)

  -- the values from each place but the first are the quotient's coefficients, and the whole value is the rest
  pub division_of : (quotient whole : List F) (rest : F) → ((k : ℕ) → coefficients R quotient k ≡ value_from (suc k)) → rest ≡ value_from 0
      → IsListOf R (coefficients R quotient) whole → IsDivision R xs a whole rest
  division_of quotient whole rest each left list = record { whole = sums; trimmed = list.trimmed }
    where
      at : (k : ℕ) → coefficients R whole k ≡ value_from (suc k)
      at k = list.each k ∙ each k

      again : (x y : F) → x ≡ y ⊕ (y ⊕ x)
      again x y = simp ring

      sums : (k : ℕ) → coefficients R xs k ≡ product R (linear R a) (coefficients R whole) k ⊕ constant R rest k
      sums zero =
          again (coefficients R xs 0) (value_from 1 ⊗ a)
          ∙ sym (ap₂ (λ (s t : F). s ⊕ t)
          (linear_first R a (coefficients R whole) ∙ ap (λ t. a ⊗ t) (at 0) ∙ R.times_comm a (value_from 1))
          (left ∙ value_from-step 0))
      sums (suc k) =
          let e : coefficients R xs (suc k) ≡ (value_from (suc (suc k)) ⊗ a ⊕ coefficients R xs (suc k)) ⊕ a ⊗ value_from (suc (suc k)) ⊕ nil = simp ring in
          e
          ∙ sym (ap (λ t. t ⊕ nil)
          (linear_next R a (coefficients R whole) k ∙ ap₂ (λ (s t : F). s ⊕ a ⊗ t) (at k ∙ value_from-step (suc k)) (at (suc k))))
