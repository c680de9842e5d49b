-- The coefficient of x^h y^h in Q(x, x y + g) is that of Q(0, y) about g. So where x^r divides the shift, (y + g)^r divides Q(0, y).
use Rattle.std.proofs.Common.{◌≡◌, inr, ℕ, ◌+◌, ◌-◌, ◌<◌, refl, sym, ◌∙◌, ap, arith}
use Rattle.algebra.specs.Ring.{Ring, IsField}
use Rattle.algebra.specs.Series.{constant, value, IsBelow, IsFrom}
use Rattle.algebra.specs.Roots.{HasRoot}
use Rattle.algebra.specs.Bivariate.{Bivariate, greatest, x_power, y_power, shift_of}
use Rattle.algebra.proofs.Series.{series}
use Rattle.algebra.proofs.Nested.{value_nested, below_more}
use Rattle.algebra.proofs.Shift.{shifted, shifted_value, shifted_more}
use Rattle.algebra.proofs.Fields.{domain}
use Rattle.algebra.proofs.Roots.{Split, split}
use Rattle.algebra.proofs.Entries.{coefficient_past, within}
use Rattle.algebra.proofs.Derivatives.{column, shifted_row}
use Rattle.algebra.proofs.Substitution.{raised_low, raised_high}
use Rattle.algebra.proofs.Stretch.{shift_is}
use Rattle.root_terms.specs.Branches.{at_zero}

module _ {F : Type 0} (R : Ring F) (q : Bivariate F) where
  open R use {nil}

  -- Q(0, y) has no powers of y that Q does not have
  pub at_zero_below : IsBelow R (greatest y_power q + 1) (at_zero R q)
  at_zero_below k l = coefficient_past R (greatest x_power q + 1) (greatest y_power q + 1) q (within q) 0 k (inr l)

  module _ (g : F) where
    -- no term of the shift has a greater power of y than of x
    pub shift_low : (k h : ℕ) → k < h → shift_of R q g k h ≡ nil
    shift_low k h l =
        shift_is R (greatest x_power q + 1) (greatest y_power q + 1) q g k h (within q)
        ∙ raised_low R h (shifted (series R) (greatest y_power q + 1) (column R q) (constant R g) h) k l

    diagonal : (h : ℕ) → shift_of R q g h h ≡ shifted R (greatest y_power q + 1) (at_zero R q) g h
    diagonal h =
        let row : ℕ → F = shifted (series R) (greatest y_power q + 1) (column R q) (constant R g) h in
        let none : h - h ≡ 0 = omega arith in
        shift_is R (greatest x_power q + 1) (greatest y_power q + 1) q g h h (within q)
        ∙ raised_high R h row h (omega arith)
        ∙ ap row none
        ∙ shifted_row R (greatest y_power q + 1) (column R q) g h 0

    -- its first coefficient is the value of Q(0, y) at g
    pub shift_first : shift_of R q g 0 0 ≡ value R (greatest y_power q + 1) (at_zero R q) g
    shift_first =
        diagonal 0 ∙ shifted_value R (greatest y_power q + 1) (at_zero R q) g ∙ sym (value_nested R (greatest y_power q + 1) (at_zero R q) g)

    pub root_of_shift : IsField R → (r : ℕ) → ((h : ℕ) → h < r → shift_of R q g h h ≡ nil) → HasRoot R r (at_zero R q) g
    root_of_shift field r zeros =
        let d : ℕ = greatest y_power q + 1 in
        let below : IsBelow R (r + d) (at_zero R q) = below_more R d (r + d) (at_zero R q) (omega arith) at_zero_below in
        let about : shifted R (r + d) (at_zero R q) g ≡ shifted R d (at_zero R q) g = shifted_more R d (r + d) (at_zero R q) g at_zero_below (omega arith) in
        let front : IsFrom R r (shifted R (r + d) (at_zero R q) g) = λ h l. ap (λ (t : ℕ → F). t h) about ∙ sym (diagonal h) ∙ zeros h l in
        let off : Split R r d (r + d) (at_zero R q) g = split R (domain R field) r d (r + d) (at_zero R q) g refl below front in
        record { rest = off.rest; bound = d; below = off.below; whole = off.whole }
