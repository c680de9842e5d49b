-- A field has no divisors of zero.
use Rattle.std.proofs.Common.{◌≡◌, sym, ◌∙◌, ap}
use Rattle.algebra.specs.Ring.{Ring, IsField}
use Rattle.algebra.proofs.RingLaws.{ring}
use Rattle.algebra.proofs.Shift.{IsDomain}

-- the inverse of x brings x ⊗ y back to y
pub domain : {F : Type 0} (R : Ring F) → IsField R → IsDomain R
domain R field x y n z =
    let i = field.inverse x in
    let back : R.times (R.times i x) y ≡ R.times i (R.times x y) = R.times_assoc i x y in
    let none : R.times i R.nil ≡ R.nil = simp ring in
    sym (R.times_unit y)
    ∙ sym (ap (λ t. R.times t y) (field.inverse_times x n))
    ∙ back
    ∙ ap (λ t. R.times i t) z
    ∙ none
