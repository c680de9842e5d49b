-- Tests for zero.
use Rattle.std.proofs.Common.{◌≡◌, ◌≢◌, ◌↔◌, ℕ, ◌<◌, Bool, true, false, List, length, get_or, ◌∙◌, sym, ap, subst}
use Rattle.std.proofs.lemmas.List.{get_or_default}
use Rattle.algebra.specs.Lists.{coefficients}
use Rattle.algebra.specs.Ring.{Ring}

module _ {F : Type 0} (R : Ring F) (number : F → ℕ) (same : (x y : F) → number x ≡ number y → x ≡ y) (eq : F → F → Bool) (equal : (x y : F) → (eq x y ≡ true) ↔ (number x ≡ number y)) where
  -- what a list has at a place
  pub read : (list : List F) (k : ℕ) (x : F) → k < length list → x ≡ get_or list k x → x ≡ coefficients R list k
  read list k x l is = is ∙ get_or_default list k x R.nil l

  pub zero_is : (b : Bool) (x z : F) → b ≡ true → b ≡ eq x z → z ≡ R.nil → x ≡ R.nil
  zero_is b x z t is nil_is = same x z ((equal x z).0 (sym is ∙ t)) ∙ nil_is

  pub nonzero_is : (b : Bool) (x z : F) → b ≡ false → b ≡ eq x z → z ≡ R.nil → x ≢ R.nil
  nonzero_is b x z t is nil_is e = false_true (sym t ∙ is ∙ (equal x z).1 (number_same (e ∙ sym nil_is)))
    where
      number_same : {x z : F} → x ≡ z → number x ≡ number z
      number_same e = ap number e

      false_true : ◌≡◌ {A = Bool} false true → ⊥
      false_true e = subst Holds (sym e) tt
        where
          Holds : Bool → Type 0
          Holds true = Unit {0}
          Holds false = ⊥
