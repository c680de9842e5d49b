-- The laws of a ring of characteristic two in the forms that proofs use, and the set `ring` that brings both sides of an equation to one sorted sum of sorted products.
use Rattle.std.proofs.Common.{◌≡◌, ◌∙◌, sym, ap}
use Rattle.algebra.specs.Ring.{Ring}

module _ {F : Type 0} (R : Ring F) where
  infixl 60 ◌⊕◌
  infixl 70 ◌⊗◌
  open R use {nil, unit, plus as ◌⊕◌, times as ◌⊗◌}

  pub plus_comm : (x y : F) → x ⊕ y ≡ y ⊕ x
  plus_comm = R.plus_comm

  pub plus_assoc : (x y z : F) → (x ⊕ y) ⊕ z ≡ x ⊕ (y ⊕ z)
  plus_assoc = R.plus_assoc

  -- a summand that stands further in comes to the front
  pub plus_left : (x y z : F) → x ⊕ (y ⊕ z) ≡ y ⊕ (x ⊕ z)
  plus_left x y z = sym (R.plus_assoc x y z) ∙ ap (λ t. t ⊕ z) (R.plus_comm x y) ∙ R.plus_assoc y x z

  pub nil_plus : (x : F) → nil ⊕ x ≡ x
  nil_plus = R.plus_nil

  pub plus_nil : (x : F) → x ⊕ nil ≡ x
  plus_nil x = R.plus_comm x nil ∙ R.plus_nil x

  pub plus_self : (x : F) → x ⊕ x ≡ nil
  plus_self = R.plus_self

  -- what is added twice is gone
  pub plus_again : (x y : F) → x ⊕ (x ⊕ y) ≡ y
  plus_again x y = sym (R.plus_assoc x x y) ∙ ap (λ t. t ⊕ y) (R.plus_self x) ∙ R.plus_nil y

  pub times_comm : (x y : F) → x ⊗ y ≡ y ⊗ x
  times_comm = R.times_comm

  pub times_assoc : (x y z : F) → (x ⊗ y) ⊗ z ≡ x ⊗ (y ⊗ z)
  times_assoc = R.times_assoc

  -- a factor that stands further in comes to the front
  pub times_left : (x y z : F) → x ⊗ (y ⊗ z) ≡ y ⊗ (x ⊗ z)
  times_left x y z = sym (R.times_assoc x y z) ∙ ap (λ t. t ⊗ z) (R.times_comm x y) ∙ R.times_assoc y x z

  pub unit_times : (x : F) → unit ⊗ x ≡ x
  unit_times = R.times_unit

  pub times_unit : (x : F) → x ⊗ unit ≡ x
  times_unit x = R.times_comm x unit ∙ R.times_unit x

  pub times_plus : (x y z : F) → x ⊗ (y ⊕ z) ≡ x ⊗ y ⊕ x ⊗ z
  times_plus = R.times_plus

  pub plus_times : (x y z : F) → (x ⊕ y) ⊗ z ≡ x ⊗ z ⊕ y ⊗ z
  plus_times x y z = simp (R.times_comm (x ⊕ y) z, R.times_plus z x y, R.times_comm z x, R.times_comm z y)

  -- a product with zero is its own sum with itself, and so is zero
  pub times_nil : (x : F) → x ⊗ nil ≡ nil
  times_nil x = sym (ap (λ t. x ⊗ t) (R.plus_self nil)) ∙ R.times_plus x nil nil ∙ R.plus_self (x ⊗ nil)

  pub nil_times : (x : F) → nil ⊗ x ≡ nil
  nil_times x = R.times_comm nil x ∙ times_nil x

  pub ruleset ring = (plus_assoc, times_assoc, nil_plus, plus_nil, plus_self, plus_again, unit_times, times_unit, nil_times, times_nil, times_plus, plus_times, plus_comm, plus_left, times_comm, times_left)
