-- Commutative rings and fields of characteristic two, on any type: the operations with their laws.
-- Source: any text on algebra; that each element is its own negative is what characteristic two means.
use Rattle.std.specs.Prelude.{◌≡◌, ◌≢◌, ◌⊎◌}

pub record Ring (F : Type 0) : Type 0 where
  pub nil : F
  pub unit : F
  pub plus : F → F → F
  pub times : F → F → F
  pub plus_comm : (x y : F) → plus x y ≡ plus y x
  pub plus_assoc : (x y z : F) → plus (plus x y) z ≡ plus x (plus y z)
  pub plus_nil : (x : F) → plus nil x ≡ x
  pub plus_self : (x : F) → plus x x ≡ nil
  pub times_comm : (x y : F) → times x y ≡ times y x
  pub times_assoc : (x y z : F) → times (times x y) z ≡ times x (times y z)
  pub times_unit : (x : F) → times unit x ≡ x
  pub times_plus : (x y z : F) → times x (plus y z) ≡ plus (times x y) (times x z)

-- a ring in which zero can be told from the rest, and what is not zero has an inverse
pub record IsField {F : Type 0} (R : Ring F) : Type 0 where
  pub apart : R.unit ≢ R.nil
  pub decided : (x : F) → (x ≡ R.nil) ⊎ (x ≢ R.nil)
  pub inverse : F → F
  pub inverse_times : (x : F) → x ≢ R.nil → R.times (inverse x) x ≡ R.unit
