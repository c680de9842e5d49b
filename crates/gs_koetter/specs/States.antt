-- What all kept curves satisfy while conditions are handled one after the other.
-- Source: R. Koetter's interpolation, as in R. McEliece, The Guruswami-Sudan decoding algorithm for Reed-Solomon codes (2003).
use Rattle.std.specs.Prelude.{◌≡◌, ◌≢◌, ℕ, ◌+◌, ◌-◌, ◌*◌, ◌≤◌, List, Option, None, Some, length, slice_index_or}
use Rattle.algebra.specs.Ring.{Ring}
use Rattle.algebra.specs.Roots.{total}
use Rattle.decoding_terms.specs.Parameters.{term_count}
use Rattle.koetter_terms.specs.Curves.{IsTile, curve}
use Rattle.koetter_terms.specs.Derivatives.{derivative_at}
use Rattle.koetter_terms.specs.State.{Conditions, IsKept}
use Rattle.gs_koetter.specs.declared.curve.Curve.{Curve}
use Rattle.gs_koetter.specs.declared.points.Scratch.{Scratch}
use Rattle.gs_koetter.specs.declared.frame.Frame.{Frame}
use Rattle.gs_koetter.specs.Shapes.{coefs_of, slot}
use Rattle.gs_koetter.specs.Tables.{AreSquares}

-- the power of x in the leading term of the curve at j, and what that power has come to where the curve was dropped
abbrev pub spent : {F : Type 0} → ℕ → ℕ → ℕ → Option (Curve F) → ℕ
spent w e j None = e - w * j
spent w e j (Some c) = c.exponent

-- how many products one condition may take, where there are so many curves: those that the inverse and the raised pivot take, and those of the others
abbrev pub step_products : ℕ → ℕ → ℕ → ℕ → ℕ
step_products w e s count = 1 + term_count w e + count * (1 + term_count w e + term_count 1 s)

-- how many products the derivatives of one curve at a point may take, and how many all of a point
abbrev pub derive_products : ℕ → ℕ → ℕ → ℕ
derive_products e n s = s * (e * n) + s * (n * s)

abbrev pub point_products : ℕ → ℕ → ℕ → ℕ → ℕ
point_products w e n s = e + n + n * derive_products e n s + term_count 1 s * step_products w e s n

-- room for the squares of a point's coordinates, for a table of all powers of x and y, and for its derivatives turned
pub record IsScratch {F : Type 0} (frame : Frame) (scratch : Scratch F) : Type 0 where
  pub xs : length scratch.xs.items ≡ frame.xs.count
  pub ys : length scratch.ys.items ≡ frame.ys.count
  pub table : length scratch.table.items ≡ frame.terms.e * frame.width
  pub turned : length scratch.turned.items ≡ frame.width * frame.orders.e

module _ {F : Type 0} (R : Ring F) where
  abbrev pub point_at : List (F × F) → ℕ → F × F
  point_at points i = slice_index_or points i (R.nil, R.nil)

  -- the same curve, with its derivatives at the point to whose coordinates these squares belong
  pub record IsDerived (w e n s : ℕ) (xs ys : List F) (old new : Curve F) : Type 0 where
    pub coefs : coefs_of new ≡ coefs_of old
    pub orders : new.orders ≡ old.orders
    pub len : new.len ≡ old.len
    pub exponent : new.exponent ≡ old.exponent
    pub long : length new.list.items ≡ length old.list.items
    pub tile : (a b : F) → AreSquares R a xs → AreSquares R b ys → IsTile R e n s (curve R w (coefs_of old)) a b new.list.items

  abbrev pub AreDerived : ℕ → ℕ → ℕ → ℕ → List F → List F → Option (Curve F) → Option (Curve F) → Type 0
  AreDerived w e n s xs ys None None = Unit {0}
  AreDerived w e n s xs ys None (Some new) = ⊥
  AreDerived w e n s xs ys (Some old) None = ⊥
  AreDerived w e n s xs ys (Some old) (Some new) = IsDerived w e n s xs ys old new

-- what holds between points: each curve that is kept meets the conditions, and the leading powers of x come to no more than the number of conditions that were handled; n is how many powers of y there are
pub record IsBare {F : Type 0} (R : Ring F) (w e n : ℕ) (met : Conditions F) (handled : ℕ) (curves : List (Option (Curve F))) : Type 0 where
  pub lead : (j : ℕ) (c : Curve F) → slot curves j ≡ Some c → curve R w (coefs_of c) c.exponent j ≢ R.nil
  pub meets : (j : ℕ) (c : Curve F) → slot curves j ≡ Some c → (a b : F) (u v : ℕ) → met a b u v → derivative_at R e n (curve R w (coefs_of c)) a b u v ≡ R.nil
  pub few : total n (λ j. spent w e j (slot curves j)) ≤ handled

-- each curve that is kept meets the conditions, and the leading powers of x come to no more than the number of conditions that were handled; n is how many powers of y there are
pub record IsState {F : Type 0} (R : Ring F) (w e n s : ℕ) (met : Conditions F) (a b : F) (handled : ℕ) (curves : List (Option (Curve F))) : Type 0 where
  pub kept : (j : ℕ) (c : Curve F) → slot curves j ≡ Some c → IsKept R w e n s met a b j c.exponent (coefs_of c) c.list.items
  pub few : total n (λ j. spent w e j (slot curves j)) ≤ handled
