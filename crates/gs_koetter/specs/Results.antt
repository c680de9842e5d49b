-- The curves at the beginning, and the curve at the end.
-- Source: this project's own.
use Rattle.std.specs.Prelude.{◌≡◌, ◌≢◌, ℕ, ◌+◌, ◌<◌, List, Option, Some, length}
use Rattle.algebra.specs.Ring.{Ring}
use Rattle.koetter_terms.specs.Curves.{curve}
use Rattle.koetter_terms.specs.Derivatives.{derivative_at}
use Rattle.gs_koetter.specs.declared.curve.Curve.{Curve}
use Rattle.gs_koetter.specs.Shapes.{HasShape, coefs_of}
use Rattle.gs_koetter.specs.States.{point_at}

module _ {F : Type 0} (R : Ring F) where
  -- the curve y^j
  pub record IsBegun (w e s j : ℕ) (o : Option (Curve F)) : Type 0 where
    pub begun : Curve F
    pub is : o ≡ Some begun
    pub shape : HasShape R w e s j begun
    pub exponent : begun.exponent ≡ 0
    pub one : curve R w (coefs_of begun) 0 j ≡ R.unit

  -- a curve that is not zero and that has all derivatives of an order below s at all points zero
  pub record IsResult (w e n s : ℕ) (points : List (F × F)) (c : Curve F) : Type 0 where
    pub j : ℕ
    pub shape : HasShape R w e s j c
    pub lead : curve R w (coefs_of c) c.exponent j ≢ R.nil
    pub meets : (i u v : ℕ) → i < length points → u + v < s → derivative_at R e n (curve R w (coefs_of c)) (point_at R points i).0 (point_at R points i).1 u v ≡ R.nil
