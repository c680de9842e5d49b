-- The lists of kept curves, and what a step does to them.
-- Source: this project's own.
use Rattle.std.specs.Prelude.{◌≡◌, ◌≢◌, ℕ, suc, ◌+◌, ◌*◌, ◌<◌, ◌≤◌, List, Option, None, Some, length, take, drop, slice_index_or, nat_lt, if◌then◌else◌}
use Rattle.algebra.specs.Lists.{coefficients}
use Rattle.algebra.specs.Ring.{Ring}
use Rattle.decoding_terms.specs.Parameters.{term_count}
use Rattle.koetter_terms.specs.Curves.{EndsAt, IsRaised, IsSum}
use Rattle.term_lists.specs.Places.{place}
use Rattle.gs_koetter.specs.declared.cancelling.Candidate.{Candidate}
use Rattle.gs_koetter.specs.declared.curve.Curve.{Curve}

-- the curve that is kept with the power j of y
abbrev pub slot : {F : Type 0} → List (Option (Curve F)) → ℕ → Option (Curve F)
slot curves j = slice_index_or curves j None

-- the derivatives at the point at hand, and the coefficients
abbrev pub tile_of : {F : Type 0} → Curve F → List F
tile_of c = take c.orders c.list.items

abbrev pub coefs_of : {F : Type 0} → Curve F → List F
coefs_of c = drop c.orders c.list.items

-- the shorter one of the curve so far and another, if there are such
abbrev pub better : Option Candidate → ℕ → Option ℕ → Option Candidate
better best place None = best
better None place (Some n) = Some (record { place = place; len = n })
better (Some first) place (Some n) = if nat_lt n first.len then Some (record { place = place; len = n }) else Some first

-- a curve with a coefficient for each term that weighs less than e, and a derivative for each order below s
pub record IsSpare {F : Type 0} (w e s : ℕ) (c : Curve F) : Type 0 where
  pub list : length c.list.items ≡ term_count 1 s + term_count w e
  pub orders : c.orders ≡ term_count 1 s

module _ {F : Type 0} (R : Ring F) where
  -- such a curve, whose leading term has the power j of y
  pub record HasShape (w e s j : ℕ) (c : Curve F) : Type 0 where
    pub list : length c.list.items ≡ term_count 1 s + term_count w e
    pub orders : c.orders ≡ term_count 1 s
    pub len : c.len ≡ place w c.exponent j + 1
    pub light : c.exponent + w * j < e
    pub ends : EndsAt R w c.exponent j (coefs_of c)

  abbrev pub HaveShape : (w e s : ℕ) → List (Option (Curve F)) → Type 0
  HaveShape w e s curves = (j : ℕ) (c : Curve F) → slot curves j ≡ Some c → HasShape w e s j c

  -- the derivative that stands at a place
  abbrev pub at_place : ℕ → Curve F → F
  at_place place c = coefficients R c.list.items place

  -- with the multiple of the pivot that makes that derivative zero, where the inverse is that of the pivot's
  pub record IsCancelled (place : ℕ) (inverse : F) (pivot old new : Curve F) : Type 0 where
    pub list : IsSum R (R.times (at_place place old) inverse) pivot.list.items old.list.items new.list.items
    pub long : length new.list.items ≡ length old.list.items
    pub orders : new.orders ≡ old.orders
    pub len : new.len ≡ old.len
    pub exponent : new.exponent ≡ old.exponent

  abbrev pub AreCancelled : ℕ → F → Curve F → Option (Curve F) → Option (Curve F) → Type 0
  AreCancelled place inverse pivot None None = Unit {0}
  AreCancelled place inverse pivot None (Some new) = ⊥
  AreCancelled place inverse pivot (Some old) None = ⊥
  AreCancelled place inverse pivot (Some old) (Some new) = IsCancelled place inverse pivot old new

  -- the product with x + a, where a is the first coordinate of the point at hand
  pub record IsProduct (quotients shifts : List ℕ) (a : F) (old new : Curve F) : Type 0 where
    pub coefs : IsRaised R quotients a (coefs_of old) (coefs_of new)
    pub tile : IsRaised R shifts R.nil (tile_of old) (tile_of new)
    pub exponent : new.exponent ≡ suc old.exponent

  -- the list of the curve is as long as that of the pivot
  pub record HasRoom (pivot old : Curve F) : Type 0 where
    pub list : length pivot.list.items ≡ length old.list.items

  -- the pivot's coefficients end where it says
  pub record IsEnded (pivot : Curve F) : Type 0 where
    pub inside : pivot.orders + pivot.len ≤ length pivot.list.items
    pub rest : (k : ℕ) → pivot.orders + pivot.len ≤ k → coefficients R pivot.list.items k ≡ R.nil

  -- among the curves whose derivative at the place is not zero, one with the least leading term
  pub record IsPivot (place : ℕ) (curves : List (Option (Curve F))) (p : ℕ) : Type 0 where
    pub pivot : Curve F
    pub stands : slot curves p ≡ Some pivot
    pub nonzero : at_place place pivot ≢ R.nil
    pub least : (j : ℕ) (c : Curve F) → slot curves j ≡ Some c → at_place place c ≢ R.nil → pivot.len ≤ c.len
