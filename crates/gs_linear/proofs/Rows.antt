-- The rows of one more point.
use Rattle.std.proofs.Common.{◌≡◌, ◌⊎◌, inl, inr, ℕ, ◌+◌, ◌*◌, ◌<◌, ◌≤◌, List, [], length, get_or, sym, subst, arith}
use Rattle.std.proofs.lemmas.Bool.{cases_lt}
use Rattle.std.proofs.Math.Nat.{mul-le-mul_right}
use Rattle.algebra.specs.Ring.{Ring}
use Rattle.term_lists.specs.declared.exponents.Exponents.{Exponents}
use Rattle.term_lists.specs.Extended.{IsExtended}
use Rattle.term_lists.specs.Places.{exponents_at}
use Rattle.term_lists.specs.Polynomials.{term_derivative}
use Rattle.gs_linear.specs.Equations.{HaveEquations, IsEquation, point_at}

-- what was put into an empty list
pub from_none : {X : Type 0} (each : ℕ → X → Type 0) (d : X) (n : ℕ) (list : List X) → IsExtended each d [] n list → (i : ℕ) → i < n → each i (get_or list i d)
from_none each d n list h i l = let same : 0 + i ≡ i = omega arith in subst (λ k. each i (get_or list k d)) same (h.after i l)

module _ {F : Type 0} (R : Ring F) where
  pub whole_row : (terms : List Exponents) (a b : F) (order : Exponents) (row : List F)
      → IsExtended (λ k entry. entry ≡ term_derivative R a b order.x order.y (exponents_at terms k)) R.nil [] (length terms) row → IsEquation R terms a b order row
  whole_row terms a b order row h = record {
    count = omega (arith, h.count);
    each = from_none (λ k entry. entry ≡ term_derivative R a b order.x order.y (exponents_at terms k)) R.nil (length terms) row h;
  }

  module _ (terms orders : List Exponents) (points : List (F × F)) where
    pub no_point : HaveEquations R terms orders points 0 []
    no_point = record { count = omega arith; each = λ p o l m. absurd (omega (arith, l)) }

    pub next_point : (n : ℕ) (rows new : List (List F)) → HaveEquations R terms orders points n rows
        → IsExtended (λ o row. IsEquation R terms (point_at R points n).0 (point_at R points n).1 (exponents_at orders o) row) [] rows (length orders) new
        → HaveEquations R terms orders points (n + 1) new
    next_point n rows new h longer = record {
      count = omega (arith, longer.count, h.count);
      each = λ p o l m. by_order p o l m (cases_lt p n);
    }
      where
        by_order : (p o : ℕ) → p < n + 1 → o < length orders → (p < n) ⊎ (n ≤ p)
            → IsEquation R terms (point_at R points p).0 (point_at R points p).1 (exponents_at orders o) (get_or new (p * length orders + o) [])
        by_order p o l m (inl less) =
            let below : (p + 1) * length orders ≤ n * length orders = mul-le-mul_right (length orders) (omega (arith, less)) in
            let inside : p * length orders + o < length rows = omega (arith, below, m, h.count) in
            subst (IsEquation R terms (point_at R points p).0 (point_at R points p).1 (exponents_at orders o)) (sym (longer.before (p * length orders + o) inside)) (h.each p o less m)
        by_order p o l m (inr most) =
            let same : n ≡ p = omega (arith, l, most) in
            subst (λ t. IsEquation R terms (point_at R points t).0 (point_at R points t).1 (exponents_at orders o) (get_or new (t * length orders + o) [])) same
            (subst (λ t. IsEquation R terms (point_at R points n).0 (point_at R points n).1 (exponents_at orders o) (get_or new (t + o) [])) h.count (longer.after o m))
