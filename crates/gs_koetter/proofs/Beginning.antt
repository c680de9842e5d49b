-- The curves at the beginning.
use Rattle.std.proofs.Common.{◌≡◌, ◌⊎◌, inl, inr, ℕ, zero, suc, ◌+◌, ◌*◌, ◌<◌, ◌≤◌, List, [], length, Option, None, Some, replicate, set, refl, ◌∙◌, sym, ap, subst, arith}
use Rattle.std.proofs.lemmas.Bool.{cases_lt}
use Rattle.std.proofs.lemmas.List.{get_or-replicate, get_or-set_other, get_or-set_same, get_or_past, length-replicate, length-set}
use Rattle.algebra.specs.Lists.{coefficients}
use Rattle.algebra.specs.Ring.{IsField, Ring}
use Rattle.algebra.specs.Roots.{total}
use Rattle.decoding_terms.specs.Parameters.{term_count}
use Rattle.koetter_terms.specs.State.{Handled}
use Rattle.term_lists.specs.Extended.{IsExtended}
use Rattle.term_lists.specs.Places.{place}
use Rattle.term_lists.proofs.Ordered.{place_below}
use Rattle.gs_koetter.specs.declared.curve.Curve.{Curve}
use Rattle.gs_koetter.specs.Results.{IsBegun}
use Rattle.gs_koetter.specs.Shapes.{HasShape, HaveShape, IsSpare, coefs_of, slot}
use Rattle.gs_koetter.proofs.Parts.{coefficient_at}
use Rattle.gs_koetter.specs.States.{IsBare, spent}
use Rattle.gs_koetter.proofs.Pivots.{inside_some, one_some}
use Rattle.gs_koetter.proofs.Runs.{next_run}

-- the place of the next power of y
pub next_power : (w j : ℕ) → 1 ≤ w → place w 0 j + (w * (j + 1) + 1) ≡ place w 0 (j + 1)
next_power w j some =
    let more = next_run w some j in
    let is : w * (j + 1) ≡ 0 + w * (j + 1) = omega arith in
    let same : term_count w (w * (j + 1)) ≡ term_count w (0 + w * (j + 1)) = ap (term_count w) is in
    let first : term_count w (0 + w * j) ≡ term_count w (w * j) = let none : 0 + w * j ≡ w * j = omega arith in ap (term_count w) none in
    omega (arith, more, same, first)

pub no_power : (w : ℕ) → 0 ≡ place w 0 0
no_power w = let none : 0 + w * 0 ≡ 0 = omega arith in let is : term_count w (0 + w * 0) ≡ 0 = ap (term_count w) none in omega (arith, is)

total_none : (n : ℕ) (f : ℕ → ℕ) → ((j : ℕ) → j < n → f j ≡ 0) → total n f ≡ 0
total_none zero f none = refl
total_none (suc n) f none = let here = none n (omega arith) in let rest = total_none n f (λ j l. none j (omega (arith, l))) in omega (arith, here, rest)

pub zeros_at : {F : Type 0} (R : Ring F) (n : ℕ) (list : List F) → list ≡ replicate n R.nil → (k : ℕ) → coefficients R list k ≡ R.nil
zeros_at R n list is k = ap (λ t. coefficients R t k) is ∙ by_order (cases_lt k n)
  where
    by_order : (k < n) ⊎ (n ≤ k) → coefficients R (replicate n R.nil) k ≡ R.nil
    by_order (inl less) = get_or-replicate n k R.nil R.nil less
    by_order (inr most) = get_or_past (replicate n R.nil) k R.nil (omega (arith, most, length-replicate n R.nil))

module _ {F : Type 0} (R : Ring F) (w e s : ℕ) where
  open R use {nil, unit}

  pub begun_curve : (j first : ℕ) (old new : Curve F) → 1 ≤ w → w * j < e → first ≡ place w 0 j → IsSpare w e s old → ((k : ℕ) → coefficients R old.list.items k ≡ nil)
      → new.list.items ≡ set old.list.items (old.orders + first) unit → new.orders ≡ old.orders → new.len ≡ first + 1 → new.exponent ≡ 0 → IsBegun R w e s j (Some new)
  begun_curve j first old new some light at lists zeros list orders len exponent = record {
    begun = new;
    is = refl;
    shape = record {
      list = ap length list ∙ length-set old.list.items (old.orders + first) unit ∙ lists.list;
      orders = orders ∙ lists.orders;
      len = len ∙ ap (λ n. n + 1) (at ∙ ap (λ x. place w x j) (sym exponent));
      light = subst (λ x. x + w * j < e) (sym exponent) (omega (arith, light));
      ends = λ k l.
          let late : place w 0 j < k = subst (λ x. place w x j < k) exponent l in
          coefficient_at R new old.orders k orders ∙ ap (λ t. coefficients R t (old.orders + k)) list
          ∙ get_or-set_other old.list.items (old.orders + first) (old.orders + k) unit nil (λ same. absurd (omega (arith, late, at, same))) ∙ zeros (old.orders + k);
    };
    exponent = exponent;
    one =
        let inside = place_below w e 0 j some (omega (arith, light)) in
        coefficient_at R new old.orders (place w 0 j) orders ∙ ap (λ t. coefficients R t (old.orders + place w 0 j)) list ∙ ap (λ k. coefficients R (set old.list.items (old.orders + first) unit) (old.orders + k)) (sym at)
        ∙ get_or-set_same old.list.items (old.orders + first) unit nil (omega (arith, inside, at, lists.list, lists.orders));
  }

  module _ (n : ℕ) (curves : List (Option (Curve F))) (all : IsExtended (IsBegun R w e s) None [] n curves) where
    at : (j : ℕ) → j < n → IsBegun R w e s j (slot curves j)
    at j l = let none : length {A = Option (Curve F)} [] + j ≡ j = omega arith in subst (λ k. IsBegun R w e s j (slot curves k)) none (all.after j l)

    count : length curves ≡ n
    count = omega (arith, all.count)

    pub begun_count : length curves ≡ n
    begun_count = count

    found : (j : ℕ) (c : Curve F) → slot curves j ≡ Some c → (is : IsBegun R w e s j (slot curves j)) × (is.begun ≡ c)
    found j c there =
        let inside = inside_some curves j c there in
        let is = at j (omega (arith, inside, count)) in
        (is, one_some is.begun c (slot curves j) is.is there)

    pub begun_shape : HaveShape R w e s curves
    begun_shape j c there = let is = found j c there in subst (HasShape R w e s j) is.1 is.0.shape

    pub begun_bare : IsField R → (points : ℕ → F × F) → IsBare R w e n (Handled points s 0 0) 0 curves
    begun_bare field points = record {
      lead = λ j c there z.
          let is = found j c there in
          let exponent : c.exponent ≡ 0 = ap (λ (x : Curve F). x.exponent) (sym is.1) ∙ is.0.exponent in
          let one : coefficients R (coefs_of c) (place w 0 j) ≡ unit = ap (λ (x : Curve F). coefficients R (coefs_of x) (place w 0 j)) (sym is.1) ∙ is.0.one in
          field.apart (sym one ∙ ap (λ x. coefficients R (coefs_of c) (place w x j)) (sym exponent) ∙ z);
      meets = λ j c there a b u v m. nothing a b u v m _;
      few = let none = total_none n (λ j. spent w e j (slot curves j)) (λ j l. let is = at j l in ap (spent w e j) is.is ∙ is.exponent) in omega (arith, none);
    }
      where
        nothing : (a b : F) (u v : ℕ) → Handled points s 0 0 a b u v → (A : Type 0) → A
        nothing a b u v (inl before) A = absurd (omega (arith, before.1))
        nothing a b u v (inr here) A = absurd (omega (arith, here.2))
