-- Lists that are multiplied by x + a.
use Rattle.std.proofs.Common.{◌≡◌, ◌⊎◌, inl, inr, ℕ, zero, suc, ◌+◌, ◌*◌, ◌/◌, ◌<◌, ◌≤◌, List, length, take, drop, ◌∙◌, sym, ap, subst, arith}
use Rattle.std.specs.Prelude.{slice_index_or}
use Rattle.std.proofs.lemmas.Bool.{cases_lt}
use Rattle.algebra.specs.Lists.{coefficients}
use Rattle.algebra.specs.Ring.{Ring}
use Rattle.algebra.proofs.CoefficientLists.{coefficients_below}
use Rattle.algebra.proofs.RingLaws.{ring}
use Rattle.decoding_terms.specs.Parameters.{term_count}
use Rattle.koetter_terms.specs.Curves.{AreQuotients, EndsAt, IsRaised, IsSum, curve}
use Rattle.koetter_terms.proofs.Places.{place_next}
use Rattle.koetter_terms.proofs.Steps.{ends_raised}
use Rattle.term_lists.specs.declared.exponents.Exponents.{Exponents}
use Rattle.term_lists.specs.Places.{AreTermsBelow, exponents_at, place}
use Rattle.gs_koetter.specs.declared.curve.Curve.{Curve}
use Rattle.gs_koetter.specs.Shapes.{HasShape, IsProduct, coefs_of, tile_of}
use Rattle.gs_koetter.proofs.Parts.{drop_long}

pub raised_len : (w x j len : ℕ) → 1 ≤ w → len ≡ place w x j + 1 → len + (x + w * j) / w + 1 ≡ place w (suc x) j + 1
raised_len w x j len some is = omega (arith, place_next w some x j, is)

module _ {F : Type 0} (R : Ring F) where
  open R use {nil, plus, times}

  pub raised_lists : (q quotients : List ℕ) (a : F) (s source new : List F) → q ≡ quotients → s ≡ source → IsRaised R q a s new → IsRaised R quotients a source new
  raised_lists q quotients a s source new same_q same_s is = subst (λ t. IsRaised R t a source new) same_q (subst (λ t. IsRaised R q a t new) same_s is)

  pub shifted_lists : (q quotients : List ℕ) (s source new : List F) → q ≡ quotients → s ≡ source
      → ((k : ℕ) → k < length q → coefficients R new k ≡ coefficients R s (slice_index_or q k 0)) → IsRaised R quotients nil source new
  shifted_lists q quotients s source new same_q same_s is = raised_lists q quotients nil s source new same_q same_s (λ k l. is k l ∙ nothing (coefficients R s (slice_index_or q k 0)) (coefficients R s k))
    where
      nothing : (x y : F) → x ≡ plus x (times nil y)
      nothing x y = sym (simp ring)

  -- the product, from its list
  pub product_of : (t : ℕ) (quotients shifts : List ℕ) (a : F) (old new : Curve F) (source target : List F) → old.orders ≡ t → new.orders ≡ t → source ≡ old.list.items → new.list.items ≡ target
      → IsRaised R shifts nil (take t source) (take t target) → IsRaised R quotients a (drop t source) (drop t target) → new.exponent ≡ suc old.exponent → IsProduct R quotients shifts a old new
  product_of t quotients shifts a old new source target old_orders new_orders same_source same_target tile coefs exponent = record {
    coefs = subst (λ n. IsRaised R quotients a (drop n old.list.items) (coefs_of new)) (sym old_orders) (subst (λ n. IsRaised R quotients a (drop t old.list.items) (drop n new.list.items)) (sym new_orders)
        (subst (λ x. IsRaised R quotients a (drop t x) (drop t new.list.items)) same_source (subst (λ x. IsRaised R quotients a (drop t source) (drop t x)) (sym same_target) coefs)));
    tile = subst (λ n. IsRaised R shifts nil (take n old.list.items) (tile_of new)) (sym old_orders) (subst (λ n. IsRaised R shifts nil (take t old.list.items) (take n new.list.items)) (sym new_orders)
        (subst (λ x. IsRaised R shifts nil (take t x) (take t new.list.items)) same_source (subst (λ x. IsRaised R shifts nil (take t source) (take t x)) (sym same_target) tile)));
    exponent = exponent;
  }

  -- the shape of the product
  pub raised_shape : (w e s j : ℕ) (quotients : List ℕ) (terms : List Exponents) (a : F) (old new : Curve F) → 1 ≤ w → AreQuotients w e quotients → AreTermsBelow w e terms → HasShape R w e s j old
      → length new.list.items ≡ term_count 1 s + term_count w e → new.orders ≡ term_count 1 s → IsRaised R quotients a (coefs_of old) (coefs_of new) → new.exponent ≡ suc old.exponent
      → new.len ≡ old.len + (old.exponent + w * j) / w + 1 → suc old.exponent + w * j < e → HasShape R w e s j new
  raised_shape w e s j quotients terms a old new some are below is list orders raised exponent len light = record {
    list = list;
    orders = orders;
    len = len ∙ raised_len w old.exponent j old.len some is.len ∙ ap (λ x. place w x j + 1) (sym exponent);
    light = subst (λ x. x + w * j < e) (sym exponent) light;
    ends = subst (λ x. EndsAt R w x j (coefs_of new)) (sym exponent)
        (ends_raised R w e some quotients are a (coefs_of old) (coefs_of new) (drop_long old.list.items old.orders (term_count 1 s) (term_count w e) is.list is.orders ∙ sym are.count) (drop_long new.list.items new.orders (term_count 1 s) (term_count w e) list orders ∙ sym are.count) raised old.exponent j is.ends light terms below);
  }

  -- x times the list, from where x moves its terms
  module _ (w e len : ℕ) (quotients : List ℕ) (terms : List Exponents) (source shifted : List F) (are : AreQuotients w e quotients) (below : AreTermsBelow w e terms)
      (long : length source ≡ length quotients) (rest : (k : ℕ) → len ≤ k → coefficients R source k ≡ nil)
      (moved : (i j : ℕ) → place w i j < len → curve R w shifted (suc i) j ≡ curve R w source i j) (past : (i j : ℕ) → len ≤ place w i j → curve R w shifted (suc i) j ≡ nil)
      (others : (j : ℕ) → curve R w shifted 0 j ≡ nil) where
    at_quotient : (k : ℕ) → k < length quotients → coefficients R shifted k ≡ coefficients R source (slice_index_or quotients k 0)
    at_quotient k l = at_term (exponents_at terms k).x (exponents_at terms k).y (below.placed k inside) (below.light k inside)
      where
        inside : k < length terms
        inside = omega (arith, l, are.count, below.count)

        by_order : (x y : ℕ) → (place w x y < len) ⊎ (len ≤ place w x y) → curve R w shifted (suc x) y ≡ curve R w source x y
        by_order x y (inl less) = moved x y less
        by_order x y (inr more) = past x y more ∙ sym (rest (place w x y) more)

        at_term : (x y : ℕ) → place w x y ≡ k → x + w * y < e → coefficients R shifted k ≡ coefficients R source (slice_index_or quotients k 0)
        at_term zero y is n =
            ap (coefficients R shifted) (sym is) ∙ others y
            ∙ sym (ap (λ t. coefficients R source (slice_index_or quotients t 0)) (sym is)
            ∙ coefficients_below R source (slice_index_or quotients (place w 0 y) 0) (omega (arith, are.others y (omega (arith, n)), long, are.count)))
        at_term (suc x) y is n =
            ap (coefficients R shifted) (sym is) ∙ by_order x y (cases_lt (place w x y) len)
            ∙ sym (ap (λ t. coefficients R source (slice_index_or quotients t 0)) (sym is) ∙ ap (coefficients R source) (are.divided x y n))

    pub raised_by_runs : (a : F) (new : List F) → IsSum R a source shifted new → IsRaised R quotients a source new
    raised_by_runs a new sum k l = sum k ∙ ap (λ t. plus t (times a (coefficients R source k))) (at_quotient k l)
