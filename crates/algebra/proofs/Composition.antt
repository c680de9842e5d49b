-- The zeros of Q(x, f(x)) where f goes through a point at which Q has zeros.
use Rattle.std.proofs.Common.{◌≡◌, ℕ, zero, suc, ◌+◌, ◌<◌, ◌≤◌, refl, sym, ◌∙◌, ap, ap₂, subst, arith}
use mathlib.Core.Path.{fun_ext}
use Rattle.algebra.specs.Ring.{Ring, IsField}
use Rattle.algebra.specs.Series.{product, constant, linear, value, IsBelow, IsFrom}
use Rattle.algebra.specs.Roots.{HasRoot}
use Rattle.algebra.specs.Bivariate.{Bivariate, HasMultiplicity, IsWithin, greatest, x_power, y_power, substituted}
use Rattle.algebra.proofs.RingLaws.{ring}
use Rattle.algebra.proofs.Series.{product_comm, product_below, product_from_one, series}
use Rattle.algebra.proofs.Nested.{nested, itself, nested_none, nested_next, nested_sum, nested_zero, nested_product, value_nested, value_more, below_more}
use Rattle.algebra.proofs.Shift.{shifted, shifted_value, shifted_more, constants}
use Rattle.algebra.proofs.Roots.{Split, split}
use Rattle.algebra.proofs.Fields.{domain}
use Rattle.algebra.proofs.Taylor.{nested_about, nested_constant}
use Rattle.algebra.proofs.Entries.{within}
use Rattle.algebra.proofs.Derivatives.{column, columns_below, rows_below, shifted_both, derivative_is}
use Rattle.algebra.proofs.Substitution.{substituted_is}

-- the bound of Q(x, h(x)) where the coefficients of the d powers of y are below m, and h is below suc n
abbrev pub size : ℕ → ℕ → ℕ → ℕ
size m n zero = m
size m n (suc d) = suc n + size m n d

size_least : (m n d : ℕ) → m ≤ size m n d
size_least m n zero = omega arith
size_least m n (suc d) = let rest : m ≤ size m n d = size_least m n d in omega arith

module _ {F : Type 0} (R : Ring F) where
  infixl 60 ◌⊕◌
  infixl 70 ◌⊗◌
  open R use {nil, unit, plus as ◌⊕◌, times as ◌⊗◌}

  -- Q(x, h(x)) for a Q whose coefficient of y^j is the polynomial Q j
  abbrev pub composed : ℕ → (ℕ → ℕ → F) → (ℕ → F) → ℕ → F
  composed d Q h = nested (series R) (λ t. t) d Q h

  composed_none : (Q : ℕ → ℕ → F) (h : ℕ → F) (k : ℕ) → composed 0 Q h k ≡ nil
  unfolding series
  composed_none Q h k = ap (λ (t : ℕ → F). t k) (nested_none (series R) (series R) (λ t. t) (itself (series R)) Q h)

  composed_next : (d : ℕ) (Q : ℕ → ℕ → F) (h : ℕ → F) → composed (suc d) Q h ≡ λ k. Q 0 k ⊕ product R h (composed d (λ j. Q (suc j)) h) k
  unfolding series
  composed_next d Q h = nested_next (series R) (series R) (λ t. t) (itself (series R)) d Q h

  pub composed_below : (d m n : ℕ) (Q : ℕ → ℕ → F) (h : ℕ → F) → ((j : ℕ) → IsBelow R m (Q j)) → IsBelow R (suc n) h → IsBelow R (size m n d) (composed d Q h)
  composed_below zero m n Q h bQ bh k l = composed_none Q h k
  composed_below (suc d) m n Q h bQ bh k l =
      let rest : IsBelow R (size m n d) (composed d (λ j. Q (suc j)) h) = composed_below d m n (λ j. Q (suc j)) h (λ j. bQ (suc j)) bh in
      let least : m ≤ size m n d = size_least m n d in
      let first : Q 0 k ≡ nil = bQ 0 k (omega arith) in
      let second : product R h (composed d (λ j. Q (suc j)) h) k ≡ nil =
      product_comm R h (composed d (λ j. Q (suc j)) h) k ∙ product_below R (size m n d) n (composed d (λ j. Q (suc j)) h) h rest bh k (omega arith) in
      ap (λ (t : ℕ → F). t k) (composed_next d Q h) ∙ simp (first, second, ring)

  shifted_sum : (d : ℕ) (p q : ℕ → F) (a : F) → shifted R d (λ k. p k ⊕ q k) a ≡ λ k. shifted R d p a k ⊕ shifted R d q a k
  unfolding series
  shifted_sum d p q a = nested_sum R (series R) (constant R) (constants R) d p q (linear R a)

  shifted_product : (d e : ℕ) (p q : ℕ → F) (a : F) → IsBelow R d p → IsBelow R e q
      → shifted R (d + e) (product R p q) a ≡ product R (shifted R d p a) (shifted R e q a)
  unfolding series
  shifted_product d e p q a bp bq = nested_product R (series R) (constant R) (constants R) d e p q (linear R a) bp bq

  shifted_zero : (d : ℕ) (p : ℕ → F) (a : F) (k : ℕ) → IsBelow R 0 p → shifted R d p a k ≡ nil
  unfolding series
  shifted_zero d p a k b = ap (λ (t : ℕ → F). t k) (nested_zero R (series R) (constant R) (constants R) d p (linear R a) b)

  -- Q(x, h(x)) about a, by the parts about a
  pub shifted_composed : (d m n : ℕ) (Q : ℕ → ℕ → F) (h : ℕ → F) (a : F) → ((j : ℕ) → IsBelow R m (Q j)) → IsBelow R (suc n) h
      → shifted R (size m n d) (composed d Q h) a ≡ composed d (λ j. shifted R m (Q j) a) (shifted R (suc n) h a)
  shifted_composed zero m n Q h a bQ bh =
      fun_ext (λ k. shifted_zero m (composed 0 Q h) a k (λ i l. composed_none Q h i) ∙ sym (composed_none (λ j. shifted R m (Q j) a) (shifted R (suc n) h a) k))
  shifted_composed (suc d) m n Q h a bQ bh =
      let rest : ℕ → F = composed d (λ j. Q (suc j)) h in
      let rest_below : IsBelow R (size m n d) rest = composed_below d m n (λ j. Q (suc j)) h (λ j. bQ (suc j)) bh in
      let least : m ≤ size m n d = size_least m n d in
      ap (λ (t : ℕ → F). shifted R (size m n (suc d)) t a) (composed_next d Q h)
      ∙ shifted_sum (size m n (suc d)) (Q 0) (product R h rest) a
      ∙ ap₂ {C = ℕ → F} (λ (s t : ℕ → F) k. s k ⊕ t k) (shifted_more R m (size m n (suc d)) (Q 0) a (bQ 0) (omega arith))
      (shifted_product (suc n) (size m n d) h rest a bh rest_below
      ∙ ap (λ (t : ℕ → F). product R (shifted R (suc n) h a) t) (shifted_composed d m n (λ j. Q (suc j)) h a (λ j. bQ (suc j)) bh))
      ∙ sym (composed_next d (λ j. shifted R m (Q j) a) (shifted R (suc n) h a))

  -- the zeros at the front of Q(x, h(x)) where h begins with one
  pub composed_from : (d s : ℕ) (Q : ℕ → ℕ → F) (h : ℕ → F) → h 0 ≡ nil → ((u v : ℕ) → u + v < s → Q v u ≡ nil) → IsFrom R s (composed d Q h)
  composed_from zero s Q h o z k l = composed_none Q h k
  composed_from (suc d) zero Q h o z k l = absurd (omega arith)
  composed_from (suc d) (suc s) Q h o z k l =
      let first : Q 0 k ≡ nil = z k 0 (omega arith) in
      let second : product R h (composed d (λ j. Q (suc j)) h) k ≡ nil =
      product_from_one R s h (composed d (λ j. Q (suc j)) h) o (composed_from d s (λ j. Q (suc j)) h o (λ u v m. z u (suc v) (omega arith))) k l in
      ap (λ (t : ℕ → F). t k) (composed_next d Q h) ∙ simp (first, second, ring)

  constant_below : (b : F) → IsBelow R 1 (constant R b)
  constant_below b zero l = absurd (omega arith)
  constant_below b (suc k) l = refl

  -- about b in y
  pub composed_about : (d : ℕ) (Q : ℕ → ℕ → F) (f : ℕ → F) (b : F)
      → composed d (shifted (series R) d Q (constant R b)) (λ k. f k ⊕ constant R b k) ≡ composed d Q f
  unfolding series
  composed_about d Q f b = nested_about (series R) (series R) (λ t. t) (itself (series R)) d Q (constant R b) f

  -- where f goes through (a, b), Q(x, f(x)) has there the zeros that Q has
  pub zeros_along : (d m n s : ℕ) (Q : ℕ → ℕ → F) (f : ℕ → F) (a b : F) → ((j : ℕ) → IsBelow R m (Q j)) → IsBelow R (suc n) f → value R (suc n) f a ≡ b
      → ((u v : ℕ) → u + v < s → shifted_both R m d Q a b u v ≡ nil) → IsFrom R s (shifted R (size m n d) (composed d Q f) a)
  zeros_along d m n s Q f a b bQ bf v z =
      let row : ℕ → ℕ → F = shifted (series R) d Q (constant R b) in
      let h : ℕ → F = λ k. f k ⊕ constant R b k in
      let h_below : IsBelow R (suc n) h = λ k l. ap₂ (λ (s t : F). s ⊕ t) (bf k l) (constant_below b k (omega arith)) ∙ R.plus_nil nil in
      let starts : shifted R (suc n) h a 0 ≡ nil =
      shifted_value R (suc n) h a
      ∙ nested_sum R R (λ t. t) (itself R) (suc n) f (constant R b) a
      ∙ ap₂ (λ (s t : F). s ⊕ t) (sym (value_nested R (suc n) f a) ∙ v) (nested_constant R R (λ t. t) (itself R) n b a)
      ∙ R.plus_self b in
      let whole : shifted R (size m n d) (composed d Q f) a ≡ composed d (λ j. shifted R m (row j) a) (shifted R (suc n) h a) =
      ap (λ (t : ℕ → F). shifted R (size m n d) t a) (sym (composed_about d Q f b))
      ∙ shifted_composed d m n row h a (rows_below R m d Q b bQ) h_below in
      subst (λ (t : ℕ → F). IsFrom R s t) (sym whole) (composed_from d s (λ j. shifted R m (row j) a) (shifted R (suc n) h a) starts z)

  -- where Q has multiplicity s at (a, f(a)), (x + a)^s divides Q(x, f(x))
  pub divided_along : IsField R → (q : Bivariate F) (n s : ℕ) (f : ℕ → F) (a : F) → IsBelow R n f → HasMultiplicity R s q a (value R n f a)
      → HasRoot R s (substituted R q f) a
  divided_along field q n s f a bf many =
      let m : ℕ = greatest x_power q + 1 in
      let d : ℕ = greatest y_power q + 1 in
      let w : IsWithin m d q = within q in
      let b : F = value R n f a in
      let whole : substituted R q f ≡ composed d (column R q) f = fun_ext (λ k. substituted_is R m d q f k w) in
      let bound : ℕ = size m n d in
      let p_below : IsBelow R bound (composed d (column R q) f) =
      composed_below d m n (column R q) f (columns_below R m d q w) (below_more R n (suc n) f (omega arith) bf) in
      let zeros : IsFrom R s (shifted R bound (composed d (column R q) f) a) =
      zeros_along d m n s (column R q) f a b (columns_below R m d q w) (below_more R n (suc n) f (omega arith) bf) (value_more R n (suc n) f a bf (omega arith))
      (λ u v l. sym (derivative_is R m d q a b u v w) ∙ many u v l) in
      let off : Split R s bound (s + bound) (composed d (column R q) f) a =
      split R (domain R field) s bound (s + bound) (composed d (column R q) f) a refl (below_more R bound (s + bound) (composed d (column R q) f) (omega arith) p_below)
      (subst (λ (t : ℕ → F). IsFrom R s t) (sym (shifted_more R bound (s + bound) (composed d (column R q) f) a p_below (omega arith))) zeros) in
      record {
        rest = off.rest;
        bound = bound;
        below = off.below;
        whole = λ k. ap (λ (t : ℕ → F). t k) whole ∙ off.whole k;
      }
