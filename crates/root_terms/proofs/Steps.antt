-- What the two steps of the search, the shift and the division by a power of x, make of y-roots.
use Rattle.std.proofs.Common.{◌≡◌, ◌≢◌, inl, inr, ℕ, zero, suc, ◌+◌, ◌-◌, ◌<◌, ◌≤◌, None, Some, refl, sym, ◌∙◌, ap, arith}
use Rattle.std.specs.declared.option.Option.{Option}
use Rattle.std.specs.Option.{unwrap_or}
use Rattle.std.specs.FinMap.{get}
use Rattle.std.proofs.lemmas.Bool.{cases_lt}
use Rattle.std.proofs.Math.Numerals.{add-one}
use mathlib.Core.Path.{fun_ext}
use Rattle.algebra.specs.Ring.{Ring}
use Rattle.algebra.specs.Sums.{power}
use Rattle.algebra.specs.Series.{product, constant, linear, value, IsBelow}
use Rattle.algebra.specs.Bivariate.{Bivariate, coefficient, greatest, x_power, y_power, IsWithin, raised, substituted, shift_of}
use Rattle.algebra.proofs.RingLaws.{ring}
use Rattle.algebra.proofs.Series.{product_first, product_zero, series}
use Rattle.algebra.proofs.Nested.{nested, itself, nested_none, nested_next, nested_scaled, value_nested}
use Rattle.algebra.proofs.Division.{linear_first, linear_next}
use Rattle.algebra.proofs.Entries.{within}
use Rattle.algebra.proofs.Derivatives.{column}
use Rattle.algebra.proofs.Substitution.{raised_low, raised_high, substituted_is}
use Rattle.algebra.proofs.Stretch.{raised_is, shift_gives}
use Rattle.root_terms.specs.YRoots.{IsYRoot, led_by}
use Rattle.root_terms.specs.Branches.{at_zero}

module _ {F : Type 0} (R : Ring F) where
  infixl 60 ◌⊕◌
  infixl 70 ◌⊗◌
  open R use {nil, unit, plus as ◌⊕◌, times as ◌⊗◌}

  -- x f(x) + c, coefficient by coefficient
  stretched : (c : F) (f : ℕ → F) (k : ℕ) → product R (linear R nil) f k ⊕ constant R c k ≡ led_by c f k
  stretched c f zero = ap (λ t. t ⊕ c) (linear_first R nil f) ∙ simp ring
  stretched c f (suc k) = ap (λ t. t ⊕ nil) (linear_next R nil f k) ∙ simp ring

  pub along_shift : (q shift : Bivariate F) (g : F) → ((i j : ℕ) → coefficient R shift i j ≡ shift_of R q g i j) → (f : ℕ → F) (k : ℕ)
      → substituted R shift f k ≡ substituted R q (led_by g f) k
  along_shift q shift g each f k =
      shift_gives R q shift g each f k ∙ ap (λ (t : ℕ → F). substituted R q t k) (fun_ext (stretched g f))

  nested_first : (d : ℕ) (Q : ℕ → ℕ → F) (f : ℕ → F) → nested (series R) (λ t. t) d Q f 0 ≡ nested R (λ t. t) d (λ j. Q j 0) (f 0)
  unfolding series
  nested_first zero Q f =
      ap (λ (t : ℕ → F). t 0) (nested_none (series R) (series R) (λ t. t) (itself (series R)) Q f)
      ∙ sym (nested_none R R (λ t. t) (itself R) (λ j. Q j 0) (f 0))
  nested_first (suc d) Q f =
      ap (λ (t : ℕ → F). t 0) (nested_next (series R) (series R) (λ t. t) (itself (series R)) d Q f)
      ∙ ap (λ t. Q 0 0 ⊕ t) (product_first R f (nested (series R) (λ t. t) d (λ j. Q (suc j)) f))
      ∙ ap (λ t. Q 0 0 ⊕ f 0 ⊗ t) (nested_first d (λ j. Q (suc j)) f)
      ∙ sym (nested_next R R (λ t. t) (itself R) d (λ j. Q j 0) (f 0))

  -- at x = 0
  pub substituted_first : (q : Bivariate F) (f : ℕ → F) → substituted R q f 0 ≡ value R (greatest y_power q + 1) (at_zero R q) (f 0)
  substituted_first q f =
      substituted_is R (greatest x_power q + 1) (greatest y_power q + 1) q f 0 (within q)
      ∙ nested_first (greatest y_power q + 1) (column R q) f
      ∙ sym (value_nested R (greatest y_power q + 1) (at_zero R q) (f 0))

  -- at y = 0
  pub substituted_zero : (q : Bivariate F) (f : ℕ → F) → IsBelow R 0 f → (k : ℕ) → substituted R q f k ≡ coefficient R q k 0
  unfolding series
  substituted_zero q f b k =
      let d : ℕ = greatest y_power q in
      let more : d + 1 ≡ suc d = add-one d in
      let rest : ℕ → F = nested (series R) (λ t. t) d (λ j. column R q (suc j)) f in
      substituted_is R (greatest x_power q + 1) (d + 1) q f k (within q)
      ∙ ap (λ t. nested (series R) (λ (s : ℕ → F). s) t (column R q) f k) more
      ∙ ap (λ (t : ℕ → F). t k) (nested_next (series R) (series R) (λ t. t) (itself (series R)) d (column R q) f)
      ∙ ap (λ t. coefficient R q k 0 ⊕ t) (product_zero R f rest b k)
      ∙ simp ring

  -- what has no entry is zero
  pub no_entry : (q : Bivariate F) (i j : ℕ) → (get q (i, j) ≢ None → ⊥) → coefficient R q i j ≡ nil
  no_entry q i j h = elim (get q (i, j)) as (λ (o : Option F). (o ≢ None → ⊥) → unwrap_or o nil ≡ nil) [
    | None ↦ λ _. refl
    | Some x ↦ λ n. absurd (n (λ e. some_none x e))
  ] h
    where
      some_none : (x : F) → Some x ≡ None → ⊥
      some_none x e = cc

  -- the division by x^r
  module _ (q stripped : Bivariate F) (r : ℕ) (divides : (i j : ℕ) → get q (i, j) ≢ None → r ≤ i) (divided : (i j : ℕ) → get stripped (i, j) ≡ get q (i + r, j)) where
    columns_raised : (j i : ℕ) → coefficient R q i j ≡ raised R r (column R stripped j) i
    columns_raised j i = elim (cases_lt i r) [
      | inl l ↦ no_entry q i j (λ n. let least : r ≤ i = divides i j n in absurd (omega arith)) ∙ sym (raised_low R r (column R stripped j) i l)
      | inr l ↦
          let place : i - r + r ≡ i = omega arith in
          sym (ap (λ (o : Option F). unwrap_or o nil) (divided (i - r) j) ∙ ap (λ t. coefficient R q t j) place)
          ∙ sym (raised_high R r (column R stripped j) i l)
    ]

    stripped_within : IsWithin (greatest x_power q + 1) (greatest y_power q + 1) stripped
    stripped_within i j n =
        let inside : (i + r < greatest x_power q + 1) × (j < greatest y_power q + 1) = within q (i + r) j (λ e. n (divided i j ∙ e)) in
        let x : i + r < greatest x_power q + 1 = inside.0 in
        (omega arith, inside.1)

    pub along_stripped : (f : ℕ → F) (k : ℕ) → substituted R q f k ≡ raised R r (substituted R stripped f) k
    unfolding series
    along_stripped f k =
        let m : ℕ = greatest x_power q + 1 in
        let d : ℕ = greatest y_power q + 1 in
        let xs : ℕ → F = power (series R) (linear R nil) r in
        let columns : column R q ≡ (λ j. product R xs (column R stripped j)) =
        fun_ext (λ j. fun_ext (λ i. columns_raised j i ∙ sym (raised_is R r (column R stripped j) i))) in
        let below : nested (series R) (λ t. t) d (column R stripped) f ≡ substituted R stripped f = fun_ext (λ i. sym (substituted_is R m d stripped f i stripped_within)) in
        substituted_is R m d q f k (within q)
        ∙ ap (λ (Q : ℕ → ℕ → F). nested (series R) (λ (s : ℕ → F). s) d Q f k) columns
        ∙ ap (λ (t : ℕ → F). t k) (nested_scaled (series R) (series R) (λ t. t) (itself (series R)) d xs (column R stripped) f)
        ∙ raised_is R r (nested (series R) (λ t. t) d (column R stripped) f) k
        ∙ ap (λ (t : ℕ → F). raised R r t k) below

    pub root_of_stripped : (f : ℕ → F) → IsYRoot R stripped f → IsYRoot R q f
    root_of_stripped f h k = along_stripped f k ∙ elim (cases_lt k r) [
      | inl l ↦ raised_low R r (substituted R stripped f) k l
      | inr l ↦ raised_high R r (substituted R stripped f) k l ∙ h (k - r)
    ]

    pub stripped_root : (f : ℕ → F) → IsYRoot R q f → IsYRoot R stripped f
    stripped_root f h k =
        let place : k + r - r ≡ k = omega arith in
        sym (raised_high R r (substituted R stripped f) (k + r) (omega arith) ∙ ap (substituted R stripped f) place) ∙ sym (along_stripped f (k + r)) ∙ h (k + r)
