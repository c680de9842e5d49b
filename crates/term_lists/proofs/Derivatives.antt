-- What one more term adds to a polynomial and to its derivatives.
use Rattle.std.proofs.Common.{◌≡◌, ◌≢◌, ◌⊎◌, inl, inr, ℕ, suc, ◌+◌, ◌<◌, ◌≤◌, ◌==◌, if◌then◌else◌, Bool, true, false, cond, List, None, Some, length, refl, sym, ◌∙◌, ap, ap₂, subst, arith}
use Rattle.std.specs.declared.option.Option.{Option}
use Rattle.std.specs.Option.{unwrap_or}
use Rattle.std.specs.Ordering.{eq_by_cmp}
use Rattle.std.specs.FinMap.{get, empty, insert, remove, get-insert, get-remove, get-empty}
use Rattle.std.proofs.lemmas.Bool.{cases_eq, cases_lt}
use Rattle.algebra.specs.Ring.{Ring}
use Rattle.algebra.specs.Sums.{sum_below}
use Rattle.algebra.specs.Roots.{AreDifferent}
use Rattle.algebra.specs.Lists.{coefficients}
use Rattle.algebra.specs.Bivariate.{Bivariate, IsWithin, coefficient, greatest, hasse_derivative, pair_cmp, sum_terms, weight, x_power, y_power}
use Rattle.algebra.proofs.RingLaws.{ring, plus_again}
use Rattle.algebra.proofs.Sums.{sum_last, sum_none, sum_only, sum_plus, sum_same, sum_zero}
use Rattle.algebra.proofs.Entries.{pair_total, terms_sum, within}
use Rattle.bi_poly.specs.Results.{kept, with_coefficient}
use Rattle.bi_poly.proofs.Cells.{keys_apart_x, keys_apart_y, keys_same, unwrap_kept}
use Rattle.term_lists.specs.declared.exponents.Exponents.{Exponents}
use Rattle.term_lists.specs.Places.{exponents_at}
use Rattle.term_lists.specs.Polynomials.{HasTerms, term_derivative}

module _ {F : Type 0} (R : Ring F) (number : F → ℕ) (nil_is : number R.nil ≡ 0) (same : (x y : F) → number x ≡ number y → x ≡ y) where
  infixl 60 ◌⊕◌
  infixl 70 ◌⊗◌
  open R use {nil, plus as ◌⊕◌, times as ◌⊗◌}

  get_apart : (q : Bivariate F) (i j : ℕ) (c : F) (a b : ℕ) → eq_by_cmp pair_cmp (a, b) (i, j) ≡ false → get (with_coefficient number q i j c) (a, b) ≡ get q (a, b)
  get_apart q i j c a b e = elim (number c == 0) as (λ (t : Bool). get (if t then remove q (i, j) else insert q (i, j) c) (a, b) ≡ get q (a, b)) [
    | true ↦ get-remove pair_total q (i, j) (a, b) ∙ ap (λ (t : Bool). cond t None (get q (a, b))) e
    | false ↦ get-insert pair_total q (i, j) c (a, b) ∙ ap (λ (t : Bool). cond t (Some c) (get q (a, b))) e
  ]

  get_here : (q : Bivariate F) (i j : ℕ) (c : F) → get (with_coefficient number q i j c) (i, j) ≡ kept number c
  get_here q i j c = elim (number c == 0) as (λ (t : Bool). get (if t then remove q (i, j) else insert q (i, j) c) (i, j) ≡ (if t then None else Some c)) [
    | true ↦ get-remove pair_total q (i, j) (i, j) ∙ ap (λ (t : Bool). cond t None (get q (i, j))) (keys_same i j i j refl refl)
    | false ↦ get-insert pair_total q (i, j) c (i, j) ∙ ap (λ (t : Bool). cond t (Some c) (get q (i, j))) (keys_same i j i j refl refl)
  ]

  pub coefficient_here : (q : Bivariate F) (i j : ℕ) (c : F) → coefficient R (with_coefficient number q i j c) i j ≡ c
  coefficient_here q i j c = ap (λ o. unwrap_or o nil) (get_here q i j c) ∙ unwrap_kept R number nil_is same c

  -- which of two exponents are the same
  by_key : (P : Type 0) (a b i j : ℕ) → (a ≡ i → b ≡ j → P) → (eq_by_cmp pair_cmp (a, b) (i, j) ≡ false → (a ≢ i) ⊎ (b ≢ j) → P) → P
  by_key P a b i j here there = elim (cases_eq a i) [
    | inl e ↦ elim (cases_eq b j) [
      | inl f ↦ here e f
      | inr n ↦ there (keys_apart_y a b i j n) (inr n)
    ]
    | inr n ↦ there (keys_apart_x a b i j n) (inl n)
  ]

  pub coefficient_there : (q : Bivariate F) (i j : ℕ) (c : F) (a b : ℕ) → (a ≢ i) ⊎ (b ≢ j) → coefficient R (with_coefficient number q i j c) a b ≡ coefficient R q a b
  coefficient_there q i j c a b n =
      by_key (coefficient R (with_coefficient number q i j c) a b ≡ coefficient R q a b) a b i j (λ e f. absurd (neither n e f)) (λ k o. ap (λ t. unwrap_or t nil) (get_apart q i j c a b k))
    where
      neither : (a ≢ i) ⊎ (b ≢ j) → a ≡ i → b ≡ j → ⊥
      neither (inl n) e f = n e
      neither (inr n) e f = n f

  pub entries_with : (q : Bivariate F) (i j : ℕ) (c : F) (a b : ℕ) → get (with_coefficient number q i j c) (a, b) ≢ None → ((a ≡ i) × (b ≡ j)) ⊎ (get q (a, b) ≢ None)
  entries_with q i j c a b some = by_key (((a ≡ i) × (b ≡ j)) ⊎ (get q (a, b) ≢ None)) a b i j (λ e f. inl (e, f)) (λ k o. inr (λ none. some (get_apart q i j c a b k ∙ none)))

  module _ (q : Bivariate F) (i j : ℕ) (c : F) (new : coefficient R q i j ≡ nil) where
    pub longer : Bivariate F
    longer = with_coefficient number q i j c

    difference : ℕ → ℕ → F
    difference a b = coefficient R q a b ⊕ coefficient R longer a b

    difference_there : (a b : ℕ) → (a ≢ i) ⊎ (b ≢ j) → difference a b ≡ nil
    unfolding difference longer
    difference_there a b n = ap (λ t. coefficient R q a b ⊕ t) (coefficient_there q i j c a b n) ∙ R.plus_self (coefficient R q a b)

    difference_here : difference i j ≡ c
    unfolding difference longer
    difference_here = ap₂ (λ (s t : F). s ⊕ t) new (coefficient_here q i j c) ∙ R.plus_nil c

    m : ℕ
    m = greatest x_power q + 1 + (i + 1)

    d : ℕ
    d = greatest y_power q + 1 + (j + 1)

    old_within : IsWithin m d q
    unfolding m d
    old_within a b some = let h = within q a b some in (omega (arith, h.0), omega (arith, h.1))

    new_within : IsWithin m d longer
    unfolding m d longer
    new_within a b some = by_entry (entries_with q i j c a b some)
      where
        by_entry : ((a ≡ i) × (b ≡ j)) ⊎ (get q (a, b) ≢ None) → (a < greatest x_power q + 1 + (i + 1)) × (b < greatest y_power q + 1 + (j + 1))
        by_entry (inl e) = (omega (arith, e.0), omega (arith, e.1))
        by_entry (inr h) = let w = within q a b h in (omega (arith, w.0), omega (arith, w.1))

    inside : (i < m) × (j < d)
    unfolding m d
    inside = (omega arith, omega arith)

    module _ (term : ℕ → ℕ → F → F) (additive : (a b : ℕ) (x y : F) → term a b (x ⊕ y) ≡ term a b x ⊕ term a b y) where
      nothing : (a b : ℕ) → term a b nil ≡ nil
      nothing a b = sym (ap (term a b) (R.plus_self nil)) ∙ additive a b nil nil ∙ R.plus_self (term a b nil)

      of_new : (a b : ℕ) → term a b (coefficient R longer a b) ≡ term a b (coefficient R q a b) ⊕ term a b (difference a b)
      unfolding difference
      of_new a b = ap (term a b) (sym (plus_again R (coefficient R q a b) (coefficient R longer a b))) ∙ additive a b (coefficient R q a b) (coefficient R q a b ⊕ coefficient R longer a b)

      alone : sum_below R m (λ a. sum_below R d (λ b. term a b (difference a b))) ≡ term i j c
      alone =
          sum_only R m i (λ a. sum_below R d (λ b. term a b (difference a b))) inside.0
          (λ a l n. sum_zero R d (λ b. term a b (difference a b)) (λ b _. ap (term a b) (difference_there a b (inl n)) ∙ nothing a b))
          ∙ sum_only R d j (λ b. term i b (difference i b)) inside.1 (λ b l n. ap (term i b) (difference_there i b (inr n)) ∙ nothing i b)
          ∙ ap (term i j) difference_here

      pub sum_with : sum_terms R term longer ≡ sum_terms R term q ⊕ term i j c
      sum_with =
          terms_sum R term additive m d longer new_within
          ∙ sum_same R m (λ a. sum_below R d (λ b. term a b (coefficient R longer a b)))
          (λ a. sum_below R d (λ b. term a b (coefficient R q a b)) ⊕ sum_below R d (λ b. term a b (difference a b)))
          (λ a _. sum_same R d (λ b. term a b (coefficient R longer a b)) (λ b. term a b (coefficient R q a b) ⊕ term a b (difference a b)) (λ b _. of_new a b)
          ∙ sum_plus R d (λ b. term a b (coefficient R q a b)) (λ b. term a b (difference a b)))
          ∙ sum_plus R m (λ a. sum_below R d (λ b. term a b (coefficient R q a b))) (λ a. sum_below R d (λ b. term a b (difference a b)))
          ∙ ap₂ (λ (s t : F). s ⊕ t) (sym (terms_sum R term additive m d q old_within)) alone

    pub derivative_with : (u v : ℕ) (a b : F) → hasse_derivative R (with_coefficient number q i j c) u v a b ≡ hasse_derivative R q u v a b ⊕ c ⊗ weight R a i u ⊗ weight R b j v
    unfolding longer
    derivative_with u v a b = sum_with (λ s t x. x ⊗ weight R a s u ⊗ weight R b t v) (λ s t x y. simp ring)

  module _ (terms : List Exponents) (coefs : List F) (different : AreDifferent (length terms) (exponents_at terms)) where
    pub none_yet : HasTerms R terms coefs 0 empty
    none_yet = record {
      only = λ i j some. absurd (some (get-empty pair_cmp (i, j)));
      each = λ k l. absurd (omega (arith, l));
      derivatives = λ u v a b.
          terms_sum R (λ i j c. c ⊗ weight R a i u ⊗ weight R b j v) (λ i j x y. simp ring) 0 0 empty (λ i j some. absurd (some (get-empty pair_cmp (i, j))))
          ∙ sum_none R (λ i. sum_below R 0 (λ j. coefficient R empty i j ⊗ weight R a i u ⊗ weight R b j v))
          ∙ sym (sum_none R (λ k. term_derivative R a b u v (exponents_at terms k) ⊗ coefficients R coefs k));
    }

    -- the same exponents stand at one place only
    one_place : (k n : ℕ) → k < n → n < length terms → (exponents_at terms k).x ≡ (exponents_at terms n).x → (exponents_at terms k).y ≡ (exponents_at terms n).y → ⊥
    one_place k n l m x y =
        let both : exponents_at terms k ≡ exponents_at terms n = ap₂ (λ s t. record { x = s; y = t }) x y in
        let equal = different k n (omega (arith, l, m)) m both in
        omega (arith, equal, l)

    pub one_more : (k : ℕ) (q : Bivariate F) → k < length terms → HasTerms R terms coefs k q
        → HasTerms R terms coefs (k + 1) (with_coefficient number q (exponents_at terms k).x (exponents_at terms k).y (coefficients R coefs k))
    one_more k q l h = record {
      only = λ i j some. by_entry i j (entries_with q (exponents_at terms k).x (exponents_at terms k).y (coefficients R coefs k) i j some);
      each = λ n m. by_order n m (cases_lt n k);
      derivatives = λ u v a b.
          derivative_with q (exponents_at terms k).x (exponents_at terms k).y (coefficients R coefs k) (fresh (get q ((exponents_at terms k).x, (exponents_at terms k).y)) refl) u v a b
          ∙ ap₂ (λ (s t : F). s ⊕ t) (h.derivatives u v a b) (turned a b u v)
          ∙ sym (sum_last R k (λ n. term_derivative R a b u v (exponents_at terms n) ⊗ coefficients R coefs n))
          ∙ ap (λ n. sum_below R n (λ n. term_derivative R a b u v (exponents_at terms n) ⊗ coefficients R coefs n)) next;
    }
      where
        next : suc k ≡ k + 1
        next = omega arith

        turned : (a b : F) (u v : ℕ) → coefficients R coefs k ⊗ weight R a (exponents_at terms k).x u ⊗ weight R b (exponents_at terms k).y v ≡ term_derivative R a b u v (exponents_at terms k) ⊗ coefficients R coefs k
        turned a b u v = simp ring

        differ : (c : F) → Some c ≡ None → ⊥
        differ c e = cc

        fresh : (o : Option F) → get q ((exponents_at terms k).x, (exponents_at terms k).y) ≡ o → unwrap_or o nil ≡ nil
        fresh None is = refl
        fresh (Some c) is =
            let other = h.only (exponents_at terms k).x (exponents_at terms k).y (λ none. absurd (differ c (sym is ∙ none))) in
            absurd (one_place other.0 k other.1 l (ap (λ (t : Exponents). t.x) other.2) (ap (λ (t : Exponents). t.y) other.2))

        by_entry : (i j : ℕ) → ((i ≡ (exponents_at terms k).x) × (j ≡ (exponents_at terms k).y)) ⊎ (get q (i, j) ≢ None)
            → (n : ℕ) × (n < k + 1) × (exponents_at terms n ≡ record { x = i; y = j })
        by_entry i j (inl e) = (k, omega arith, ap₂ (λ s t. record { x = s; y = t }) (sym e.0) (sym e.1))
        by_entry i j (inr some) = let other = h.only i j some in (other.0, omega (arith, other.1), other.2)

        by_order : (n : ℕ) → n < k + 1 → (n < k) ⊎ (k ≤ n)
            → coefficient R (with_coefficient number q (exponents_at terms k).x (exponents_at terms k).y (coefficients R coefs k)) (exponents_at terms n).x (exponents_at terms n).y ≡ coefficients R coefs n
        by_order n m (inr most) =
            let same_place : k ≡ n = omega (arith, m, most) in
            subst (λ p. coefficient R (with_coefficient number q (exponents_at terms k).x (exponents_at terms k).y (coefficients R coefs k)) (exponents_at terms p).x (exponents_at terms p).y ≡ coefficients R coefs p) same_place
            (coefficient_here q (exponents_at terms k).x (exponents_at terms k).y (coefficients R coefs k))
        by_order n m (inl less) =
            coefficient_there q (exponents_at terms k).x (exponents_at terms k).y (coefficients R coefs k) (exponents_at terms n).x (exponents_at terms n).y
            (apart (cases_eq (exponents_at terms n).x (exponents_at terms k).x) (cases_eq (exponents_at terms n).y (exponents_at terms k).y))
            ∙ h.each n less
          where
            apart : ((exponents_at terms n).x ≡ (exponents_at terms k).x) ⊎ ((exponents_at terms n).x ≢ (exponents_at terms k).x)
                → ((exponents_at terms n).y ≡ (exponents_at terms k).y) ⊎ ((exponents_at terms n).y ≢ (exponents_at terms k).y)
                → ((exponents_at terms n).x ≢ (exponents_at terms k).x) ⊎ ((exponents_at terms n).y ≢ (exponents_at terms k).y)
            apart (inr x) _ = inl x
            apart (inl x) (inr y) = inr y
            apart (inl x) (inl y) = absurd (one_place n k less l x y)
