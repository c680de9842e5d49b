-- The degrees of what rows stand for.
use Rattle.std.proofs.Common.{◌≡◌, ◌≢◌, ◌⊎◌, inl, inr, ℕ, zero, suc, ◌+◌, ◌<◌, ◌≤◌, ◌-◌, ◌↔◌, List, length, None, true, false, refl, sym, ◌∙◌, ap, subst, arith}
use Rattle.std.specs.declared.option.Option.{Option}
use Rattle.std.specs.declared.option.Option.TheVariants.{Some}
use Rattle.std.specs.Option.{SomeIff, IsNone, IfSome}
use Rattle.std.specs.FinMap.{empty}
use Rattle.std.proofs.lemmas.Bool.{cases_lt}
use Rattle.std.proofs.lemmas.Bool.Decides.{nat_tests}
use Rattle.algebra.specs.Ring.{Ring, IsField}
use Rattle.algebra.specs.Roots.{total}
use Rattle.algebra.specs.Lists.{coefficients, IsListOf}
use Rattle.algebra.specs.Bivariate.{Bivariate, greatest, x_power, y_power, x_power_at}
use Rattle.algebra.proofs.CoefficientLists.{coefficients_below}
use Rattle.algebra.proofs.Entries.{greatest_at, greatest_least}
use Rattle.bi_poly.specs.Rows.{cell, polynomial_of}
use Rattle.bi_poly.proofs.Cells.{get_nonzero, nonzero_get, zero_polynomial, zero_cell}

-- there are n rows up to the last with a coefficient that is not zero
pub record IsHeight {F : Type 0} (R : Ring F) (rows : List (List F)) (n : ℕ) : Type 0 where
  pub zeros : (i j : ℕ) → n ≤ j → cell R rows i j ≡ R.nil
  pub last : (j : ℕ) → n ≡ j + 1 → (i : ℕ) × (cell R rows i j ≢ R.nil)

module _ {F : Type 0} (R : Ring F) (number : F → ℕ) (nil_is : number R.nil ≡ 0) (same : (x y : F) → number x ≡ number y → x ≡ y) where
  open R use {nil}

  -- a coefficient that is not zero counts
  pub greatest_cell : (weigh : ℕ → ℕ → ℕ) (rows : List (List F)) (i j : ℕ) → cell R rows i j ≢ nil → weigh i j ≤ greatest weigh (polynomial_of number rows)
  greatest_cell weigh rows i j h = greatest_at weigh (polynomial_of number rows) i j (get_nonzero R number nil_is same rows i j h)

  -- and only such
  pub greatest_cells : (weigh : ℕ → ℕ → ℕ) (rows : List (List F)) (d : ℕ) → ((i j : ℕ) → cell R rows i j ≢ nil → weigh i j ≤ d)
      → greatest weigh (polynomial_of number rows) ≤ d
  greatest_cells weigh rows d h = greatest_least weigh (polynomial_of number rows) d (λ i j e. h i j (nonzero_get R number nil_is same rows i j e))

  -- a weight that bounds all and is reached is the greatest
  pub greatest_is : (weigh : ℕ → ℕ → ℕ) (rows : List (List F)) (d : ℕ) → ((i j : ℕ) → cell R rows i j ≢ nil → weigh i j ≤ d)
      → (d ≡ 0) ⊎ ((i : ℕ) × (j : ℕ) × (cell R rows i j ≢ nil) × (d ≡ weigh i j)) → d ≡ greatest weigh (polynomial_of number rows)
  greatest_is weigh rows d most (inl e) = let l : greatest weigh (polynomial_of number rows) ≤ d = greatest_cells weigh rows d most in omega arith
  greatest_is weigh rows d most (inr w) =
      let l : greatest weigh (polynomial_of number rows) ≤ d = greatest_cells weigh rows d most in
      let m : weigh w.0 w.1 ≤ greatest weigh (polynomial_of number rows) = greatest_cell weigh rows w.0 w.1 w.2 in
      omega arith

  -- no rows
  pub height_none : (rows : List (List F)) (n : ℕ) → IsHeight R rows n → n ≡ 0 → polynomial_of number rows ≡ empty
  height_none rows n h e = zero_polynomial R number nil_is same rows (λ i j. h.zeros i j (omega arith))

  height_reached : (rows : List (List F)) (n : ℕ) → IsHeight R rows n → polynomial_of number rows ≡ empty → (d : ℕ) → n ≡ d + 1 → ⊥
  height_reached rows n h z d e = let w = h.last d e in w.1 (zero_cell R number nil_is same rows z w.0 d)

  pub height_some : (rows : List (List F)) (n d : ℕ) → IsHeight R rows n → n ≡ d + 1 → polynomial_of number rows ≢ empty
  height_some rows n d h e z = height_reached rows n h z d e

  -- the zero polynomial has no rows
  pub empty_height : (rows : List (List F)) (n : ℕ) → IsHeight R rows n → polynomial_of number rows ≡ empty → n ≡ 0
  empty_height rows zero h z = omega arith
  empty_height rows (suc d) h z = absurd (height_reached rows (suc d) h z d (omega arith))

  -- the greatest power of y
  pub height_degree : (rows : List (List F)) (n d : ℕ) → IsHeight R rows n → n ≡ d + 1 → d ≡ greatest y_power (polynomial_of number rows)
  height_degree rows n d h e =
      let w = h.last d e in
      greatest_is y_power rows d (λ i j o. elim (cases_lt j n) [ inl l ↦ omega arith | inr l ↦ absurd (o (h.zeros i j l)) ]) (inr (w.0, d, w.1, omega arith))

  -- past the greatest power of x beside y^h all is zero
  pub past_row : (rows : List (List F)) (h i : ℕ) → greatest (x_power_at h) (polynomial_of number rows) < i → cell R rows i h ≢ nil → ⊥
  past_row rows h i l o =
      let m : x_power_at h i h ≤ greatest (x_power_at h) (polynomial_of number rows) = greatest_cell (x_power_at h) rows i h o in
      let e : x_power_at h i h ≡ i = grind (arith, nat_tests) in
      absurd (omega arith)

  pub past_rows : (rows : List (List F)) (i j : ℕ) → greatest x_power (polynomial_of number rows) < i → cell R rows i j ≢ nil → ⊥
  past_rows rows i j l o =
      let m : i ≤ greatest x_power (polynomial_of number rows) = greatest_cell x_power rows i j o in
      absurd (omega arith)

  -- one less than the height, where there is one
  degree_none : (rows : List (List F)) (n : ℕ) (r : Option ℕ) → IsHeight R rows n → SomeIff r (1 ≤ n) (n - 1) → IsNone r ↔ (polynomial_of number rows ≡ empty)
  degree_none rows n None h is = (λ _. height_none rows n h (omega arith), λ _. refl)
  degree_none rows n (Some d) h is =
      let never : IsNone (Some d) → ⊥ = λ e. let e' : true ≡ false = e in cc in
      (λ e. absurd (never e), λ z. absurd (height_some rows n d h (omega arith) z))

  degree_some : (rows : List (List F)) (n : ℕ) (r : Option ℕ) → IsHeight R rows n → SomeIff r (1 ≤ n) (n - 1) → IfSome r (λ d. d ≡ greatest y_power (polynomial_of number rows))
  degree_some rows n None h is = tt
  degree_some rows n (Some d) h is = height_degree rows n d h (omega arith)

  pub degree_of : (rows : List (List F)) (q : Bivariate F) (n : ℕ) (r : Option ℕ) → polynomial_of number rows ≡ q → IsHeight R rows n → SomeIff r (1 ≤ n) (n - 1)
      → (IsNone r ↔ (q ≡ empty)) × IfSome r (λ d. d ≡ greatest y_power q)
  degree_of rows q n r e h is =
      subst (λ (t : Bivariate F). (IsNone r ↔ (t ≡ empty)) × IfSome r (λ d. d ≡ greatest y_power t)) e (degree_none rows n r h is, degree_some rows n r h is)

  -- the last of a row's coefficients without zeros at the end
  pub last_nonzero : (row list : List F) (m : ℕ) → IsListOf R (coefficients R row) list → length list ≡ m + 1 → coefficients R row m ≢ nil
  last_nonzero row list m is e z = is.trimmed m e (is.each m ∙ z)

  pub past_trimmed : (row list : List F) (i : ℕ) → IsListOf R (coefficients R row) list → length list ≤ i → coefficients R row i ≡ nil
  past_trimmed row list i is l = sym (is.each i) ∙ coefficients_below R list i l

  -- it counts among the heaviest
  pub trimmed_before : (row list : List F) (i : ℕ) → IsListOf R (coefficients R row) list → coefficients R row i ≢ nil → i < length list
  trimmed_before row list i is o = elim (cases_lt i (length list)) [ inl l ↦ l | inr l ↦ absurd (o (past_trimmed row list i is l)) ]

  -- there is room for a row without its zeros at the end where there is for each of its coefficients that are not zero
  pub trimmed_room : (row list : List F) (n : ℕ) → IsListOf R (coefficients R row) list → ((i : ℕ) → coefficients R row i ≢ nil → i < n) → length list ≤ n
  trimmed_room row list n is h = elim (cases_lt n (length list)) [
    | inl l ↦
        let count : length list ≡ (length list - 1) + 1 = omega arith in
        let m : length list - 1 < n = h (length list - 1) (last_nonzero row list (length list - 1) is count) in
        omega arith
    | inr l ↦ l
  ]

  -- a sum over the rows is one over the powers of y up to the greatest
  pub total_height : (rows : List (List F)) (q : Bivariate F) (n : ℕ) (m : ℕ → ℕ) → polynomial_of number rows ≡ q → IsHeight R rows n → total n m ≤ total (greatest y_power q + 1) m
  total_height rows q zero m e h = omega arith
  total_height rows q (suc d) m e h =
      let degree : d ≡ greatest y_power q = height_degree rows (suc d) d h (omega arith) ∙ ap (greatest y_power) e in
      let count : suc d ≡ greatest y_power q + 1 = omega arith in
      let equal : total (suc d) m ≡ total (greatest y_power q + 1) m = ap (λ n. total n m) count in
      omega arith

  -- past the greatest power of x beside y^h there is nothing
  pub nil_past_row : IsField R → (rows : List (List F)) (q : Bivariate F) (h i : ℕ) → polynomial_of number rows ≡ q → greatest (x_power_at h) q + 1 ≤ i → cell R rows i h ≡ nil
  nil_past_row field rows q h i e l = elim (field.decided (cell R rows i h)) [
    | inl z ↦ z
    | inr o ↦
        let bound : greatest (x_power_at h) (polynomial_of number rows) ≡ greatest (x_power_at h) q = ap (greatest (x_power_at h)) e in
        absurd (past_row rows h i (omega arith) o)
  ]

  pub nil_past : IsField R → (rows : List (List F)) (q : Bivariate F) (i j : ℕ) → polynomial_of number rows ≡ q → greatest x_power q + 1 ≤ i → cell R rows i j ≡ nil
  nil_past field rows q i j e l = elim (field.decided (cell R rows i j)) [
    | inl z ↦ z
    | inr o ↦
        let bound : greatest x_power (polynomial_of number rows) ≡ greatest x_power q = ap (greatest x_power) e in
        absurd (past_rows rows i j (omega arith) o)
  ]
