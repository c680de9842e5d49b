-- Coefficients that are laid out in a table.
use Rattle.std.proofs.Common.{◌≡◌, ◌≢◌, ◌⊎◌, inl, inr, ℕ, suc, ◌+◌, ◌*◌, ◌<◌, ◌≤◌, List, length, set, get_or, ◌∙◌, sym, ap, ap₂, subst, arith}
use Rattle.std.proofs.lemmas.Bool.{cases_lt}
use Rattle.std.proofs.lemmas.Bool.Decides.{eqb_tells}
use Rattle.std.proofs.lemmas.List.{get_or_default, get_or-set_other, get_or-set_same}
use Rattle.std.proofs.Math.Nat.{mul-le-mul_left, mul-le-mul_right}
use Rattle.algebra.specs.Lists.{coefficients}
use Rattle.algebra.specs.Ring.{Ring}
use Rattle.algebra.proofs.CoefficientLists.{coefficients_below}
use Rattle.koetter_terms.specs.Curves.{curve}
use Rattle.koetter_terms.proofs.Places.{place_same}
use Rattle.term_lists.specs.declared.exponents.Exponents.{Exponents}
use Rattle.term_lists.specs.Places.{AreTermsBelow, exponents_at, place}
use Rattle.gs_koetter.specs.Tables.{AreCells, entry}

-- different rows or columns are different cells
pub cell_same : (width i j a b : ℕ) → j < width → b < width → i * width + j ≡ a * width + b → (i ≡ a) × (j ≡ b)
cell_same width i j a b j_in b_in is = by_order (cases_lt i a) (cases_lt a i)
  where
    by_order : (i < a) ⊎ (a ≤ i) → (a < i) ⊎ (i ≤ a) → (i ≡ a) × (j ≡ b)
    by_order (inl less) other = let more : suc i * width ≤ a * width = mul-le-mul_right width less in absurd (omega (arith, more, is, j_in))
    by_order (inr most) (inl less) = let more : suc a * width ≤ i * width = mul-le-mul_right width less in absurd (omega (arith, more, is, b_in))
    by_order (inr most) (inr least) =
        let same : i ≡ a = omega (arith, most, least) in
        let rows : i * width ≡ a * width = ap (λ n. n * width) same in
        (same, omega (arith, rows, is))

-- a cell of the table
pub cell_inside : (height width i j : ℕ) → i < height → j < width → i * width + j < height * width
cell_inside height width i j less inside = let more : suc i * width ≤ height * width = mul-le-mul_right width less in omega (arith, more, inside)

-- the power of y in a term is that of a column
pub few_columns : (w e width i j : ℕ) → i + w * j < e → e ≤ w * width → j < width
few_columns w e width i j light wide = by_order (cases_lt j width)
  where
    by_order : (j < width) ⊎ (width ≤ j) → j < width
    by_order (inl less) = less
    by_order (inr most) = let more : w * width ≤ w * j = mul-le-mul_left w most in absurd (omega (arith, more, light, wide))

-- a term of a list, as it is read
pub term_at : (w e k : ℕ) (terms : List Exponents) (t : Exponents) → AreTermsBelow w e terms → k < length terms → t ≡ get_or terms k t → (t.x + w * t.y < e) × (place w t.x t.y ≡ k)
term_at w e k terms t below l is =
    let same : exponents_at terms k ≡ t = get_or_default terms k (record { x = 0; y = 0 }) t l ∙ sym is in
    (subst (λ (x : Exponents). x.x + w * x.y < e) same (below.light k l), subst (λ (x : Exponents). place w x.x x.y ≡ k) same (below.placed k l))

-- a cell of a list, as it is read
pub cell_at : (w e width k cell : ℕ) (terms : List Exponents) (cells : List ℕ) → AreTermsBelow w e terms → AreCells width terms cells → k < length terms → cell ≡ get_or cells k 0
    → (cell ≡ (exponents_at terms k).x * width + (exponents_at terms k).y) × ((exponents_at terms k).x + w * (exponents_at terms k).y < e) × (place w (exponents_at terms k).x (exponents_at terms k).y ≡ k)
cell_at w e width k cell terms cells below are l is =
    (is ∙ are.each k l, below.light k l, below.placed k l)

module _ {F : Type 0} (R : Ring F) where
  infixl 60 ◌⊕◌
  infixl 70 ◌⊗◌
  open R use {nil, plus as ◌⊕◌, times as ◌⊗◌}

  -- the first k coefficients stand in their cells, and all other cells are zero
  pub record IsLaidOut (w e width : ℕ) (coefs : List F) (k : ℕ) (table : List F) : Type 0 where
    pub before : (i j : ℕ) → i < e → j < width → place w i j < k → entry R width table i j ≡ curve R w coefs i j
    pub from : (i j : ℕ) → i < e → j < width → k ≤ place w i j → entry R width table i j ≡ nil

  pub none_laid : (w e width : ℕ) (coefs table : List F) → ((k : ℕ) → coefficients R table k ≡ nil) → IsLaidOut w e width coefs 0 table
  none_laid w e width coefs table zeros = record { before = λ i j l m less. absurd (omega (arith, less)); from = λ i j l m n. zeros (i * width + j) }

  -- one coefficient more
  pub more_laid : (w e width : ℕ) (coefs table : List F) (k x y : ℕ) (value : F) → 1 ≤ w → place w x y ≡ k → x < e → y < width → e * width ≤ length table → value ≡ coefficients R coefs k
      → IsLaidOut w e width coefs k table → IsLaidOut w e width coefs (k + 1) (set table (x * width + y) value)
  more_laid w e width coefs table k x y value some at x_in y_in room is laid = record {
    before = λ i j l m less. elim (eqb_tells (i * width + j) (x * width + y)) [
      | inl same ↦
          let both = cell_same width i j x y m y_in same.1 in
          let here : place w i j ≡ k = ap₂ (place w) both.0 both.1 ∙ at in
          let inside = cell_inside e width x y x_in y_in in
          ap (coefficients R (set table (x * width + y) value)) same.1
          ∙ get_or-set_same table (x * width + y) value nil (omega (arith, inside, room))
          ∙ is
          ∙ ap (coefficients R coefs) (sym here)
      | inr apart ↦ beside i j apart.1 ∙ laid.before i j l m (earlier i j apart.1 less (cases_lt (place w i j) k))
    ];
    from = λ i j l m most. beside i j (λ same. let both = cell_same width i j x y m y_in same in let here : place w i j ≡ k = ap₂ (place w) both.0 both.1 ∙ at in absurd (omega (arith, most, here))) ∙ laid.from i j l m (omega (arith, most));
  }
    where
      beside : (i j : ℕ) → i * width + j ≢ x * width + y → entry R width (set table (x * width + y) value) i j ≡ entry R width table i j
      beside i j apart = get_or-set_other table (x * width + y) (i * width + j) value nil apart

      earlier : (i j : ℕ) → i * width + j ≢ x * width + y → place w i j < k + 1 → (place w i j < k) ⊎ (k ≤ place w i j) → place w i j < k
      earlier i j apart less (inl before) = before
      earlier i j apart less (inr most) =
          let same = place_same w some i j x y (omega (arith, less, most, at)) in
          absurd (apart (ap₂ (λ a b. a * width + b) same.0 same.1))

  pub all_laid : (w e width : ℕ) (coefs table : List F) (k : ℕ) → length coefs ≤ k → IsLaidOut w e width coefs k table → (i j : ℕ) → i < e → j < width → entry R width table i j ≡ curve R w coefs i j
  all_laid w e width coefs table k most laid i j l m = by_order (cases_lt (place w i j) k)
    where
      by_order : (place w i j < k) ⊎ (k ≤ place w i j) → entry R width table i j ≡ curve R w coefs i j
      by_order (inl less) = laid.before i j l m less
      by_order (inr past) = laid.from i j l m past ∙ sym (coefficients_below R coefs (place w i j) (omega (arith, most, past)))
