-- The rows of Q(x, x y + g), and how many products they take.
use Rattle.std.proofs.Common.{◌≡◌, ◌≢◌, inl, inr, ℕ, zero, suc, ◌+◌, ◌-◌, ◌*◌, ◌<◌, ◌≤◌, true, false, List, [], ◌∷◌, ◌++◌, length, get_or, refl, sym, ◌∙◌, ap, ap₂, subst, arith}
use Rattle.std.specs.Prelude.{Bool, if◌then◌else◌}
use Rattle.std.specs.FinMap.{empty}
use Rattle.std.proofs.lemmas.Bool.{cases_lt}
use Rattle.std.proofs.lemmas.List.{get_or_push, get_or_default, length_push}
use Rattle.std.proofs.lemmas.Nat.{mul-le}
use Rattle.std.proofs.Math.Nat.{mul-le-mul_right, le-mul_of_pos_right}
use Rattle.std.proofs.Math.ListN.{get_or-append}
use mathlib.Core.Path.{fun_ext}
use Rattle.algebra.specs.Ring.{Ring}
use Rattle.algebra.specs.Sums.{sum_below, power}
use Rattle.algebra.specs.Series.{constant}
use Rattle.algebra.specs.Lists.{coefficients, IsListOf}
use Rattle.algebra.specs.Binomials.{has_bits}
use Rattle.algebra.specs.Bivariate.{Bivariate, greatest, y_power, weight, raised, shift_of}
use Rattle.algebra.proofs.RingLaws.{times_nil, nil_times, times_unit, plus_nil}
use Rattle.algebra.proofs.Sums.{sum_last, sum_same, sum_zero, sum_only, power_none}
use Rattle.algebra.proofs.Series.{series}
use Rattle.algebra.proofs.CoefficientLists.{trimmed_length}
use Rattle.algebra.proofs.Shift.{shifted}
use Rattle.algebra.proofs.Weights.{weight_first, weight_next, shifted_is_sum}
use Rattle.algebra.proofs.Taylor.{shifted_back}
use Rattle.algebra.proofs.Derivatives.{column, row_is_sum}
use Rattle.algebra.proofs.Substitution.{raised_low, raised_high}
use Rattle.algebra.proofs.Stretch.{shift_is}
use Rattle.algebra.proofs.Horner.{weight_low}
use Rattle.bi_poly.specs.Rows.{cell, polynomial_of, AreLimited, ArePowers}
use Rattle.bi_poly.specs.Results.{IsMapOf}
use Rattle.bi_poly.proofs.Cells.{map_of, zero_cell, zero_polynomial}
use Rattle.bi_poly.proofs.Heights.{IsHeight, height_degree, empty_height}
use Rattle.bi_poly.proofs.RowDerivatives.{coefficient_is, rows_within}
use Rattle.bi_poly.proofs.SubstitutedRows.{cell_past, list_same}

-- n rows stand up to the last that is not zero
pub record IsRowCount {F : Type 0} (R : Ring F) (rows : List (List F)) (q : Bivariate F) (n : ℕ) : Type 0 where
  pub zeros : (i j : ℕ) → n ≤ j → cell R rows i j ≡ R.nil
  pub most : n ≤ greatest y_power q + 1
  pub low : n ≤ 4096
  pub none : q ≡ empty → n ≡ 0

pub row_count : {F : Type 0} (R : Ring F) (number : F → ℕ) (nil_is : number R.nil ≡ 0) (same : (x y : F) → number x ≡ number y → x ≡ y) (rows : List (List F)) (q : Bivariate F)
    → polynomial_of number rows ≡ q → AreLimited R rows → (slice : List (List F)) → slice ≡ rows → (n : ℕ) → IsHeight R slice n → IsRowCount R rows q n
row_count {F} R number nil_is same rows q e limits slice f n height = record {
  zeros = tall.zeros;
  most = elim (cases_lt 0 n) [
    | inl l ↦
        let degree : n - 1 ≡ greatest y_power q = height_degree R number nil_is same rows n (n - 1) tall (omega arith) ∙ ap (greatest y_power) e in
        omega arith
    | inr l ↦ omega arith
  ];
  low = elim (cases_lt 4096 n) [
    | inl l ↦ let last : (i : ℕ) × (cell R rows i (n - 1) ≢ R.nil) = tall.last (n - 1) (omega arith) in absurd (last.1 (limits.y last.0 (n - 1) (omega arith)))
    | inr l ↦ l
  ];
  none = λ z. empty_height R number nil_is same rows n tall (e ∙ z);
}
  where
    tall : IsHeight R rows n
    tall = subst (λ t. IsHeight R t n) f height

-- n powers, and for each of h rows up to n - 1 times up to s products
products_within : (n h s d : ℕ) → h ≤ n → n ≤ d → 0 < s → n + h * ((n - 1) * s) ≤ s * (d * d)
products_within n h s d l k p = elim (cases_lt 0 n) [
  | inl o ↦
      let last : n ≡ (n - 1) + 1 = omega arith in
      let rows : h * ((n - 1) * s) ≤ n * ((n - 1) * s) = mul-le-mul_right ((n - 1) * s) l in
      let powers : n ≤ n * s = le-mul_of_pos_right n p in
      let row : n * s ≡ (n - 1) * s + s = ap (λ t. t * s) last ∙ omega arith in
      let all : n * (n * s) ≡ n * ((n - 1) * s) + n * s = ap (λ t. n * t) row ∙ omega arith in
      let most : n * (n * s) ≤ d * (d * s) = mul-le n (n * s) d (d * s) k (mul-le n s d s k (omega arith)) in
      let turned : d * (d * s) ≡ s * (d * d) = omega arith in
      omega arith
  | inr o ↦
      let none : n ≡ 0 = omega arith in
      let first : h ≡ 0 = omega arith in
      let rows : h * ((n - 1) * s) ≡ 0 = ap (λ t. t * ((n - 1) * s)) first ∙ omega arith in
      omega arith
]

-- the products of one row more, up to t
more_products : (old before now n h t : ℕ) → before ≤ old + (n + h * t) → now ≤ before + t → now ≤ old + (n + (h + 1) * t)
more_products old before now n h t l k = let next : (h + 1) * t ≡ h * t + t = omega arith in omega arith

pub last_products : (old now n h s d : ℕ) → h ≤ n → n ≤ d → 0 < s → now ≤ old + (n + h * ((n - 1) * s)) → now ≤ old + s * (d * d)
last_products old now n h s d l k p m = omega (arith, products_within n h s d l k p)

-- the products of a row that was made from a slice of the rows and one of the powers
pub row_taken : {F : Type 0} (R : Ring F) (rows slice : List (List F)) → slice ≡ rows → (powers list : List F) → list ≡ powers
    → (m : ℕ) → ((i j : ℕ) → m ≤ i → cell R rows i j ≡ R.nil) → (old before now h : ℕ) → before ≤ old + (length powers + h * ((length powers - 1) * m))
    → ((most : ℕ) → ((i j : ℕ) → most ≤ i → cell R slice i j ≡ R.nil) → now ≤ before + (length list - 1) * most)
    → now ≤ old + (length powers + (h + 1) * ((length powers - 1) * m))
row_taken R rows slice e powers list f m past old before now h so_far row =
    more_products old before now (length powers) h ((length powers - 1) * m) so_far
    (subst (λ t. now ≤ before + (length t - 1) * m) f (row m (λ i j l. ap (λ t. cell R t i j) e ∙ past i j l)))

-- up to s products for each of fewer than n rows
pub row_products : (now old j n s : ℕ) → now + s ≤ old + j * s → j ≤ n → 0 < n → now ≤ old + (n - 1) * s
row_products now old j n s h l o =
    let last : n ≡ (n - 1) + 1 = omega arith in
    let rows : j * s ≤ n * s = mul-le-mul_right s l in
    let all : n * s ≡ (n - 1) * s + s = ap (λ t. t * s) last ∙ omega arith in
    omega arith

module _ {F : Type 0} (R : Ring F) where
  infixl 60 ◌⊕◌
  infixl 70 ◌⊗◌
  open R use {nil, unit, plus as ◌⊕◌, times as ◌⊗◌}

  -- the coefficients of a row without zeros at its end
  pub trimmed_row : (rows : List (List F)) (j : ℕ) (row list : List F) → j < length rows → row ≡ get_or rows j row → IsListOf R (coefficients R row) list
      → IsListOf R (λ k. cell R rows k j) list
  trimmed_row rows j row list l e is = list_same R (coefficients R row) (λ k. cell R rows k j) list (λ k. ap (λ t. coefficients R t k) (e ∙ get_or_default rows j row [] l)) is

  -- of which there are no more than powers of x
  pub trimmed_short : (rows : List (List F)) (j m : ℕ) (list : List F) → IsListOf R (λ k. cell R rows k j) list → ((a b : ℕ) → m ≤ a → cell R rows a b ≡ nil) → length list ≤ m
  trimmed_short rows j m list is x = trimmed_length R m list is.trimmed (λ k l. is.each k ∙ x k j l)

  weight_same : (x : F) (h : ℕ) → weight R x h h ≡ unit
  weight_same x zero = weight_first R x 0 ∙ power_none R x
  weight_same x (suc h) =
      weight_next R x h h
      ∙ ap₂ (λ (s t : F). s ⊕ t) (weight_same x h) (ap (λ t. x ⊗ t) (weight_low R x h (suc h) (omega arith)) ∙ times_nil R x)
      ∙ plus_nil R unit

  -- the coefficient of x^(h + k) y^h in Q(x, x y + g), from the first n rows
  abbrev pub row_sum : List (List F) → ℕ → F → ℕ → ℕ → F
  row_sum rows n g h k = sum_below R n (λ j. cell R rows k j ⊗ weight R g j h)

  -- the rows before h give nothing, and row h itself
  pub row_begun : (rows : List (List F)) (g : F) (h k : ℕ) → row_sum rows (h + 1) g h k ≡ cell R rows k h
  row_begun rows g h k =
      let next : h + 1 ≡ suc h = omega arith in
      ap (λ t. row_sum rows t g h k) next
      ∙ sum_only R (suc h) h (λ j. cell R rows k j ⊗ weight R g j h) (omega arith)
      (λ j l o. ap (λ t. cell R rows k j ⊗ t) (weight_low R g j h (omega arith)) ∙ times_nil R (cell R rows k j))
      ∙ ap (λ t. cell R rows k h ⊗ t) (weight_same g h)
      ∙ times_unit R (cell R rows k h)

  -- one row more
  pub row_more : (rows : List (List F)) (powers : List F) (g p c : F) (h j k : ℕ) → ArePowers R g powers → j - h < length powers → p ≡ coefficients R powers (j - h) → c ≡ cell R rows k j
      → row_sum rows j g h k ⊕ (if has_bits j h then p ⊗ c else nil) ≡ row_sum rows (j + 1) g h k
  unfolding weight
  row_more rows powers g p c h j k are l e f =
      let next : suc j ≡ j + 1 = omega arith in
      let value : p ≡ power R g (j - h) = e ∙ are (j - h) l in
      ap (λ t. row_sum rows j g h k ⊕ t)
      (elim (has_bits j h) as (λ (b : Bool). (if b then p ⊗ c else nil) ≡ cell R rows k j ⊗ (if b then power R g (j - h) else nil)) [
        | true ↦ ap₂ (λ (s t : F). s ⊗ t) value f ∙ R.times_comm (power R g (j - h)) (cell R rows k j)
        | false ↦ sym (times_nil R (cell R rows k j))
      ])
      ∙ sym (sum_last R j (λ t. cell R rows k t ⊗ weight R g t h))
      ∙ ap (λ t. row_sum rows t g h k) next

  -- no power of y as great as the number of rows
  row_sum_past : (rows : List (List F)) (n : ℕ) (g : F) (h k : ℕ) → n ≤ h → row_sum rows n g h k ≡ nil
  row_sum_past rows n g h k l =
      sum_zero R n (λ j. cell R rows k j ⊗ weight R g j h) (λ j m. ap (λ t. cell R rows k j ⊗ t) (weight_low R g j h (omega arith)) ∙ times_nil R (cell R rows k j))

  -- the first rows of Q(x, x y + g), from n rows
  pub record IsShifted (rows : List (List F)) (n : ℕ) (g : F) (made : ℕ) (new : List (List F)) : Type 0 where
    pub count : length new ≡ made
    pub before : (i h : ℕ) → h < made → i < h → cell R new i h ≡ nil
    pub from : (k h : ℕ) → h < made → cell R new (h + k) h ≡ row_sum rows n g h k

  pub none_shifted : (rows : List (List F)) (n : ℕ) (g : F) → IsShifted rows n g 0 []
  none_shifted rows n g = record { count = refl; before = λ i h l m. absurd (omega arith); from = λ k h l. absurd (omega arith) }

  pub row_shifted : (rows : List (List F)) (n : ℕ) (g : F) (made : ℕ) (new : List (List F)) (row : List F) → IsShifted rows n g made new
      → ((k : ℕ) → k < made → coefficients R row k ≡ nil) → ((k : ℕ) → coefficients R row (made + k) ≡ row_sum rows n g made k)
      → IsShifted rows n g (made + 1) (new ++ row ∷ [])
  row_shifted rows n g made new row so_far low high = record {
    count = length_push new row ∙ ap (λ t. t + 1) so_far.count;
    before = λ i h l m. elim (cases_lt h made) [
      | inl b ↦ old i h b ∙ so_far.before i h b m
      | inr b ↦ let same : made ≡ h = omega arith in last i h same ∙ low i (omega arith)
    ];
    from = λ k h l. elim (cases_lt h made) [
      | inl b ↦ old (h + k) h b ∙ so_far.from k h b
      | inr b ↦
          let same : made ≡ h = omega arith in
          last (h + k) h same ∙ ap (λ t. coefficients R row (t + k)) (sym same) ∙ high k ∙ ap (λ t. row_sum rows n g t k) same
    ];
  }
    where
      old : (i h : ℕ) → h < made → cell R (new ++ row ∷ []) i h ≡ cell R new i h
      old i h l = ap (λ t. coefficients R t i) (get_or-append new (row ∷ []) [] h (omega (arith, so_far.count)))

      last : (i h : ℕ) → made ≡ h → cell R (new ++ row ∷ []) i h ≡ coefficients R row i
      last i h e = ap (λ t. coefficients R t i) (get_or_push new row [] h (so_far.count ∙ e))

  module _ (rows : List (List F)) (n : ℕ) (g : F) (new : List (List F)) (all : IsShifted rows n g n new) where
    pub shifted_cell : (i h : ℕ) → cell R new i h ≡ raised R h (row_sum rows n g h) i
    shifted_cell i h = elim (cases_lt h n) [
      | inl l ↦ elim (cases_lt i h) [
        | inl k ↦ all.before i h l k ∙ sym (raised_low R h (row_sum rows n g h) i k)
        | inr k ↦ let place : i ≡ h + (i - h) = omega arith in ap (λ t. cell R new t h) place ∙ all.from (i - h) h l ∙ sym (raised_high R h (row_sum rows n g h) i k)
      ]
      | inr l ↦ cell_past R new i h (omega (arith, all.count)) ∙ elim (cases_lt i h) [
        | inl k ↦ sym (raised_low R h (row_sum rows n g h) i k)
        | inr k ↦ sym (raised_high R h (row_sum rows n g h) i k ∙ row_sum_past rows n g h (i - h) l)
      ]
    ]

    -- within the limits of y there are n rows, and those of x are not passed where the powers together do not pass them
    pub shifted_limits : (m : ℕ) → ((i j : ℕ) → m ≤ i → cell R rows i j ≡ nil) → n ≤ 4096 → m + n ≤ 65537 → AreLimited R new
    shifted_limits m x few sum = record {
      x = λ i h l. elim (cases_lt h n) [
        | inl k ↦ elim (cases_lt i h) [
          | inl o ↦ all.before i h k o
          | inr o ↦
              let place : i ≡ h + (i - h) = omega arith in
              ap (λ t. cell R new t h) place
              ∙ all.from (i - h) h k
              ∙ sum_zero R n (λ j. cell R rows (i - h) j ⊗ weight R g j h) (λ j _. ap (λ t. t ⊗ weight R g j h) (x (i - h) j (omega arith)) ∙ nil_times R (weight R g j h))
        ]
        | inr k ↦ cell_past R new i h (omega (arith, all.count))
      ];
      y = λ i h l. cell_past R new i h (omega (arith, all.count));
    }

    -- where all coefficients are zero, all were
    pub shifted_zero : ((i h : ℕ) → cell R new i h ≡ nil) → ((i j : ℕ) → n ≤ j → cell R rows i j ≡ nil) → (i j : ℕ) → cell R rows i j ≡ nil
    shifted_zero zeros y i j =
        sym (shifted_back R n (λ t. cell R rows i t) g j (λ t l. y i t l))
        ∙ shifted_is_sum R n (shifted R n (λ t. cell R rows i t) g) g j
        ∙ sum_zero R n (λ t. shifted R n (λ s. cell R rows i s) g t ⊗ weight R g t j) (λ t l.
        ap (λ s. s ⊗ weight R g t j) (shifted_is_sum R n (λ s. cell R rows i s) g t ∙ sym (all.from i t l) ∙ zeros (t + i) t) ∙ nil_times R (weight R g t j))

    module _ (number : F → ℕ) (nil_is : number R.nil ≡ 0) (same : (x y : F) → number x ≡ number y → x ≡ y) (q : Bivariate F) (e : polynomial_of number rows ≡ q)
        (m : ℕ) (x : (i j : ℕ) → m ≤ i → cell R rows i j ≡ nil) (y : (i j : ℕ) → n ≤ j → cell R rows i j ≡ nil) where
      -- the new rows are those of Q(x, x y + g)
      pub shifted_value : IsMapOf number (shift_of R q g) (polynomial_of number new)
      shifted_value = map_of R number nil_is same new (shift_of R q g) (λ i h. shifted_cell i h ∙ ap (λ (t : ℕ → F). raised R h t i) (sym (fun_ext (row h))) ∙ sym (shift_is R m n q g i h (rows_within R number nil_is same rows q e m n x y)))
        where
          row : (h k : ℕ) → shifted (series R) n (column R q) (constant R g) h k ≡ row_sum rows n g h k
          row h k =
              row_is_sum R n (column R q) g h k
              ∙ sum_same R n (λ j. column R q j k ⊗ weight R g j h) (λ j. cell R rows k j ⊗ weight R g j h)
              (λ j _. ap (λ t. t ⊗ weight R g j h) (coefficient_is R number nil_is same rows q e k j))

      -- which is zero only for the zero polynomial
      pub shifted_nonzero : q ≢ empty → polynomial_of number new ≢ empty
      shifted_nonzero n z = n (sym e ∙ zero_polynomial R number nil_is same rows (shifted_zero (zero_cell R number nil_is same new z) y))
