-- Messages as polynomials over the field: their symbols are values, and their numbers tell them.
use Rattle.std.proofs.Common.{◌≡◌, inl, inr, ℕ, zero, suc, ◌+◌, ◌*◌, ◌/◌, ◌%◌, ◌^◌, ◌<◌, true, List, [], ◌∷◌, length, map, refl, sym, ◌∙◌, ap, ap₂, arith}
use Rattle.std.specs.Prelude.{bit_xor}
use Rattle.std.proofs.Math.Nat.{mod-add-div, mul-zero}
use Rattle.std.proofs.lemmas.Bool.{cases_lt, eqb-true}
use Rattle.std.proofs.lemmas.List.{get_or-map, get_or_past, length-map}
use Rattle.std.proofs.lemmas.Nat.{pow_pos, pow-add, div_below}
use mathlib.Core.Path.{fun_ext}
use Rattle.algebra.specs.Ring.{Ring}
use Rattle.algebra.specs.Sums.{power}
use Rattle.algebra.specs.Series.{value}
use Rattle.algebra.specs.Lists.{coefficients}
use Rattle.algebra.proofs.Sums.{sum_none, sum_last, power_none, power_next}
use Rattle.gf_terms.specs.Arithmetic.{product, power as gf_power}
use Rattle.code_terms.specs.Symbols.{coefficient, packed, symbol_of}
use Rattle.code_terms.proofs.Packing.{coefficient-packed}
use Rattle.rs_code.proofs.Coefficients.{numbers_below}
use Rattle.root_terms.specs.YRoots.{number_of}
use Rattle.list_decode.specs.Points.{goes_through}

one_more : (m n : ℕ) → 2 ^ (m * suc n) ≡ 2 ^ (m * n) * 2 ^ m
one_more m n = let e : m * suc n ≡ m * n + m = omega arith in ap (λ i. 2 ^ i) e ∙ pow-add 2 (m * n) m

module _ {F : Type 0} (R : Ring F) (number : F → ℕ) (m size : ℕ) (size_is : size ≡ 2 ^ m) (below : (x : F) → number x < size)
    (number_plus : (x y : F) → number (R.plus x y) ≡ bit_xor (number x) (number y)) (number_times : (x y : F) → number (R.times x y) ≡ product m (number x) (number y))
    (nil_is : number R.nil ≡ 0) (unit_is : number R.unit ≡ 1) (exact : (x y : F) → number x ≡ number y → x ≡ y) (each : (n : ℕ) → n < size → (x : F) × (number x ≡ n)) where
  -- the message's coefficients as elements
  pub spelled : (k u : ℕ) → u < 2 ^ (m * k) → (list : List F) × (length list ≡ k) × (packed m (map number list) ≡ u)
  unfolding packed
  spelled zero u l =
      let none : 2 ^ (m * 0) ≡ 1 = ap (λ i. 2 ^ i) (mul-zero m) in
      ([], refl, omega arith)
  spelled (suc k) u l =
      let some : 0 < 2 ^ m = pow_pos m in
      let first = each (u % 2 ^ m) (omega arith) in
      let rest = spelled k (u / 2 ^ m) (div_below u (2 ^ m) (2 ^ (m * k)) some (omega (arith, one_more m k))) in
      let short : length rest.0 ≡ k = rest.1 in (
        first.0 ∷ rest.0,
        omega arith,
        ap₂ (λ a b. a + 2 ^ m * b) first.1 rest.2 ∙ mod-add-div u (2 ^ m),
      )

  packed_is : (list : List F) → packed m (map number list) ≡ number_of number size list
  unfolding packed
  packed_is [] = refl
  packed_is (c ∷ list) = ap₂ (λ a b. number c + a * b) (sym size_is) (packed_is list)

  -- what the search numbers its roots by is the number of the message
  pub packed_all : (λ (list : List F). packed m (map number list)) ≡ number_of number size
  packed_all = fun_ext packed_is

  zero_number : (list : List F) → ((i : ℕ) → coefficients R list i ≡ R.nil) → number_of number size list ≡ 0
  zero_number [] h = refl
  zero_number (c ∷ list) h =
      let first : number c ≡ 0 = ap number (h 0) ∙ nil_is in
      let rest : size * number_of number size list ≡ size * 0 = ap (λ t. size * t) (zero_number list (λ i. h (suc i))) in
      omega arith

  same_number : (xs ys : List F) → ((i : ℕ) → coefficients R xs i ≡ coefficients R ys i) → number_of number size xs ≡ number_of number size ys
  same_number [] ys h = sym (zero_number ys (λ i. sym (h i)))
  same_number (c ∷ xs) [] h = zero_number (c ∷ xs) h
  same_number (c ∷ xs) (d ∷ ys) h = ap₂ (λ a b. a + size * b) (ap number (h 0)) (same_number xs ys (λ i. h (suc i)))

  -- a list with the message's coefficients has its number
  pub same_message : (root list : List F) (u : ℕ) → ((i : ℕ) → coefficients R root i ≡ coefficients R list i) → packed m (map number list) ≡ u → packed m (map number root) ≡ u
  same_message root list u h e = packed_is root ∙ same_number root list h ∙ sym (packed_is list) ∙ e

  number_power : (x : F) (n : ℕ) → number (power R x n) ≡ gf_power m (number x) n
  unfolding gf_power
  number_power x zero = ap number (power_none R x) ∙ unit_is
  number_power x (suc n) = ap number (power_next R x n) ∙ number_times x (power R x n) ∙ ap (product m (number x)) (number_power x n)

  number_coefficient : (list : List F) (j : ℕ) → number (coefficients R list j) ≡ coefficient m (packed m (map number list)) j
  number_coefficient list j =
      elim (cases_lt j (length list)) [
        | inl l ↦ sym (get_or-map number list j R.nil 0 l)
        | inr l ↦ ap number (get_or_past list j R.nil l) ∙ nil_is ∙ sym (get_or_past (map number list) j 0 (omega (arith, length-map list number)))
      ]
      ∙ sym (coefficient-packed m (map number list) j (numbers_below number m size below size_is list))

  -- a symbol is a value
  number_value : (list : List F) (x : F) (k : ℕ) → number (value R k (coefficients R list) x) ≡ symbol_of m k (packed m (map number list)) (number x)
  unfolding symbol_of
  number_value list x zero = ap number (sum_none R (λ i. R.times (coefficients R list i) (power R x i))) ∙ nil_is
  number_value list x (suc k) =
      ap number (sum_last R k (λ i. R.times (coefficients R list i) (power R x i)))
      ∙ number_plus (value R k (coefficients R list) x) (R.times (coefficients R list k) (power R x k))
      ∙ ap₂ bit_xor (number_value list x k)
      (number_times (coefficients R list k) (power R x k) ∙ ap₂ (product m) (number_coefficient list k) (number_power x k))

  -- where a message goes through a point, so does its polynomial
  pub through : (list : List F) (u k : ℕ) → packed m (map number list) ≡ u → (p : F × F) → goes_through number m k u p ≡ true → value R k (coefficients R list) p.0 ≡ p.1
  through list u k e p h =
      exact (value R k (coefficients R list) p.0) p.1
      (number_value list p.0 k ∙ ap (λ t. symbol_of m k t (number p.0)) e ∙ sym (eqb-true (number p.1) (symbol_of m k u (number p.0)) h))
