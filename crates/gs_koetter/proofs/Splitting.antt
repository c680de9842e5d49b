-- Tables whose columns are polynomials, and their halves.
use Rattle.std.proofs.Common.{◌≡◌, ◌≢◌, ◌⊎◌, inl, inr, ℕ, zero, suc, ◌+◌, ◌-◌, ◌*◌, ◌/◌, ◌^◌, ◌<◌, ◌≤◌, List, [], ◌∷◌, ◌++◌, length, take, drop, length-append, ◌∙◌, sym, ap, ap₂, arith}
use Rattle.std.proofs.lemmas.Bool.{cases_lt}
use Rattle.std.proofs.lemmas.List.{get_or-append_right, get_or-drop, get_or-take, get_or_append_left, length-drop}
use Rattle.std.proofs.Math.Nat.{mul-le-mul_right}
use Rattle.std.proofs.Math.Seq.{get_or-append_seam}
use Rattle.algebra.specs.Lists.{coefficients}
use Rattle.algebra.specs.Ring.{Ring}
use Rattle.algebra.specs.Series.{IsBelow}
use Rattle.algebra.specs.Sums.{power}
use Rattle.algebra.proofs.CoefficientLists.{coefficients_below}
use Rattle.algebra.proofs.RingLaws.{ring}
use Rattle.koetter_terms.specs.Curves.{IsSum}
use Rattle.koetter_terms.specs.Derivatives.{derivative}
use Rattle.koetter_terms.proofs.Derivatives.{derivative_more, derivative_same}
use Rattle.gs_koetter.specs.declared.frame.Halvings.{Halvings}
use Rattle.gs_koetter.specs.Tables.{AreSquares, entry}
use Rattle.gs_koetter.proofs.Halves.{double, lower_half, upper_half}
use Rattle.gs_koetter.proofs.Laying.{cell_inside}
use Rattle.gs_koetter.proofs.Prefixes.{take_length}

pub next_count : {X : Type 0} (xs ys : List X) (x : X) → ys ≡ xs ++ x ∷ [] → length ys ≡ suc (length xs)
next_count xs ys x is = omega (arith, ap length is, length-append xs (x ∷ []))

pub half_span : (n m span width : ℕ) → m ≡ suc n → span ≡ 2 ^ m * width → (span / 2 ≡ 2 ^ n * width) × (span ≡ span / 2 + span / 2)
half_span n m span width is whole =
    let twice : 2 ^ m ≡ 2 ^ n + 2 ^ n = ap (λ k. 2 ^ k) is ∙ double n in
    let all : 2 ^ m * width ≡ (2 ^ n + 2 ^ n) * width = ap (λ k. k * width) twice in
    (omega (arith, whole, all), omega (arith, whole, all))

pub halved : (n m span : ℕ) → m ≡ suc n → (width : ℕ) × (span ≡ 2 ^ m * width) → (width : ℕ) × (span / 2 ≡ 2 ^ n * width)
halved n m span is even = (even.0, (half_span n m span even.0 is even.1).0)

some_power : (n : ℕ) → 1 ≤ 2 ^ n
some_power zero = omega arith
some_power (suc n) = omega (arith, double n, some_power n)

pub span_is : (h : Halvings) (count width : ℕ) → count ≡ h.count → h.width ≡ width → h.span ≡ 2 ^ count * width
span_is h count width same wide = h.whole ∙ ap₂ (λ k n. 2 ^ k * n) (sym same) wide

pub enough_rows : (h : Halvings) (count rows : ℕ) → count ≡ h.count → h.rows ≡ rows → rows ≤ 2 ^ count
enough_rows h count rows same is = let all : 2 ^ count ≡ 2 ^ h.count = ap (λ k. 2 ^ k) same in omega (arith, all, h.enough, is)

pub wide_enough : (h : Halvings) (rows width long : ℕ) → long ≡ rows * width → h.rows ≡ rows → h.width ≡ width → long ≤ h.span
wide_enough h rows width long is same wide =
    let more : h.rows * h.width ≤ 2 ^ h.count * h.width = mul-le-mul_right h.width h.enough in
    let whole : h.rows * h.width ≡ rows * width = ap₂ (λ a b. a * b) same wide in
    omega (arith, is, more, whole, h.whole)

-- what is wanted of the upper half takes one row less
rest_wanted : (wanted half rows width n : ℕ) → half ≡ 2 ^ n * width → wanted ≤ suc rows * width → wanted - half ≤ rows * width
rest_wanted wanted half rows width n is most = let more : 1 * width ≤ 2 ^ n * width = mul-le-mul_right width (some_power n) in omega (arith, is, most, more)

-- the products of both halves
pub halves_products : (wanted half rows width n low high all old first second last : ℕ) → wanted ≢ 0 → half ≡ 2 ^ n * width → wanted ≤ rows * width → all ≡ low + high → first ≡ old + high
    → ((k : ℕ) → wanted ≤ k * width → second ≤ first + k * low) → ((k : ℕ) → wanted - half ≤ k * width → last ≤ second + k * high) → last ≤ old + rows * all
halves_products wanted half zero width n low high all old first second last some is most whole one two three = absurd (some (omega (arith, most)))
halves_products wanted half (suc rows) width n low high all old first second last some is most whole one two three =
    let a = two (suc rows) most in
    let b = three rows (rest_wanted wanted half rows width n is most) in
    let c : suc rows * all ≡ suc rows * (low + high) = ap (λ k. suc rows * k) whole in
    omega (arith, a, b, c, one)

-- the halves of a table
pub lengths : {X : Type 0} (half span : ℕ) (table low high : List X) → low ≡ take half table → high ≡ drop half table → half < length table → length table ≤ span → span ≡ half + half
    → (length low ≡ half) × (length high ≤ half) × (length table ≡ length low + length high)
lengths half span table low high low_is high_is less room even =
    let a : length low ≡ half = ap length low_is ∙ take_length half table (omega (arith, less)) in
    let b : length high ≡ length table - half = ap length high_is ∙ length-drop half table in
    (a, omega (arith, b, room, even), omega (arith, a, b, less))

pub summed_length : {X : Type 0} (n : ℕ) (low new : List X) → length new ≡ length (take n low) → n ≤ length low → length (new ++ drop n low) ≡ length low
summed_length n low new same room = omega (arith, length-append new (drop n low), length-drop n low, same, take_length n low room)

module _ {F : Type 0} (R : Ring F) where
  infixl 60 ◌⊕◌
  infixl 70 ◌⊗◌
  open R use {nil, plus as ◌⊕◌, times as ◌⊗◌}

  pub squares_front : (a x : F) (xs ys : List F) → ys ≡ xs ++ x ∷ [] → AreSquares R a ys → AreSquares R a xs
  squares_front a x xs ys is are k l =
      sym (ap (λ t. coefficients R t k) is ∙ get_or_append_left xs (x ∷ []) nil k l)
      ∙ are k (omega (arith, l, next_count xs ys x is))

  pub squares_last : (a x : F) (xs ys : List F) → ys ≡ xs ++ x ∷ [] → AreSquares R a ys → x ≡ power R a (2 ^ length xs)
  squares_last a x xs ys is are =
      sym (ap (λ t. coefficients R t (length xs)) is ∙ get_or-append_seam xs x [] nil)
      ∙ are (length xs) (omega (arith, next_count xs ys x is))

  -- no rows stand past the end
  pub past_rows : (height width j : ℕ) (table : List F) → length table ≤ height * width → IsBelow R height (λ i. entry R width table i j)
  past_rows height width j table long i l =
      let more : height * width ≤ i * width = mul-le-mul_right width l in
      coefficients_below R table (i * width + j) (omega (arith, long, more))

  -- a table with an empty upper half
  pub short_value : (n width u j : ℕ) (table : List F) (a : F) → length table ≤ 2 ^ n * width
      → derivative R (2 ^ n) (λ i. entry R width table i j) a u ≡ derivative R (2 ^ suc n) (λ i. entry R width table i j) a u
  short_value n width u j table a long = derivative_more R (2 ^ n) (2 ^ suc n) (λ i. entry R width table i j) a u (omega (arith, double n)) (past_rows (2 ^ n) width j table long)

  -- a multiple of a list added to the front of a longer one
  pub summed_front : (n : ℕ) (factor : F) (low high new : List F) → n ≡ length high → n ≤ length low → length new ≡ length (take n low) → IsSum R factor high (take n low) new → IsSum R factor high low (new ++ drop n low)
  summed_front n factor low high new is room same sum k = by_order (cases_lt k n)
    where
      long : length new ≡ n
      long = same ∙ take_length n low room

      by_order : (k < n) ⊎ (n ≤ k) → coefficients R (new ++ drop n low) k ≡ coefficients R low k ⊕ factor ⊗ coefficients R high k
      by_order (inl less) =
          get_or_append_left new (drop n low) nil k (omega (arith, less, long))
          ∙ sum k
          ∙ ap (λ t. t ⊕ factor ⊗ coefficients R high k) (get_or-take n low k nil less)
      by_order (inr most) =
          let at : n + (k - n) ≡ k = omega (arith, most) in
          get_or-append_right new (drop n low) n k nil long most
          ∙ get_or-drop n low (k - n) nil
          ∙ ap (coefficients R low) at
          ∙ sym (ap (λ t. coefficients R low k ⊕ factor ⊗ t) (coefficients_below R high k (omega (arith, most, is))) ∙ simp ring)

  -- the derivatives from those of both halves
  module _ (n width half wanted : ℕ) (table low high summed first second : List F) (a c : F) (half_is : half ≡ 2 ^ n * width) (low_is : low ≡ take half table) (high_is : high ≡ drop half table)
      (sum : IsSum R c high low summed) (c_is : c ≡ power R a (2 ^ n)) (first_long : length first ≡ half)
      (in_first : (u j : ℕ) → j < width → u * width + j < wanted → entry R width first u j ≡ derivative R (2 ^ n) (λ i. entry R width summed i j) a u)
      (in_second : (u j : ℕ) → j < width → u * width + j < wanted - half → entry R width second u j ≡ derivative R (2 ^ n) (λ i. entry R width high i j) a u) where
    cell_low : (i j : ℕ) → i < 2 ^ n → j < width → entry R width low i j ≡ entry R width table i j
    cell_low i j l m =
        let inside = cell_inside (2 ^ n) width i j l m in
        ap (λ t. coefficients R t (i * width + j)) low_is ∙ get_or-take half table (i * width + j) nil (omega (arith, inside, half_is))

    cell_high : (i j : ℕ) → entry R width high i j ≡ entry R width table (2 ^ n + i) j
    cell_high i j =
        let at : half + (i * width + j) ≡ (2 ^ n + i) * width + j = omega (arith, half_is) in
        ap (λ t. coefficients R t (i * width + j)) high_is ∙ get_or-drop half table (i * width + j) nil ∙ ap (coefficients R table) at

    pub halves_value : (u j : ℕ) → j < width → u * width + j < wanted → entry R width (first ++ second) u j ≡ derivative R (2 ^ suc n) (λ i. entry R width table i j) a u
    halves_value u j l m = by_order (cases_lt u (2 ^ n))
      where
        by_order : (u < 2 ^ n) ⊎ (2 ^ n ≤ u) → entry R width (first ++ second) u j ≡ derivative R (2 ^ suc n) (λ i. entry R width table i j) a u
        by_order (inl less) =
            let inside = cell_inside (2 ^ n) width u j less l in
            get_or_append_left first second nil (u * width + j) (omega (arith, inside, half_is, first_long))
            ∙ in_first u j l m
            ∙ derivative_same R (2 ^ n) (λ i. entry R width summed i j) (λ i. entry R width table i j ⊕ c ⊗ entry R width table (2 ^ n + i) j) a u
            (λ i k. sum (i * width + j) ∙ ap₂ (λ (s t : F). s ⊕ c ⊗ t) (cell_low i j k l) (cell_high i j))
            ∙ sym (lower_half R n (λ i. entry R width table i j) a u c c_is less)
        by_order (inr most) =
            let v : ℕ = u - 2 ^ n in
            let is : u ≡ 2 ^ n + v = omega (arith, most) in
            let rows : u * width ≡ (2 ^ n + v) * width = ap (λ k. k * width) is in
            let at : u * width + j - half ≡ v * width + j = omega (arith, rows, half_is) in
            get_or-append_right first second half (u * width + j) nil first_long (omega (arith, rows, half_is))
            ∙ ap (coefficients R second) at
            ∙ in_second v j l (omega (arith, rows, half_is, m))
            ∙ derivative_same R (2 ^ n) (λ i. entry R width high i j) (λ i. entry R width table (2 ^ n + i) j) a v (λ i k. cell_high i j)
            ∙ sym (upper_half R n (λ i. entry R width table i j) a u v is)
