-- Different messages have fewer than k symbols in common: the difference of their polynomials has k coefficients, which are
-- not all zero, and so fewer than k roots.
use Rattle.std.proofs.Common.{◌≡◌, ◌≢◌, inl, inr, ℕ, zero, suc, ◌+◌, ◌%◌, ◌*◌, ◌^◌, ◌<◌, ◌≤◌, refl, List, length, get_or, sym, ap, ap₂, subst, ◌∙◌, add-zero, arith}
use Rattle.std.specs.Prelude.{bit_xor}
use Rattle.std.specs.List.{AllPairs, range_with_len}
use Rattle.std.specs.List.Sorted.{IsStrictlyIncreasing}
use Rattle.std.proofs.lemmas.Bool.{cases_lt, cases_order, eqb-true}
use Rattle.std.proofs.lemmas.Nat.{pow_pos, mod-mul-add}
use Rattle.std.proofs.lemmas.List.FromFn.{length-range_with_len, get_or-range_with_len}
use Rattle.std.proofs.lemmas.List.Elements.{All-filter, filter_passes}
use Rattle.std.proofs.lemmas.List.Kept.{AllPairs-from_increasing, IsStrictlyIncreasing-filter}
use lib.Bits.{xor_comm, xor_assoc, xor_self, xor_zero_l, xor_zero_r}
use Rattle.algebra.specs.Series.{value, IsBelow}
use Rattle.algebra.proofs.Fields.{domain}
use Rattle.algebra.proofs.Nested.{nested, itself, nested_sum, value_nested}
use Rattle.algebra.proofs.Roots.{few_roots}
use Rattle.gf_terms.specs.Arithmetic.{product}
use Rattle.gf_terms.proofs.Field.{product_comm}
use Rattle.gf2m.specs.declared.gf.Gf.{Gf}
use Rattle.gf2m.specs.Elements.{element, same_element, plus, nil, ring, field}
use Rattle.code_terms.specs.Symbols.{coefficient, symbol_of}
use Rattle.code_terms.proofs.Evaluation.{nested as nested_numbers, nested-symbol_of, coefficient_below}
use Rattle.coalition_terms.specs.Distance.{have_same_symbol, common_places}
use Rattle.coalition_terms.proofs.Coefficients.{coefficient-past, same_message}

-- what is left of two numbers when nothing differs
no_difference : (a b : ℕ) → bit_xor a b ≡ 0 → a ≡ b
no_difference a b none =
    sym (xor_zero_r a) ∙ ap (bit_xor a) (sym (xor_self b)) ∙ sym (xor_assoc a b b) ∙ ap (λ t. bit_xor t b) none ∙ xor_zero_l b

increasing_range : (a n : ℕ) → IsStrictlyIncreasing (range_with_len a n)
increasing_range a n k within =
    let long : length (range_with_len a n) ≡ n = length-range_with_len a n in
    omega (arith, get_or-range_with_len a n k 0 (omega arith), get_or-range_with_len a n (k + 1) 0 (omega arith))

module _ (m : ℕ) (low : 4 ≤ m) (high : m ≤ 8) where
  -- the coefficients of a message as elements of the field
  abbrev coefficient_of : (u j : ℕ) → Gf m
  coefficient_of u j = element m (coefficient m u j) (coefficient_below m u j)

  -- the element of a place
  point : ℕ → Gf m
  point i = let some : 0 < 2 ^ m = pow_pos m in element m (i % 2 ^ m) (omega arith)

  abbrev difference : (u v j : ℕ) → Gf m
  difference u v j = plus m (coefficient_of u j) (coefficient_of v j)

  -- nested products of elements have the numbers that nested products of numbers have
  nested-numbers : (u j n : ℕ) (p : ℕ → Gf m) (x : Gf m) → ((i : ℕ) → (p i).value ≡ coefficient m u (j + i))
      → (nested (ring m low high) (λ t. t) n p x).value ≡ nested_numbers m u x.value j n
  unfolding nested nested_numbers
  nested-numbers u j zero p x each = refl
  nested-numbers u j (suc n) p x each =
      let rest : (nested (ring m low high) (λ t. t) n (λ i. p (suc i)) x).value ≡ nested_numbers m u x.value (j + 1) n =
      nested-numbers u (j + 1) n (λ i. p (suc i)) x (λ i. each (suc i) ∙ ap (coefficient m u) (omega arith)) in
      let behind : Gf m = nested (ring m low high) (λ t. t) n (λ i. p (suc i)) x in
      ap₂ bit_xor (each 0 ∙ ap (coefficient m u) (add-zero j)) (product_comm m low high x.value behind.value x.in_range behind.in_range ∙ ap (λ t. product m t x.value) rest)
      ∙ xor_comm (coefficient m u j) (product m (nested_numbers m u x.value (j + 1) n) x.value)

  -- where two messages have one symbol, the difference of their polynomials is zero
  zero_there : (k u v : ℕ) (x : Gf m) → symbol_of m k u x.value ≡ symbol_of m k v x.value → value (ring m low high) k (difference u v) x ≡ nil m low high
  zero_there k u v x same =
      let R = ring m low high in
      let left : Gf m = nested R (λ t. t) k (coefficient_of u) x in
      let right : Gf m = nested R (λ t. t) k (coefficient_of v) x in
      let symbol : (w : ℕ) → (nested R (λ t. t) k (coefficient_of w) x).value ≡ symbol_of m k w x.value =
      λ w. nested-numbers w 0 k (coefficient_of w) x (λ i. ap (coefficient m w) (omega arith)) ∙ nested-symbol_of m low high w x.value k x.in_range in
      let one : left ≡ right = same_element m left right (symbol u ∙ same ∙ sym (symbol v)) in
      value_nested R k (difference u v) x
      ∙ nested_sum R R (λ t. t) (itself R) k (coefficient_of u) (coefficient_of v) x
      ∙ ap (λ t. plus m t right) one
      ∙ R.plus_self right

  -- a message has no coefficients from k on
  difference-below : (k u v : ℕ) → u < 2 ^ (m * k) → v < 2 ^ (m * k) → IsBelow (ring m low high) k (difference u v)
  difference-below k u v us vs j past =
      same_element m (difference u v j) (nil m low high)
      (ap₂ bit_xor (coefficient-past m k u j us past) (coefficient-past m k v j vs past) ∙ xor_self 0)

  module _ (k n u v : ℕ) (places : n ≤ 2 ^ m) where
    found : List ℕ
    found = common_places m k u v n

    -- each of them is below n
    found-below : (j : ℕ) → j < length found → get_or found j 0 < n
    unfolding found
    found-below j within =
        All-filter (have_same_symbol m k u v) (λ i. i < n) (range_with_len 0 n)
        (λ i d inside. let long : length (range_with_len 0 n) ≡ n = length-range_with_len 0 n in omega (arith, get_or-range_with_len 0 n i d (omega arith)))
        j 0 within

    -- and at each of them the symbols are one
    found-same : (j : ℕ) → j < length found → symbol_of m k u (get_or found j 0) ≡ symbol_of m k v (get_or found j 0)
    unfolding found
    found-same j within =
        eqb-true (symbol_of m k u (get_or found j 0)) (symbol_of m k v (get_or found j 0))
        (filter_passes (have_same_symbol m k u v) (range_with_len 0 n) j 0 within)

    found-ascending : AllPairs (λ x y. x < y) found
    unfolding found
    found-ascending = AllPairs-from_increasing found (IsStrictlyIncreasing-filter (have_same_symbol m k u v) (range_with_len 0 n) (increasing_range 0 n))

    point-value : (j : ℕ) → j < length found → (point (get_or found j 0)).value ≡ get_or found j 0
    unfolding point
    point-value j within =
        let i : ℕ = get_or found j 0 in
        let below : i < n = found-below j within in
        let whole : i ≡ 0 * 2 ^ m + i = omega arith in
        ap (λ t. t % 2 ^ m) whole ∙ mod-mul-add 0 (2 ^ m) i (omega arith)

    -- so their points differ
    different : (i j : ℕ) → i < length found → j < length found → point (get_or found i 0) ≡ point (get_or found j 0) → i ≡ j
    different i j a b e =
        let same : get_or found i 0 ≡ get_or found j 0 = sym (point-value i a) ∙ ap (λ (t : Gf m). t.value) e ∙ point-value j b in
        elim (cases_order i j) [
          | inl one ↦ one
          | inr (inl less) ↦ absurd (omega (arith, found-ascending i j 0 less b, same))
          | inr (inr more) ↦ absurd (omega (arith, found-ascending j i 0 more a, same))
        ]

    few_common : u < 2 ^ (m * k) → v < 2 ^ (m * k) → u ≢ v → length found < k
    few_common us vs differ = elim (cases_lt (length found) k) [
      | inl few ↦ few
      | inr many ↦ absurd (differ (same_message m k u v us vs (λ j.
          let none : difference u v j ≡ nil m low high =
          few_roots (ring m low high) (domain (ring m low high) (field m low high)) k (λ i. point (get_or found i 0)) (difference u v)
          (λ i j a b. different i j (omega arith) (omega arith))
          (difference-below k u v us vs)
          (λ i within. zero_there k u v (point (get_or found i 0)) (at_point i (omega arith)))
          j (omega arith) in
          no_difference (coefficient m u j) (coefficient m v j) (ap (λ (t : Gf m). t.value) none))))
    ]
      where
        at_point : (i : ℕ) → i < length found → symbol_of m k u (point (get_or found i 0)).value ≡ symbol_of m k v (point (get_or found i 0)).value
        at_point i within = subst (λ t. symbol_of m k u t ≡ symbol_of m k v t) (sym (point-value i within)) (found-same i within)

-- different messages have one symbol in fewer than k places
pub far_apart : (m k n u v : ℕ) → 4 ≤ m → m ≤ 8 → n ≤ 2 ^ m → u < 2 ^ (m * k) → v < 2 ^ (m * k) → u ≢ v → length (common_places m k u v n) < k
unfolding found
far_apart m k n u v low high places us vs differ = few_common m low high k n u v places us vs differ
