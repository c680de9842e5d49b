-- A shift by a root of Q(0, y), divided by its greatest power of x, is a branch.
use Rattle.std.proofs.Common.{◌≡◌, ◌≢◌, inl, inr, ℕ, zero, suc, ◌+◌, ◌*◌, ◌<◌, ◌≤◌, None, Some, refl, sym, ◌∙◌, ap, subst, arith}
use Rattle.std.specs.declared.option.Option.{Option}
use Rattle.std.specs.Option.{unwrap_or}
use Rattle.std.specs.FinMap.{get, empty, get-empty}
use Rattle.std.proofs.lemmas.Bool.{cases_lt}
use Rattle.std.proofs.lemmas.Nat.{mul-le}
use Rattle.std.proofs.Math.Numerals.{add-one}
use mathlib.Core.Path.{fun_ext}
use Rattle.algebra.specs.Ring.{Ring, IsField}
use Rattle.algebra.specs.Series.{value}
use Rattle.algebra.specs.Bivariate.{Bivariate, IsProper, coefficient, greatest, pair_cmp, weight_by, x_power, y_power, shift_of}
use Rattle.algebra.proofs.Entries.{coefficient_past, greatest_at, greatest_least, within}
use Rattle.bi_poly.specs.Results.{kept, IsMapOf, IsPowerOfX, IsStripped, shift_bound}
use Rattle.bi_poly.proofs.Cells.{kept_nil}
use Rattle.bi_poly.proofs.ShiftedDegrees.{coefficient_of_map, shifted_x, shifted_y, shifted_weight}
use Rattle.root_terms.specs.YRoots.{IsYRoot, led_by}
use Rattle.root_terms.specs.Branches.{at_zero, IsReduced, IsBranch, IsReduction}
use Rattle.root_terms.proofs.Shifts.{shift_low, shift_first, root_of_shift}
use Rattle.root_terms.proofs.Steps.{along_shift, no_entry, root_of_stripped, stripped_root}

-- the zero polynomial has no coefficients
pub zero_coefficient : {F : Type 0} (R : Ring F) (q : Bivariate F) → q ≡ empty → (i j : ℕ) → coefficient R q i j ≡ R.nil
zero_coefficient {F} R q e i j = ap (λ (t : Bivariate F). coefficient R t i j) e ∙ ap (λ (o : Option F). unwrap_or o R.nil) (get-empty pair_cmp (i, j))

-- a polynomial with a coefficient at x = 0 is not zero
pub reduced_nonzero : {F : Type 0} (R : Ring F) (q : Bivariate F) → IsReduced R q → q ≢ empty
reduced_nonzero R q some e = some.1 (zero_coefficient R q e 0 some.0)

-- where no coefficient in the map is zero
pub proper_nonzero : {F : Type 0} (R : Ring F) (q : Bivariate F) → IsProper R q → (i j : ℕ) → get q (i, j) ≢ None → coefficient R q i j ≢ R.nil
proper_nonzero {F} R q proper i j = elim (get q (i, j)) as (λ (o : Option F). o ≢ Some R.nil → o ≢ None → unwrap_or o R.nil ≢ R.nil) [
  | None ↦ λ p n e. n refl
  | Some x ↦ λ p n e. p (ap (λ t. Some t) e)
] (proper i j)

-- what a division by a power of x makes of weights
module _ {F : Type 0} (q curve : Bivariate F) (r : ℕ) (stripped : IsStripped r q curve) where
  pub stripped_weighs : (weigh : ℕ → ℕ → ℕ) → ((i j : ℕ) → weigh i j ≤ weigh (i + r) j) → greatest weigh curve ≤ greatest weigh q
  stripped_weighs weigh grows = greatest_least weigh curve (greatest weigh q) (λ i j n.
      let there : weigh (i + r) j ≤ greatest weigh q = greatest_at weigh q (i + r) j (λ e. n (stripped i j ∙ e)) in
      let less : weigh i j ≤ weigh (i + r) j = grows i j in
      omega arith)

module _ {F : Type 0} (R : Ring F) where
  open R use {nil}

  coefficient_stripped : (q curve : Bivariate F) (r : ℕ) → IsStripped r q curve → (j : ℕ) → at_zero R curve j ≡ coefficient R q r j
  coefficient_stripped q curve r stripped j =
      let place : 0 + r ≡ r = omega arith in
      ap (λ (o : Option F). unwrap_or o nil) (stripped 0 j) ∙ ap (λ t. coefficient R q t j) place

  -- a polynomial without its powers of x
  pub reduction_of : (q curve : Bivariate F) (r : ℕ) → IsPowerOfX r q → IsStripped r q curve → ((i j : ℕ) → get q (i, j) ≢ None → coefficient R q i j ≢ nil) → IsReduction R q curve
  reduction_of q curve r power stripped proper = record {
    below = root_of_stripped R q curve r power.divides stripped;
    above = stripped_root R q curve r power.divides stripped;
    reduced = (power.row, λ e. proper r power.row power.reached (sym (coefficient_stripped q curve r stripped power.row) ∙ e));
    x = stripped_weighs q curve r stripped x_power (λ i j. omega arith);
    y = stripped_weighs q curve r stripped y_power (λ i j. omega arith);
    weight = λ w. stripped_weighs q curve r stripped (weight_by w) (λ i j. omega arith);
  }

  module _ (field : IsField R) (number : F → ℕ) (nil_is : number nil ≡ 0) (exact : (x y : F) → number x ≡ number y → x ≡ y)
      (q shift child : Bivariate F) (c : F) (r : ℕ) (is : IsMapOf number (shift_of R q c) shift) (power : IsPowerOfX r shift) (stripped : IsStripped r shift child)
      (root : value R (greatest y_power q + 1) (at_zero R q) c ≡ nil) where
    each : (i j : ℕ) → coefficient R shift i j ≡ shift_of R q c i j
    each = coefficient_of_map R number nil_is exact (shift_of R q c) shift is

    -- an entry of the shift is not zero
    entry_nonzero : (i j : ℕ) → get shift (i, j) ≢ None → shift_of R q c i j ≢ nil
    entry_nonzero i j n e = n (is i j ∙ ap (kept number) e ∙ kept_nil R number nil_is exact)

    child_first : (j : ℕ) → at_zero R child j ≡ shift_of R q c r j
    child_first j = coefficient_stripped shift child r stripped j ∙ each r j

    divides_once : 1 ≤ r
    divides_once = elim (cases_lt 0 r) [
      | inl l ↦ l
      | inr l ↦
          let none : r ≡ 0 = omega arith in
          absurd (entry_nonzero r power.row power.reached (ap (λ t. shift_of R q c t power.row) none ∙ first power.row))
    ]
      where
        first : (j : ℕ) → shift_of R q c 0 j ≡ nil
        first zero = shift_first R q c ∙ root
        first (suc j) = shift_low R q c 0 (suc j) (omega arith)

    led_again : (f : ℕ → F) (k : ℕ) → led_by (f 0) (λ i. f (suc i)) k ≡ f k
    led_again f zero = refl
    led_again f (suc k) = refl

    pub branch_of : IsBranch R q c child
    branch_of = record {
      below = λ f h k. sym (along_shift R q shift c each f k) ∙ root_of_stripped R shift child r power.divides stripped f h k;
      above = λ f h e.
          stripped_root R shift child r power.divides stripped (λ i. f (suc i)) (λ k.
          along_shift R q shift c each (λ i. f (suc i)) k
          ∙ subst (λ (t : ℕ → F). IsYRoot R q t) (sym (ap (λ t. led_by t (λ i. f (suc i))) e ∙ fun_ext (led_again f))) h k);
      reduced = (power.row, λ e. entry_nonzero r power.row power.reached (sym (child_first power.row) ∙ e));
      order = r;
      some = divides_once;
      root = root_of_shift R q c field r (λ h l. sym (each h h) ∙ no_entry R shift h h (λ n. let least : r ≤ h = power.divides h h n in absurd (omega arith)));
      narrow = λ j n. elim (cases_lt r j) [
        | inl l ↦ absurd (n (child_first j ∙ shift_low R q c r j l))
        | inr l ↦ l
      ];
      x =
          let less : greatest x_power child ≤ greatest x_power shift = stripped_weighs shift child r stripped x_power (λ i j. omega arith) in
          omega (arith, shifted_x R number nil_is exact q shift c is);
      y =
          let less : greatest y_power child ≤ greatest y_power shift = stripped_weighs shift child r stripped y_power (λ i j. omega arith) in
          omega (arith, shifted_y R number nil_is exact q shift c is);
      weight = λ w.
          let less : greatest (weight_by w) child ≤ greatest (weight_by w) shift = stripped_weighs shift child r stripped (weight_by w) (λ i j. omega arith) in
          let more : greatest (weight_by w) shift ≤ greatest (weight_by (w + 1)) q = shifted_weight R number nil_is exact q shift c is w in
          let next : greatest (weight_by (w + 1)) q ≡ greatest (weight_by (suc w)) q = ap (λ t. greatest (weight_by t) q) (add-one w) in
          omega arith;
    }

  -- no powers of x past the greatest
  pub past_x : (q : Bivariate F) (i j : ℕ) → greatest x_power q < i → coefficient R q i j ≡ nil
  past_x q i j l = coefficient_past R (greatest x_power q + 1) (greatest y_power q + 1) q (within q) i j (inl (omega arith))

  -- x counts in every weight
  x_light : (q : Bivariate F) (w : ℕ) → greatest x_power q ≤ greatest (weight_by w) q
  x_light q w = greatest_least x_power q (greatest (weight_by w) q) (λ i j n. let there : i + w * j ≤ greatest (weight_by w) q = greatest_at (weight_by w) q i j n in omega arith)

  pub shift_cost : (q : Bivariate F) (w y e : ℕ) → greatest y_power q < y → greatest (weight_by w) q < e → shift_bound q ≤ e * (y * y)
  shift_cost q w y e l m =
      let light : greatest x_power q ≤ greatest (weight_by w) q = x_light q w in
      let x : greatest x_power q + 1 ≤ e = omega arith in
      let powers : greatest y_power q + 1 ≤ y = omega arith in
      mul-le (greatest x_power q + 1) ((greatest y_power q + 1) * (greatest y_power q + 1)) e (y * y) x (mul-le (greatest y_power q + 1) (greatest y_power q + 1) y y powers powers)

  -- Q(x, 0) has no powers past its greatest
  pub vanishes : (q : Bivariate F) (d : ℕ) → d ≡ greatest x_power q → ((i : ℕ) → i < d + 1 → coefficient R q i 0 ≡ nil) → (i : ℕ) → coefficient R q i 0 ≡ nil
  vanishes q d e zeros i = elim (cases_lt i (d + 1)) [
    | inl l ↦ zeros i l
    | inr l ↦ past_x q i 0 (omega arith)
  ]
