-- The elements of GF(2^m) are the numbers below 2^m, with exclusive or as the sum and the product of polynomials modulo one of degree m.
use Rattle.std.specs.Prelude.{◌≡◌, ◌≢◌, ◌⊎◌, ℕ, ◌^◌, ◌<◌, ◌≤◌, bit_xor}
use Rattle.std.proofs.Common.{ap, inl, inr}
use Rattle.std.proofs.Math.Nat.{pos_of_ne-zero}
use Rattle.std.proofs.Math.Bridge.{le_prop}
use Rattle.std.proofs.lemmas.Bool.Decides.{eqb_tells}
use mathlib.Core.Path.{path_j}
use lib.Bits.{xor_lt, xor_comm, xor_assoc, xor_self, xor_zero_l}
use Rattle.algebra.specs.Ring.{Ring, IsField}
use Rattle.gf_terms.specs.Arithmetic.{product}
use Rattle.gf_terms.proofs.Linear.{product_plus}
use Rattle.gf_terms.proofs.Field.{closed, product_comm, product_assoc, one_product, one_below, zero_below, one_is_not_zero, inverse}
use Rattle.gf2m.specs.declared.gf.Gf.{Gf}

abbrev pub element : (m n : ℕ) → n < 2 ^ m → Gf m
element m n h = record { value = n; in_range = h }

-- two elements with one number are one
pub same_element : (m : ℕ) (x y : Gf m) → x.value ≡ y.value → x ≡ y
same_element m x y h = path_j (λ (v : ℕ) _. (p : v < 2 ^ m) → element m x.value x.in_range ≡ element m v p) (λ p. ap (element m x.value) (le_prop x.in_range p)) h y.in_range

module _ (m : ℕ) where
  abbrev pub plus : Gf m → Gf m → Gf m
  plus x y = element m (bit_xor x.value y.value) (xor_lt m x.value y.value x.in_range y.in_range)

module _ (m : ℕ) (low : 4 ≤ m) (high : m ≤ 8) where
  abbrev pub times : Gf m → Gf m → Gf m
  times x y = element m (product m x.value y.value) (closed m low high x.value y.value x.in_range y.in_range)

  -- x with factor times y added
  abbrev pub with_multiple : Gf m → Gf m → Gf m → Gf m
  with_multiple factor x y = plus m x (times factor y)

  abbrev pub nil : Gf m
  nil = element m 0 (zero_below m low high)

  abbrev pub unit : Gf m
  unit = element m 1 (one_below m low high)

  abbrev pub ring : Ring (Gf m)
  ring = record {
    nil = nil;
    unit = unit;
    plus = plus m;
    times = times;
    plus_comm = λ x y. same_element m (plus m x y) (plus m y x) (xor_comm x.value y.value);
    plus_assoc = λ x y z. same_element m (plus m (plus m x y) z) (plus m x (plus m y z)) (xor_assoc x.value y.value z.value);
    plus_nil = λ x. same_element m (plus m nil x) x (xor_zero_l x.value);
    plus_self = λ x. same_element m (plus m x x) nil (xor_self x.value);
    times_comm = λ x y. same_element m (times x y) (times y x) (product_comm m low high x.value y.value x.in_range y.in_range);
    times_assoc = λ x y z. same_element m (times (times x y) z) (times x (times y z)) (product_assoc m low high x.value y.value z.value x.in_range y.in_range z.in_range);
    times_unit = λ x. same_element m (times unit x) x (one_product m low high x.value x.in_range);
    times_plus = λ x y z. same_element m (times x (plus m y z)) (plus m (times x y) (times x z)) (product_plus m x.value y.value z.value);
  }

  pub decided : (x : Gf m) → (x ≡ nil) ⊎ (x ≢ nil)
  decided x = elim (eqb_tells x.value 0) [ inl e ↦ inl (same_element m x nil e.1) | inr e ↦ inr (λ h. e.1 (ap (λ (t : Gf m). t.value) h)) ]

  pub positive : (x : Gf m) → x ≢ nil → 0 < x.value
  positive x h = elim (eqb_tells x.value 0) [ inl e ↦ absurd (h (same_element m x nil e.1)) | inr e ↦ pos_of_ne-zero e.1 ]

  inverse_of : (x : Gf m) → (x ≡ nil) ⊎ (x ≢ nil) → Gf m
  inverse_of x (inl e) = x
  inverse_of x (inr e) = let i = inverse m low high x.value x.in_range (positive x e) in element m i.number i.below

  inverse_of_times : (x : Gf m) (d : (x ≡ nil) ⊎ (x ≢ nil)) → x ≢ nil → times (inverse_of x d) x ≡ unit
  unfolding inverse_of
  inverse_of_times x (inl e) h = absurd (h e)
  inverse_of_times x (inr e) h = let i = inverse m low high x.value x.in_range (positive x e) in same_element m (times (element m i.number i.below) x) unit i.times

  pub field : IsField ring
  field = record {
    apart = λ h. one_is_not_zero (ap (λ (t : Gf m). t.value) h);
    decided = decided;
    inverse = λ x. inverse_of x (decided x);
    inverse_times = λ x h. inverse_of_times x (decided x) h;
  }
