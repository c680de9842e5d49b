-- The written tables: each power is twice the one before, and powers and logarithms undo each other, by computing.
use Rattle.std.proofs.Common.{◌≡◌, ℕ, zero, suc, ◌+◌, ◌*◌, ◌-◌, ◌^◌, ◌<◌, ◌≤◌, ◌==◌, ◌&&◌, Bool, true, List, [], ◌∷◌, length, take, drop, get_or, refl, sym, ◌∙◌, ap, arith}
use Rattle.std.specs.Prelude.{nat_lt}
use Rattle.std.proofs.Common.{length-take}
use Rattle.std.proofs.lemmas.List.{get_or-take, get_or-drop}
use Rattle.std.proofs.lemmas.Bool.{eqb-true, ltb-true}
use Rattle.gf_terms.specs.Arithmetic.{carryless, reduced, reduction, product, power}
use Rattle.gf_terms.proofs.Basis.{each_below, at_below, both}
use Rattle.gf2m.specs.Tables.{ArePowers, AreLogarithms}
use Rattle.gf2m.specs.declared.tables.TheConstants.{EXPONENTS_4, LOGARITHMS_4, EXPONENTS_5, LOGARITHMS_5, EXPONENTS_6, LOGARITHMS_6, EXPONENTS_7, LOGARITHMS_7, EXPONENTS_8, LOGARITHMS_8}

-- the first is x, and each next one twice the one before
unfoldable are_doublings : (m x : ℕ) → List ℕ → Bool
are_doublings m x [] = true
are_doublings m x (y ∷ ys) = (x == y) && are_doublings m (product m 2 x) ys

power_at : (m i : ℕ) (ys : List ℕ) → are_doublings m (power m 2 i) ys ≡ true → (k : ℕ) → k < length ys → get_or ys k 0 ≡ power m 2 (i + k)
unfolding are_doublings power
power_at m i [] h k below = absurd (omega arith)
power_at m i (y ∷ ys) h zero below =
    sym (eqb-true (power m 2 i) y (both (power m 2 i == y) (are_doublings m (product m 2 (power m 2 i)) ys) h).0) ∙ ap (power m 2) (let e : i ≡ i + 0 = omega arith in e)
power_at m i (y ∷ ys) h (suc k) below =
    power_at m (suc i) ys (both (power m 2 i == y) (are_doublings m (product m 2 (power m 2 i)) ys) h).1 k (omega arith) ∙ ap (power m 2) (let e : suc i + k ≡ i + suc k = omega arith in e)

unfoldable undo : (m : ℕ) → (powers logs : List ℕ) → Bool
undo m powers logs = each_below (2 ^ m - 1) (λ x. nat_lt (get_or logs (suc x) 0) (2 ^ m - 1) && (get_or powers (get_or logs (suc x) 0) 0 == suc x))

unfoldable are_zeros : List ℕ → Bool
are_zeros [] = true
are_zeros (y ∷ ys) = (y == 0) && are_zeros ys

zero_at : (ys : List ℕ) → are_zeros ys ≡ true → (k : ℕ) → get_or ys k 0 ≡ 0
unfolding are_zeros
zero_at [] h k = refl
zero_at (y ∷ ys) h zero = eqb-true y 0 (both (y == 0) (are_zeros ys) h).0
zero_at (y ∷ ys) h (suc k) = zero_at ys (both (y == 0) (are_zeros ys) h).1 k

record Tested (m : ℕ) (powers logs : List ℕ) : Type 0 where
  whole : length powers ≡ 4 * (2 ^ m - 1) + 1
  logs_whole : length logs ≡ 2 ^ m
  doubled : are_doublings m 1 (take (2 * (2 ^ m - 1)) powers) ≡ true
  zeros : are_zeros (drop (2 * (2 ^ m - 1)) powers) ≡ true
  undone : undo m powers logs ≡ true
  zero_at_zero : get_or logs 0 0 ≡ 2 * (2 ^ m - 1)

are_powers : (m : ℕ) (powers logs : List ℕ) → Tested m powers logs → ArePowers m powers
unfolding power
are_powers m powers logs t = record {
  whole = t.whole;
  each = λ i h.
      let n : ℕ = 2 * (2 ^ m - 1) in
      let long : length powers ≡ 4 * (2 ^ m - 1) + 1 = t.whole in
      let inside : i < length (take n powers) = omega (arith, length-take n powers) in
      sym (get_or-take n powers i 0 h) ∙ power_at m 0 (take n powers) t.doubled i inside ∙ ap (power m 2) (let e : 0 + i ≡ i = omega arith in e);
  zeros = λ i h.
      let n : ℕ = 2 * (2 ^ m - 1) in
      let e : i ≡ n + (i - n) = omega arith in
      ap (λ k. get_or powers k 0) e ∙ sym (get_or-drop n powers (i - n) 0) ∙ zero_at (drop n powers) t.zeros (i - n);
}

log_at : (m : ℕ) (powers logs : List ℕ) → undo m powers logs ≡ true → (x : ℕ) → 0 < x → x < 2 ^ m → (get_or logs x 0 < 2 ^ m - 1) × (get_or powers (get_or logs x 0) 0 ≡ x)
unfolding undo
log_at m powers logs h zero p below = absurd (omega arith)
log_at m powers logs h (suc x) p below =
    let f : ℕ → Bool = λ x. nat_lt (get_or logs (suc x) 0) (2 ^ m - 1) && (get_or powers (get_or logs (suc x) 0) 0 == suc x) in
    let t = both (nat_lt (get_or logs (suc x) 0) (2 ^ m - 1)) (get_or powers (get_or logs (suc x) 0) 0 == suc x) (at_below (2 ^ m - 1) f h x (omega arith)) in
    (ltb-true (get_or logs (suc x) 0) (2 ^ m - 1) t.0, eqb-true (get_or powers (get_or logs (suc x) 0) 0) (suc x) t.1)

log_most : (m : ℕ) (powers logs : List ℕ) → Tested m powers logs → (x : ℕ) → x < 2 ^ m → get_or logs x 0 ≤ 2 * (2 ^ m - 1)
log_most m powers logs t zero h = omega (arith, t.zero_at_zero)
log_most m powers logs t (suc x) h = let b : get_or logs (suc x) 0 < 2 ^ m - 1 = (log_at m powers logs t.undone (suc x) (omega arith) h).0 in omega arith

are_logarithms : (m : ℕ) (powers logs : List ℕ) → Tested m powers logs → AreLogarithms m logs
are_logarithms m powers logs t = record {
  whole = t.logs_whole;
  below = λ x p h. (log_at m powers logs t.undone x p h).0;
  each = λ x p h.
      let a = log_at m powers logs t.undone x p h in
      let b : get_or logs x 0 < 2 ^ m - 1 = a.0 in
      sym ((are_powers m powers logs t).each (get_or logs x 0) (omega arith)) ∙ a.1;
  zero = t.zero_at_zero;
  most = log_most m powers logs t;
}

tested_4 : Tested 4 EXPONENTS_4 LOGARITHMS_4
unfolding product reduced carryless reduction each_below are_doublings are_zeros undo
tested_4 = record { whole = refl; logs_whole = refl; doubled = refl; zeros = refl; undone = refl; zero_at_zero = refl }

tested_5 : Tested 5 EXPONENTS_5 LOGARITHMS_5
unfolding product reduced carryless reduction each_below are_doublings are_zeros undo
tested_5 = record { whole = refl; logs_whole = refl; doubled = refl; zeros = refl; undone = refl; zero_at_zero = refl }

tested_6 : Tested 6 EXPONENTS_6 LOGARITHMS_6
unfolding product reduced carryless reduction each_below are_doublings are_zeros undo
tested_6 = record { whole = refl; logs_whole = refl; doubled = refl; zeros = refl; undone = refl; zero_at_zero = refl }

tested_7 : Tested 7 EXPONENTS_7 LOGARITHMS_7
unfolding product reduced carryless reduction each_below are_doublings are_zeros undo
tested_7 = record { whole = refl; logs_whole = refl; doubled = refl; zeros = refl; undone = refl; zero_at_zero = refl }

tested_8 : Tested 8 EXPONENTS_8 LOGARITHMS_8
unfolding product reduced carryless reduction each_below are_doublings are_zeros undo
tested_8 = record { whole = refl; logs_whole = refl; doubled = refl; zeros = refl; undone = refl; zero_at_zero = refl }

pub powers_4 : ArePowers 4 EXPONENTS_4
powers_4 = are_powers 4 EXPONENTS_4 LOGARITHMS_4 tested_4

pub powers_5 : ArePowers 5 EXPONENTS_5
powers_5 = are_powers 5 EXPONENTS_5 LOGARITHMS_5 tested_5

pub powers_6 : ArePowers 6 EXPONENTS_6
powers_6 = are_powers 6 EXPONENTS_6 LOGARITHMS_6 tested_6

pub powers_7 : ArePowers 7 EXPONENTS_7
powers_7 = are_powers 7 EXPONENTS_7 LOGARITHMS_7 tested_7

pub powers_8 : ArePowers 8 EXPONENTS_8
powers_8 = are_powers 8 EXPONENTS_8 LOGARITHMS_8 tested_8

pub logarithms_4 : AreLogarithms 4 LOGARITHMS_4
logarithms_4 = are_logarithms 4 EXPONENTS_4 LOGARITHMS_4 tested_4

pub logarithms_5 : AreLogarithms 5 LOGARITHMS_5
logarithms_5 = are_logarithms 5 EXPONENTS_5 LOGARITHMS_5 tested_5

pub logarithms_6 : AreLogarithms 6 LOGARITHMS_6
logarithms_6 = are_logarithms 6 EXPONENTS_6 LOGARITHMS_6 tested_6

pub logarithms_7 : AreLogarithms 7 LOGARITHMS_7
logarithms_7 = are_logarithms 7 EXPONENTS_7 LOGARITHMS_7 tested_7

pub logarithms_8 : AreLogarithms 8 LOGARITHMS_8
logarithms_8 = are_logarithms 8 EXPONENTS_8 LOGARITHMS_8 tested_8
