-- The points that pass a test, as a list of different numbers.
use Rattle.std.proofs.Common.{◌≡◌, ◌⊎◌, inl, inr, ℕ, zero, suc, ◌+◌, ◌<◌, ◌≤◌, Bool, true, false, nat_lt, refl, ◌∙◌, sym, ap, subst, arith}
use Rattle.std.specs.Prelude.{if◌then◌else◌}
use Rattle.std.proofs.lemmas.Bool.{cases_lt, lt-ltb, le-ltb}
use Rattle.algebra.specs.Ring.{Ring}
use Rattle.algebra.specs.Roots.{AreDifferent, total}
use Rattle.algebra.specs.Series.{value}
use Rattle.curve_terms.specs.Agreement.{GoesThrough}

hits : (ℕ → Bool) → ℕ → ℕ
hits p i = if p i then 1 else 0

-- t different numbers below r that pass
record Passing (p : ℕ → Bool) (r t : ℕ) : Type 0 where
  chosen : ℕ → ℕ
  inside : (i : ℕ) → i < t → chosen i < r
  different : AreDifferent t chosen
  pass : (i : ℕ) → i < t → p (chosen i) ≡ true

none : (p : ℕ → Bool) (r t : ℕ) → t ≤ 0 → Passing p r t
none p r t few = record {
  chosen = λ i. 0;
  inside = λ i l. absurd (omega (arith, l, few));
  different = λ i j l m e. absurd (omega (arith, l, few));
  pass = λ i l. absurd (omega (arith, l, few));
}

-- the numbers below r, and r
module _ (p : ℕ → Bool) (r t : ℕ) (here : p r ≡ true) (before : Passing p r t) where
  with_last : ℕ → ℕ
  with_last i = if nat_lt i t then before.chosen i else r

  old : (i : ℕ) → i < t → with_last i ≡ before.chosen i
  unfolding with_last
  old i l = ap (λ b. if b then before.chosen i else r) (lt-ltb i t l)

  new : (i : ℕ) → t ≤ i → with_last i ≡ r
  unfolding with_last
  new i l = ap (λ b. if b then before.chosen i else r) (le-ltb i t l)

  one_more : Passing p (suc r) (suc t)
  one_more = record {
    chosen = with_last;
    inside = λ i l. by_place (λ n. n < suc r) i (λ m. omega (arith, before.inside i m)) (omega arith);
    different = λ i j l m e. apart i j l m e (cases_lt i t) (cases_lt j t);
    pass = λ i l. by_place (λ n. p n ≡ true) i (λ m. before.pass i m) here;
  }
    where
      by_place : (P : ℕ → Type 0) (i : ℕ) → (i < t → P (before.chosen i)) → P r → P (with_last i)
      by_place P i first last = by_order (cases_lt i t)
        where
          by_order : (i < t) ⊎ (t ≤ i) → P (with_last i)
          by_order (inl l) = subst P (sym (old i l)) (first l)
          by_order (inr l) = subst P (sym (new i l)) last

      apart : (i j : ℕ) → i < suc t → j < suc t → with_last i ≡ with_last j → (i < t) ⊎ (t ≤ i) → (j < t) ⊎ (t ≤ j) → i ≡ j
      apart i j l m e (inl a) (inl b) = before.different i j a b (sym (old i a) ∙ e ∙ old j b)
      apart i j l m e (inr a) (inr b) = omega (arith, l, m, a, b)
      apart i j l m e (inl a) (inr b) = absurd (omega (arith, before.inside i a, sym (old i a) ∙ e ∙ new j b))
      apart i j l m e (inr a) (inl b) = absurd (omega (arith, before.inside j b, sym (new i a) ∙ e ∙ old j b))

widened : (p : ℕ → Bool) (r t : ℕ) → Passing p r t → Passing p (suc r) t
widened p r t h = record { chosen = h.chosen; inside = λ i l. omega (arith, h.inside i l); different = h.different; pass = h.pass }

passing : (p : ℕ → Bool) (r t : ℕ) → t ≤ total r (hits p) → Passing p r t
unfolding hits
passing p zero t many = none p 0 t many
passing p (suc r) t many = by_test (p r) refl t many (passing p r)
  where
    by_test : (b : Bool) → p r ≡ b → (t : ℕ) → t ≤ (if b then 1 else 0) + total r (hits p) → ((t : ℕ) → t ≤ total r (hits p) → Passing p r t) → Passing p (suc r) t
    by_test false is t many rest = widened p r t (rest t (omega (arith, many)))
    by_test true is zero many rest = none p (suc r) 0 (omega arith)
    by_test true is (suc t) many rest = one_more p r t is (rest t (omega (arith, many)))

pub counted : {F : Type 0} (R : Ring F) (n r t : ℕ) (f : ℕ → F) (points : ℕ → F × F) (passes : ℕ → Bool)
    → ((i : ℕ) → i < r → passes i ≡ true → value R n f (points i).0 ≡ (points i).1) → t ≤ total r (λ i. if passes i then 1 else 0) → GoesThrough R n f r points t
unfolding hits
counted R n r t f points passes on_f many =
    let h = passing passes r t many in
    record { chosen = h.chosen; inside = h.inside; different = h.different; through = λ i l. on_f (h.chosen i) (h.inside i l) (h.pass i l) }
