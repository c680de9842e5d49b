-- The curve at the end.
use Rattle.std.proofs.Common.{◌≡◌, inl, inr, ℕ, zero, suc, ◌+◌, ◌-◌, ◌*◌, ◌<◌, ◌≤◌, List, length, take, ◌++◌, Option, None, Some, refl, ◌∙◌, sym, ap, arith}
use Rattle.std.proofs.lemmas.Bool.{cases_lt}
use Rattle.std.proofs.Math.Seq.{take-append_seam}
use Rattle.std.proofs.Math.Nat.{mul-le-mul_left, mul-le-mul_right}
use Rattle.algebra.specs.Ring.{Ring}
use Rattle.algebra.specs.Roots.{total}
use Rattle.decoding_terms.specs.Parameters.{term_count}
use Rattle.koetter_terms.specs.State.{Conditions, Handled}
use Rattle.gs_koetter.specs.declared.curve.Curve.{Curve}
use Rattle.gs_koetter.specs.Results.{IsResult}
use Rattle.gs_koetter.specs.Shapes.{HaveShape, slot}
use Rattle.gs_koetter.specs.States.{IsBare, point_at, spent}

total_cut : (k m : ℕ) (f : ℕ → ℕ) → ((j : ℕ) → m ≤ j → f j ≡ 0) → total (k + m) f ≡ total m f
total_cut zero m f none = let is : 0 + m ≡ m = omega arith in ap (λ n. total n f) is
total_cut (suc k) m f none =
    let is : suc k + m ≡ suc (k + m) = omega arith in
    let split : total (suc k + m) f ≡ f (k + m) + total (k + m) f = ap (λ n. total n f) is in
    omega (arith, split, total_cut k m f none, none (k + m) (omega arith))

-- how many terms there are, counted by the powers of y
pub terms_by_power : (w e n : ℕ) → 1 ≤ w → e ≤ w * n → term_count w e ≡ total n (λ j. e - w * j)
terms_by_power w e n some all =
    let past_n : (j : ℕ) → n ≤ j → e - w * j ≡ 0 = λ j l. let more : w * n ≤ w * j = mul-le-mul_left w l in omega (arith, more, all) in
    let past_e : (j : ℕ) → e ≤ j → e - w * j ≡ 0 = λ j l. let more : 1 * j ≤ w * j = mul-le-mul_right j some in omega (arith, more, l) in
    let is : n + e ≡ e + n = omega arith in
    sym (total_cut n e (λ j. e - w * j) past_e) ∙ ap (λ k. total k (λ j. e - w * j)) is ∙ total_cut e n (λ j. e - w * j) past_n

some_less : (n : ℕ) (f g : ℕ → ℕ) → total n f < total n g → (j : ℕ) × (j < n) × (f j < g j)
some_less zero f g l = absurd (omega (arith, l))
some_less (suc n) f g l = elim (cases_lt (f n) (g n)) [
  | inl less ↦ (n, omega arith, less)
  | inr most ↦ let earlier = some_less n f g (omega (arith, l, most)) in (earlier.0, omega (arith, earlier.1), earlier.2)
]

-- what a slice of a vector gives back
pub written_back : {X : Type 0} (ys zs : List X) (n : ℕ) → n ≡ length ys → take n (ys ++ zs) ≡ ys
written_back ys zs n is = ap (λ k. take k (ys ++ zs)) is ∙ take-append_seam ys zs

module _ {F : Type 0} (R : Ring F) (w e n s : ℕ) where
  -- fewer conditions than terms leave a curve
  pub some_kept : (met : Conditions F) (handled : ℕ) (curves : List (Option (Curve F))) → 1 ≤ w → e ≤ w * n → handled < term_count w e → IsBare R w e n met handled curves
      → (j : ℕ) × (c : Curve F) × (slot curves j ≡ Some c)
  some_kept met handled curves some all few bare =
      let less = some_less n (λ j. spent w e j (slot curves j)) (λ j. e - w * j) (omega (arith, few, bare.few, terms_by_power w e n some all)) in
      at less.0 (slot curves less.0) refl less.2
    where
      at : (j : ℕ) (o : Option (Curve F)) → slot curves j ≡ o → spent w e j o < e - w * j → (j : ℕ) × (c : Curve F) × (slot curves j ≡ Some c)
      at j None is l = absurd (omega (arith, l))
      at j (Some c) is l = (j, c, is)

  pub result_of : (points : List (F × F)) (handled j : ℕ) (c : Curve F) (curves : List (Option (Curve F))) → IsBare R w e n (Handled (point_at R points) s (length points) 0) handled curves → HaveShape R w e s curves
      → slot curves j ≡ Some c → IsResult R w e n s points c
  result_of points handled j c curves bare shape is = record {
    j = j;
    shape = shape j c is;
    lead = bare.lead j c is;
    meets = λ i u v l few. bare.meets j c is (point_at R points i).0 (point_at R points i).1 u v (inl (i, l, refl, few));
  }
