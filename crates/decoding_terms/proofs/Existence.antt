-- Where there are enough points, each parameter is the least of numbers of which some do.
use Rattle.std.proofs.Common.{◌⊎◌, inl, inr, ℕ, ◌-◌, ◌*◌, ◌<◌, ◌≤◌, arith}
use Rattle.std.proofs.lemmas.Bool.{cases_lt}
use Rattle.std.proofs.Math.Nat.{mul-le-mul_left}
use Rattle.decoding_terms.specs.Parameters.{AreEnough, AreParameters, IsAgreement, IsMultiplicity, IsWeight, equation_count, term_count}
use Rattle.decoding_terms.proofs.LeastNumbers.{least}
use Rattle.decoding_terms.proofs.Sizes.{bound_does, heavy_enough, some_bound}

told : (a b : ℕ) → (a < b) ⊎ (¬ (a < b))
told a b = by_order (cases_lt a b)
  where
    by_order : (a < b) ⊎ (b ≤ a) → (a < b) ⊎ (¬ (a < b))
    by_order (inl less) = inl less
    by_order (inr no_less) = inr (λ less. omega (arith, less, no_less))

told_most : (a b : ℕ) → (a ≤ b) ⊎ (¬ (a ≤ b))
told_most a b = by_order (cases_lt b a)
  where
    by_order : (b < a) ⊎ (a ≤ b) → (a ≤ b) ⊎ (¬ (a ≤ b))
    by_order (inr less) = inl less
    by_order (inl more) = inr (λ less. omega (arith, less, more))

told_both : (a b c d : ℕ) → ((a ≤ b) × (c < d)) ⊎ (¬ ((a ≤ b) × (c < d)))
told_both a b c d = both (told_most a b) (told c d)
  where
    both : (a ≤ b) ⊎ (¬ (a ≤ b)) → (c < d) ⊎ (¬ (c < d)) → ((a ≤ b) × (c < d)) ⊎ (¬ ((a ≤ b) × (c < d)))
    both (inl first) (inl second) = inl (first, second)
    both (inr first) _ = inr (λ h. first h.0)
    both (inl first) (inr second) = inr (λ h. second h.1)

pub parameters : (w c r : ℕ) → AreEnough w c r → (t s e : ℕ) × AreParameters w c r t s e
parameters w c r enough =
    let t : (t : ℕ) × IsAgreement c r t = least (λ n. r ≤ n * c) (λ n. told_most r (n * c)) r (enough_points w c r enough) in
    let s : (s : ℕ) × IsMultiplicity w r t.0 s =
    least (λ n. (1 ≤ n) × (w * r - t.0 < n * (t.0 * t.0 - w * r))) (λ n. told_both 1 n (w * r - t.0) (n * (t.0 * t.0 - w * r))) (c * w) (some_bound w c r enough t.0 t.1.holds, bound_does w c r enough t.0 t.1.holds) in
    let e : (e : ℕ) × IsWeight w (equation_count r s.0) e =
    least (λ n. equation_count r s.0 < term_count w n) (λ n. told (equation_count r s.0) (term_count w n)) (s.0 * t.0) (heavy_enough w r s.0 t.0 enough.some_weight s.1.holds.1) in
    (t.0, s.0, e.0, record { agreement = t.1; multiplicity = s.1; weight = e.1 })
  where
    enough_points : (w c r : ℕ) → AreEnough w c r → r ≤ r * c
    enough_points w c r enough = let once : r * 1 ≤ r * c = mul-le-mul_left r enough.some_bound in omega (arith, once)
