-- The order of the terms.
use Rattle.std.proofs.Common.{◌≡◌, ◌⊎◌, inl, inr, ℕ, suc, ◌+◌, ◌-◌, ◌*◌, ◌/◌, ◌<◌, ◌≤◌, ap, arith}
use Rattle.std.proofs.lemmas.Bool.{cases_lt}
use Rattle.decoding_terms.specs.Parameters.{term_count}
use Rattle.decoding_terms.proofs.Terms.{term_count-next, term_count-rises}
use Rattle.term_lists.specs.Places.{place}
use Rattle.term_lists.proofs.Ordered.{place_below}

module _ (w : ℕ) (some : 1 ≤ w) where
  -- a greater weight has no fewer terms below it
  pub counts : (d e : ℕ) → d ≤ e → term_count w d ≤ term_count w e
  counts d e l =
      let whole : d + (e - d) ≡ e = omega (arith, l) in
      let same : term_count w (d + (e - d)) ≡ term_count w e = ap (term_count w) whole in
      omega (arith, term_count-rises w d some (e - d), same)

  -- a term that weighs at least e comes after all that weigh less
  pub place_from : (e i j : ℕ) → e ≤ i + w * j → term_count w e ≤ place w i j
  place_from e i j l = omega (arith, counts e (i + w * j) l)

  -- how far x moves a term
  pub place_next : (i j : ℕ) → place w (suc i) j ≡ place w i j + ((i + w * j) / w + 1)
  place_next i j =
      let next = term_count-next w (i + w * j) some in
      let is : suc i + w * j ≡ i + w * j + 1 = omega arith in
      let same : term_count w (suc i + w * j) ≡ term_count w (i + w * j + 1) = ap (term_count w) is in
      omega (arith, next, same)

  -- a term that comes no later weighs no more
  pub weights : (i j a b : ℕ) → place w a b ≤ place w i j → a + w * b ≤ i + w * j
  weights i j a b l = by_order (cases_lt (i + w * j) (a + w * b))
    where
      by_order : (i + w * j < a + w * b) ⊎ (a + w * b ≤ i + w * j) → a + w * b ≤ i + w * j
      by_order (inl less) = absurd (omega (arith, place_below w (a + w * b) i j some less, l))
      by_order (inr most) = most

  -- x keeps the order
  pub place_up : (i j a b : ℕ) → place w a b ≤ place w i j → place w (suc a) b ≤ place w (suc i) j
  place_up i j a b l = by_order (cases_lt (a + w * b) (i + w * j))
    where
      by_order : (a + w * b < i + w * j) ⊎ (i + w * j ≤ a + w * b) → place w (suc a) b ≤ place w (suc i) j
      by_order (inl less) =
          let below = place_below w (suc (i + w * j)) (suc a) b some (omega (arith, less)) in
          let is : suc i + w * j ≡ suc (i + w * j) = omega arith in
          let same : term_count w (suc i + w * j) ≡ term_count w (suc (i + w * j)) = ap (term_count w) is in
          omega (arith, below, same)
      by_order (inr most) =
          let even : a + w * b ≡ i + w * j = omega (arith, most, weights i j a b l) in
          let here : term_count w (a + w * b) ≡ term_count w (i + w * j) = ap (term_count w) even in
          let next : term_count w (suc a + w * b) ≡ term_count w (suc i + w * j) = let more : suc a + w * b ≡ suc i + w * j = omega (arith, even) in ap (term_count w) more in
          omega (arith, l, here, next)

  -- different terms have different places
  pub place_same : (i j a b : ℕ) → place w i j ≡ place w a b → (i ≡ a) × (j ≡ b)
  place_same i j a b is =
      let even : i + w * j ≡ a + w * b = omega (arith, weights i j a b (omega (arith, is)), weights a b i j (omega (arith, is))) in
      let here : term_count w (i + w * j) ≡ term_count w (a + w * b) = ap (term_count w) even in
      let y : j ≡ b = omega (arith, is, here) in
      let same : w * j ≡ w * b = ap (λ n. w * n) y in
      (omega (arith, even, same), y)
