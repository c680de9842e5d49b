-- Which conditions are met as they are handled one after the other.
use Rattle.std.proofs.Common.{◌≡◌, ◌⊎◌, inl, inr, ℕ, suc, ◌+◌, ◌<◌, ◌≤◌, ◌∙◌, sym, ap, arith}
use Rattle.std.proofs.lemmas.Bool.{cases_lt}
use Rattle.decoding_terms.specs.Parameters.{term_count}
use Rattle.term_lists.specs.Places.{place}
use Rattle.term_lists.proofs.Ordered.{place_below}
use Rattle.koetter_terms.specs.State.{Handled}
use Rattle.koetter_terms.proofs.Places.{place_next, place_same}

module _ {F : Type 0} (points : ℕ → F × F) (s i : ℕ) where
  lower : (h k : ℕ) → place 1 h k < place 1 (suc h) k
  lower h k = omega (arith, place_next 1 (omega arith) h k)

  -- the order in x one less stands before
  pub handled_lower : (count : ℕ) (c d : F) (h k : ℕ) → Handled points s i count c d (suc h) k → Handled points s i count c d h k
  handled_lower count c d h k (inl at) = inl (at.0, at.1, at.2, omega (arith, at.3))
  handled_lower count c d h k (inr here) = inr (here.0, omega (arith, here.1), omega (arith, here.2, lower h k))

  -- all orders of a point are those of the next point's begin
  pub handled_point : (c d : F) (h k : ℕ) → Handled points s (suc i) 0 c d h k → Handled points s i (term_count 1 s) c d h k
  handled_point c d h k (inl at) = by_order (cases_lt at.0 i)
    where
      by_order : (at.0 < i) ⊎ (i ≤ at.0) → Handled points s i (term_count 1 s) c d h k
      by_order (inl less) = inl (at.0, less, at.2, at.3)
      by_order (inr most) =
          let same : at.0 ≡ i = omega (arith, at.1, most) in
          inr (ap points (sym same) ∙ at.2, at.3, place_below 1 s h k (omega arith) (omega (arith, at.3)))
  handled_point c d h k (inr here) = absurd (omega (arith, here.2))

  module _ (u v count : ℕ) (a b : F) (here : points i ≡ (a, b)) (at : place 1 u v ≡ count) where
    -- one order more
    pub handled_next : (c d : F) (h k : ℕ) → Handled points s i (suc count) c d h k → Handled points s i count c d h k ⊎ ((c ≡ a) × (d ≡ b) × (h ≡ u) × (k ≡ v))
    handled_next c d h k (inl before) = inl (inl before)
    handled_next c d h k (inr now) = by_order (cases_lt (place 1 h k) count)
      where
        point : ◌≡◌ {A = F × F} (c, d) (a, b)
        point = sym now.0 ∙ here

        by_order : (place 1 h k < count) ⊎ (count ≤ place 1 h k) → Handled points s i count c d h k ⊎ ((c ≡ a) × (d ≡ b) × (h ≡ u) × (k ≡ v))
        by_order (inl less) = inl (inr (now.0, now.1, less))
        by_order (inr most) =
            let same = place_same 1 (omega arith) h k u v (omega (arith, now.2, most, at)) in
            inr (ap (λ (t : F × F). t.0) point, ap (λ (t : F × F). t.1) point, same.0, same.1)

    pub handled_here : u + v < s → (t : ℕ) → suc t ≡ u → Handled points s i count a b t v
    handled_here l t is =
        let less = lower t v in
        let same : place 1 (suc t) v ≡ place 1 u v = ap (λ n. place 1 n v) is in
        inr (here, omega (arith, l, is), omega (arith, less, same, at))
