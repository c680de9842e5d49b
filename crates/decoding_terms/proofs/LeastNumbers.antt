-- Least numbers: where a property can be told and some number has it, one is the least.
use Rattle.std.proofs.Common.{◌⊎◌, inl, inr, ℕ, zero, suc, ◌<◌, ◌≤◌, subst, arith}
use Rattle.std.proofs.lemmas.Bool.{cases_lt}
use Rattle.decoding_terms.specs.Least.{IsLeast}

-- either none of the numbers below n has the property, or there is a least one
before : (P : ℕ → Type 0) → ((k : ℕ) → P k ⊎ (¬ P k)) → (n : ℕ) → ((k : ℕ) → k < n → ¬ P k) ⊎ ((m : ℕ) × IsLeast P m)
before P told zero = inl (λ k l. absurd (omega (arith, l)))
before P told (suc n) = next (before P told n) (told n)
  where
    next : ((k : ℕ) → k < n → ¬ P k) ⊎ ((m : ℕ) × IsLeast P m) → P n ⊎ (¬ P n) → ((k : ℕ) → k < suc n → ¬ P k) ⊎ ((m : ℕ) × IsLeast P m)
    next (inr found) _ = inr found
    next (inl none) (inl here) = inr (n, record { holds = here; none_below = none })
    next (inl none) (inr not_here) = inl (λ k l h. last k l h (told_equal k n l))
      where
        told_equal : (k n : ℕ) → k < suc n → (k < n) ⊎ (n ≤ k)
        told_equal k n l = cases_lt k n

        last : (k : ℕ) → k < suc n → P k → (k < n) ⊎ (n ≤ k) → ⊥
        last k l h (inl less) = none k less h
        last k l h (inr more) = not_here (subst P (omega (arith, l, more)) h)

pub least : (P : ℕ → Type 0) → ((k : ℕ) → P k ⊎ (¬ P k)) → (n : ℕ) → P n → (m : ℕ) × IsLeast P m
least P told n here = choose (before P told n)
  where
    choose : ((k : ℕ) → k < n → ¬ P k) ⊎ ((m : ℕ) × IsLeast P m) → (m : ℕ) × IsLeast P m
    choose (inr found) = found
    choose (inl none) = (n, record { holds = here; none_below = none })
