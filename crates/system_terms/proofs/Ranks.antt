-- The ranks of systems without unknowns, and of systems with one.
use Rattle.std.proofs.Common.{◌≡◌, ℕ, zero, suc, ◌<◌, ◌≤◌, sym, ◌∙◌, ap, arith}
use Rattle.algebra.specs.Ring.{Ring, IsField}
use Rattle.algebra.specs.Sums.{sum_below}
use Rattle.algebra.proofs.RingLaws.{ring}
use Rattle.algebra.proofs.Sums.{sum_none, sum_next, sum_zero}
use Rattle.system_terms.specs.Systems.{AreIndependent, IndependentRows, IsRank}

module _ {F : Type 0} (R : Ring F) (field : IsField R) where
  infixl 60 ◌⊕◌
  infixl 70 ◌⊗◌
  open R use {nil, unit, plus as ◌⊕◌, times as ◌⊗◌}

  -- rows of zeros depend on each other
  no_zeros : (n s : ℕ) → AreIndependent R (suc s) n (λ i k. nil) → ⊥
  no_zeros n s independent =
      field.apart (independent (λ i. unit) (λ k l. sum_zero R (suc s) (λ i. unit ⊗ nil) (λ i m. R.times_unit nil)) 0 (omega arith))

  pub zeros_rank : (m n : ℕ) → IsRank R m n (λ i k. nil) 0
  zeros_rank m n = record {
    some = record {
      chosen = λ i. i;
      inside = λ i l. absurd (omega arith);
      different = λ i j l k e. e;
      independent = λ factors z k l. absurd (omega arith);
    };
    longest = longest;
  }
    where
      longest : (s : ℕ) → IndependentRows R m n (λ i k. nil) s → s ≤ 0
      longest zero w = omega arith
      longest (suc s) w = absurd (no_zeros n s w.independent)

  -- two rows with one unknown depend on each other
  one_of_two : (s : ℕ) → AreIndependent R (suc (suc s)) 1 (λ i k. unit) → ⊥
  one_of_two s independent =
      field.apart (independent pair (λ k l. sums) 0 (omega arith))
    where
      -- the first two rows, each once
      pair : ℕ → F
      pair zero = unit
      pair (suc zero) = unit
      pair (suc (suc i)) = nil

      sums : sum_below R (suc (suc s)) (λ i. pair i ⊗ unit) ≡ nil
      sums =
          let rest : sum_below R s (λ i. pair (suc (suc i)) ⊗ unit) ≡ nil = sum_zero R s (λ i. nil ⊗ unit) (λ i m. simp ring) in
          let both : unit ⊗ unit ⊕ (unit ⊗ unit ⊕ nil) ≡ nil = simp ring in
          sum_next R (suc s) (λ i. pair i ⊗ unit)
          ∙ ap (λ t. unit ⊗ unit ⊕ t) (sum_next R s (λ i. pair (suc i) ⊗ unit) ∙ ap (λ t. unit ⊗ unit ⊕ t) rest)
          ∙ both

  pub one_rank : (m : ℕ) → 0 < m → IsRank R m 1 (λ i k. unit) 1
  one_rank m some = record {
    some = record {
      chosen = λ i. 0;
      inside = λ i l. some;
      different = λ i j l k e. omega arith;
      independent = λ factors z k l.
          let here : k ≡ 0 = omega arith in
          let only : sum_below R 1 (λ i. factors i ⊗ unit) ≡ factors 0 =
          sum_next R 0 (λ i. factors i ⊗ unit) ∙ ap (λ t. factors 0 ⊗ unit ⊕ t) (sum_none R (λ i. factors (suc i) ⊗ unit)) ∙ simp ring in
          ap factors here ∙ sym only ∙ z 0 (omega arith);
    };
    longest = longest;
  }
    where
      longest : (s : ℕ) → IndependentRows R m 1 (λ i k. unit) s → s ≤ 1
      longest zero w = omega arith
      longest (suc zero) w = omega arith
      longest (suc (suc s)) w = absurd (one_of_two s w.independent)
