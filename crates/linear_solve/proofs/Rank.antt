-- Rows that are combinations of independent rows, some of them along a triangle, have as many independent rows as those are.
use Rattle.std.proofs.Common.{◌≡◌, ◌≢◌, ◌⊎◌, inl, inr, ℕ, zero, suc, ◌-◌, ◌<◌, ◌≤◌, sym, ◌∙◌, ap, arith}
use Rattle.std.proofs.lemmas.Bool.{cases_lt}
use Rattle.std.proofs.lemmas.Bool.Decides.{eqb_tells}
use Rattle.algebra.specs.Ring.{Ring, IsField}
use Rattle.algebra.specs.Sums.{sum_below}
use Rattle.system_terms.specs.Systems.{row_times, AreIndependent, IndependentRows, IsRank}
use Rattle.algebra.proofs.RingLaws.{ring}
use Rattle.algebra.proofs.Sums.{sum_same, sum_scaled, sum_exchange}
use Rattle.system_terms.proofs.Elimination.{alone, row_zero}
use Rattle.system_terms.proofs.Kernel.{kernel}

module _ {F : Type 0} (R : Ring F) where
  infixl 70 ◌⊗◌
  open R use {nil, unit, times as ◌⊗◌}

  -- a combination of combinations
  pub combined : (t s : ℕ) (x : ℕ → F) (factors : ℕ → ℕ → F) (p : ℕ → F)
      → sum_below R t (λ i. x i ⊗ sum_below R s (λ j. factors i j ⊗ p j)) ≡ sum_below R s (λ j. row_times R t (λ i. factors i j) x ⊗ p j)
  combined t s x factors p =
      let inner : (i j : ℕ) → x i ⊗ (factors i j ⊗ p j) ≡ p j ⊗ (factors i j ⊗ x i) = λ i j. simp ring in
      sum_same R t (λ i. x i ⊗ sum_below R s (λ j. factors i j ⊗ p j)) (λ i. sum_below R s (λ j. x i ⊗ (factors i j ⊗ p j)))
      (λ i l. sym (sum_scaled R s (x i) (λ j. factors i j ⊗ p j)))
      ∙ sum_exchange R t s (λ i j. x i ⊗ (factors i j ⊗ p j))
      ∙ sum_same R s (λ j. sum_below R t (λ i. x i ⊗ (factors i j ⊗ p j))) (λ j. row_times R t (λ i. factors i j) x ⊗ p j)
      (λ j l.
      sum_same R t (λ i. x i ⊗ (factors i j ⊗ p j)) (λ i. p j ⊗ (factors i j ⊗ x i)) (λ i m. inner i j)
      ∙ sum_scaled R t (p j) (λ i. factors i j ⊗ x i)
      ∙ R.times_comm (p j) (row_times R t (λ i. factors i j) x))

  module _ (field : IsField R) where
    -- columns along a triangle, in the order that `place` gives
    pub along_triangle : (s : ℕ) (rows : ℕ → ℕ → F) (inverses x : ℕ → F) (place : ℕ → ℕ)
        → ((c : ℕ) → c < s → row_times R s (λ i. rows i c) x ≡ nil)
        → ((c : ℕ) → c < s → rows c c ⊗ inverses c ≡ unit)
        → ((i c : ℕ) → i < s → c < s → i ≢ c → (place i < place c) ⊎ (rows i c ≡ nil))
        → (b c : ℕ) → place c < b → c < s → x c ≡ nil
    along_triangle s rows inverses x place solved inverse order zero c l m = absurd (omega arith)
    along_triangle s rows inverses x place solved inverse order (suc b) c l m =
        alone R field s c (λ i. rows i c) x (inverses c) m (inverse c m) (solved c m)
        (λ i o d. elim (order i c o m d) [
          | inl before ↦ ap (λ t. rows i c ⊗ t) (along_triangle s rows inverses x place solved inverse order b i (omega (arith, before, l)) o) ∙ simp ring
          | inr z ↦ ap (λ t. t ⊗ x i) z ∙ simp ring
        ])

    -- a row of each column, zero in the earlier columns' places
    pub echelon : (s n : ℕ) (rows : ℕ → ℕ → F) (columns : ℕ → ℕ) (inverses : ℕ → F)
        → ((j : ℕ) → j < s → columns j < n)
        → ((j : ℕ) → j < s → rows j (columns j) ⊗ inverses j ≡ unit)
        → ((i j : ℕ) → j < i → i < s → rows i (columns j) ≡ nil)
        → AreIndependent R s n rows
    echelon s n rows columns inverses inside inverse later factors zeros j l =
        along_triangle s (λ i c. rows i (columns c)) inverses factors (λ i. i)
        (λ c m.
        sum_same R s (λ i. rows i (columns c) ⊗ factors i) (λ i. factors i ⊗ rows i (columns c)) (λ i o. R.times_comm (rows i (columns c)) (factors i))
        ∙ zeros (columns c) (inside c m))
        inverse
        (λ i c m o d. elim (cases_lt i c) [
          | inl before ↦ inl before
          | inr after ↦ inr (later i c (omega (arith, after, d)) m)
        ])
        (suc j) j (omega arith) l

    module _ (m n s : ℕ) (a : ℕ → ℕ → F) (p : ℕ → ℕ → F) (factors : ℕ → ℕ → F)
        (free : AreIndependent R s n p)
        (whole : (i k : ℕ) → i < m → k < n → a i k ≡ sum_below R s (λ j. factors i j ⊗ p j k)) where
      -- a combination of rows, as one of the independent rows
      pub as_one : (t : ℕ) (x : ℕ → F) (chosen : ℕ → ℕ) → ((i : ℕ) → i < t → chosen i < m) → (k : ℕ) → k < n
          → sum_below R t (λ i. x i ⊗ a (chosen i) k) ≡ sum_below R s (λ j. row_times R t (λ i. factors (chosen i) j) x ⊗ p j k)
      as_one t x chosen inside k l =
          sum_same R t (λ i. x i ⊗ a (chosen i) k) (λ i. x i ⊗ sum_below R s (λ j. factors (chosen i) j ⊗ p j k))
          (λ i o. ap (λ v. x i ⊗ v) (whole (chosen i) k (inside i o) l))
          ∙ combined t s x (λ i j. factors (chosen i) j) (λ j. p j k)

      -- more rows are not independent
      pub no_more : (t : ℕ) → IndependentRows R m n a t → t ≤ s
      no_more t other =
          elim (cases_lt s t) [
            | inr l ↦ l
            | inl more ↦
                let k = kernel R field s t (λ j i. factors (other.chosen i) j) more in
                absurd (k.differs (other.independent k.vector
                (λ c l.
                as_one t k.vector other.chosen other.inside c l
                ∙ row_zero R s (λ j. row_times R t (λ i. factors (other.chosen i) j) k.vector) (λ j. p j c) k.solves)
                k.place k.inside))
          ]

      pub rank_is : (chosen : ℕ → ℕ)
          → ((j : ℕ) → j < s → chosen j < m)
          → ((j : ℕ) → j < s → factors (chosen j) j ≡ unit)
          → ((i j : ℕ) → i < j → j < s → factors (chosen i) j ≡ nil)
          → IsRank R m n a s
      rank_is chosen inside one above =
          let apart : (i j : ℕ) → i < j → j < s → chosen i ≢ chosen j =
          λ i j l o e. field.apart (sym (one j o) ∙ ap (λ t. factors t j) (sym e) ∙ above i j l o) in
          record {
            some = record {
              chosen = chosen;
              inside = inside;
              different = λ i j l o e. elim (eqb_tells i j) [
                | inl same ↦ same.1
                | inr d ↦ elim (cases_lt i j) [
                  | inl before ↦ absurd (apart i j before o e)
                  | inr after ↦ absurd (apart j i (omega (arith, after, d.1)) l (sym e))
                ]
              ];
              independent = λ x zeros c l.
                  along_triangle s (λ i j. factors (chosen i) j) (λ j. unit) x (λ i. s - i)
                  (free (λ j. row_times R s (λ i. factors (chosen i) j) x) (λ k o. sym (as_one s x chosen inside k o) ∙ zeros k o))
                  (λ j o. ap (λ t. t ⊗ unit) (one j o) ∙ R.times_unit unit)
                  (λ i j o q d. elim (cases_lt i j) [
                    | inl before ↦ inr (above i j before q)
                    | inr after ↦ inl (omega (arith, after, d, o, q))
                  ])
                  (suc (s - c)) c (omega arith) l;
            };
            longest = no_more;
          }
