-- Rows that are cleared by one another keep what solves them.
use Rattle.std.proofs.Common.{◌≡◌, ◌≢◌, ℕ, zero, suc, ◌<◌, sym, ◌∙◌, ap, ap₂, arith}
use Rattle.algebra.specs.Ring.{Ring, IsField}
use Rattle.algebra.specs.Sums.{sum_below}
use Rattle.system_terms.specs.Systems.{row_times, IsZero}
use Rattle.algebra.proofs.RingLaws.{ring}
use Rattle.algebra.proofs.Sums.{sum_next, sum_same, sum_nil, sum_plus, sum_scaled}

module _ {F : Type 0} (R : Ring F) where
  infixl 60 ◌⊕◌
  infixl 70 ◌⊗◌
  open R use {nil, unit, plus as ◌⊕◌, times as ◌⊗◌}

  -- rows that agree up to n
  pub row_same : (n : ℕ) (a b x : ℕ → F) → ((k : ℕ) → k < n → a k ≡ b k) → row_times R n a x ≡ row_times R n b x
  row_same n a b x h = sum_same R n (λ k. a k ⊗ x k) (λ k. b k ⊗ x k) (λ k l. ap (λ t. t ⊗ x k) (h k l))

  pub row_zero : (n : ℕ) (a x : ℕ → F) → IsZero R n a → row_times R n a x ≡ nil
  row_zero n a x h =
      let each : (k : ℕ) → k < n → a k ⊗ x k ≡ nil = λ k l. simp (h k l, ring) in
      sum_same R n (λ k. a k ⊗ x k) (λ k. nil) each ∙ sum_nil R n

  -- a row with a multiple of another
  pub row_sum : (n : ℕ) (c : F) (a b x : ℕ → F) → row_times R n (λ k. a k ⊕ c ⊗ b k) x ≡ row_times R n a x ⊕ c ⊗ row_times R n b x
  row_sum n c a b x =
      let each : (k : ℕ) → k < n → (a k ⊕ c ⊗ b k) ⊗ x k ≡ a k ⊗ x k ⊕ c ⊗ (b k ⊗ x k) = λ k l. simp ring in
      sum_same R n (λ k. (a k ⊕ c ⊗ b k) ⊗ x k) (λ k. a k ⊗ x k ⊕ c ⊗ (b k ⊗ x k)) each
      ∙ sum_plus R n (λ k. a k ⊗ x k) (λ k. c ⊗ (b k ⊗ x k))
      ∙ ap (λ t. row_times R n a x ⊕ t) (sum_scaled R n c (λ k. b k ⊗ x k))

  -- a sum of one term
  pub sum_only : (n c : ℕ) (f : ℕ → F) → c < n → ((k : ℕ) → k < n → k ≢ c → f k ≡ nil) → sum_below R n f ≡ f c
  sum_only zero c f l h = absurd (omega arith)
  sum_only (suc n) zero f l h =
      let rest : sum_below R n (λ i. f (suc i)) ≡ nil = sum_same R n (λ i. f (suc i)) (λ i. nil) (λ i m. h (suc i) (omega arith) (omega arith)) ∙ sum_nil R n in
      sum_next R n f ∙ ap (λ t. f 0 ⊕ t) rest ∙ simp ring
  sum_only (suc n) (suc c) f l h =
      sum_next R n f
      ∙ ap₂ (λ (s t : F). s ⊕ t) (h 0 (omega arith) (omega arith)) (sum_only n c (λ i. f (suc i)) (omega arith) (λ k m d. h (suc k) (omega arith) (omega arith)))
      ∙ R.plus_nil (f (suc c))

  -- two vectors that differ in one place
  pub row_change : (n c : ℕ) (a x y : ℕ → F) (v : F) → c < n → y c ≡ x c ⊕ v → ((k : ℕ) → k < n → k ≢ c → y k ≡ x k)
      → row_times R n a y ≡ row_times R n a x ⊕ a c ⊗ v
  row_change n c a x y v l here there =
      let d : ℕ → F = λ k. x k ⊕ y k in
      let at : a c ⊗ (x c ⊕ y c) ≡ a c ⊗ v = ap (λ t. a c ⊗ (x c ⊕ t)) here ∙ simp ring in
      let away : (k : ℕ) → k < n → k ≢ c → a k ⊗ (x k ⊕ y k) ≡ nil = λ k m e. ap (λ t. a k ⊗ (x k ⊕ t)) (there k m e) ∙ simp ring in
      let only : sum_below R n (λ k. a k ⊗ (x k ⊕ y k)) ≡ a c ⊗ v = sum_only n c (λ k. a k ⊗ (x k ⊕ y k)) l away ∙ at in
      let each : (k : ℕ) → k < n → a k ⊗ y k ≡ a k ⊗ x k ⊕ a k ⊗ (x k ⊕ y k) = λ k m. simp ring in
      sum_same R n (λ k. a k ⊗ y k) (λ k. a k ⊗ x k ⊕ a k ⊗ (x k ⊕ y k)) each
      ∙ sum_plus R n (λ k. a k ⊗ x k) (λ k. a k ⊗ (x k ⊕ y k))
      ∙ ap (λ t. row_times R n a x ⊕ t) only

  -- a row that is cleared by another, with what solves the other
  pub cleared_solved : (n : ℕ) (c : F) (a b p x : ℕ → F) → ((k : ℕ) → k < n → b k ≡ a k ⊕ c ⊗ p k) → row_times R n p x ≡ nil → row_times R n b x ≡ row_times R n a x
  cleared_solved n c a b p x h z =
      row_same n b (λ k. a k ⊕ c ⊗ p k) x h ∙ row_sum n c a p x ∙ ap (λ t. row_times R n a x ⊕ c ⊗ t) z ∙ simp ring

  -- where a row is zero in every column but one, and not there, what solves it is zero there
  pub alone : IsField R → (n c : ℕ) (a x : ℕ → F) (i : F) → c < n → a c ⊗ i ≡ unit → row_times R n a x ≡ nil → ((k : ℕ) → k < n → k ≢ c → a k ⊗ x k ≡ nil) → x c ≡ nil
  alone field n c a x i l inverse z h =
      let only : a c ⊗ x c ≡ nil = sym (sum_only n c (λ k. a k ⊗ x k) l h) ∙ z in
      let e : x c ≡ unit ⊗ x c = simp ring in
      let f : (a c ⊗ i) ⊗ x c ≡ i ⊗ (a c ⊗ x c) = simp ring in
      e ∙ ap (λ t. t ⊗ x c) (sym inverse) ∙ f ∙ ap (λ t. i ⊗ t) only ∙ simp ring
