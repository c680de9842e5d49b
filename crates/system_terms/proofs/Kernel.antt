-- Fewer equations than unknowns leave a vector that is not zero.
use Rattle.std.proofs.Common.{◌≡◌, ◌≢◌, ◌⊎◌, inl, inr, ℕ, zero, suc, ◌<◌, refl, sym, ◌∙◌, ap, ap₂, arith}
use Rattle.std.proofs.lemmas.Bool.Decides.{eqb_tells}
use Rattle.algebra.specs.Ring.{Ring, IsField}
use Rattle.algebra.specs.Sums.{sum_below}
use Rattle.system_terms.specs.Systems.{row_times, Solves}
use Rattle.algebra.proofs.RingLaws.{ring}
use Rattle.algebra.proofs.Sums.{sum_next, sum_same, sum_nil}
use Rattle.system_terms.proofs.Elimination.{row_sum}

-- a vector that solves the m rows and is not zero at a place
pub record Kernel {F : Type 0} (R : Ring F) (m n : ℕ) (a : ℕ → ℕ → F) : Type 0 where
  pub vector : ℕ → F
  pub place : ℕ
  pub inside : place < n
  pub differs : vector place ≢ R.nil
  pub solves : Solves R m n a vector

-- all numbers but r, in order
abbrev pub past : ℕ → ℕ → ℕ
past zero i = suc i
past (suc r) zero = 0
past (suc r) (suc i) = suc (past r i)

-- each number but r is one of them
pub past_all : (m r k : ℕ) → r < suc m → k < suc m → k ≢ r → (i : ℕ) × (i < m) × (past r i ≡ k)
past_all m zero zero l h d = absurd (d refl)
past_all m zero (suc k) l h d = (k, omega arith, refl)
past_all zero (suc r) k l h d = absurd (omega arith)
past_all (suc m) (suc r) zero l h d = (0, omega arith, refl)
past_all (suc m) (suc r) (suc k) l h d =
    let s = past_all m r k (omega arith) (omega arith) (omega arith) in
    (suc s.0, omega (arith, s.1), ap suc s.2)

module _ {F : Type 0} (R : Ring F) (field : IsField R) where
  infixl 60 ◌⊕◌
  infixl 70 ◌⊗◌
  open R use {nil, unit, plus as ◌⊕◌, times as ◌⊗◌}

  -- the first column is zero, or not in some row
  pub first_column : (m : ℕ) (f : ℕ → F) → ((i : ℕ) → i < m → f i ≡ nil) ⊎ ((r : ℕ) × (r < m) × (f r ≢ nil))
  first_column zero f = inl (λ i l. absurd (omega arith))
  first_column (suc m) f =
      elim (field.decided (f 0)) [
        | inr d ↦ inr (0, omega arith, d)
        | inl e ↦ elim (first_column m (λ i. f (suc i))) [
          | inr s ↦ inr (suc s.0, omega (arith, s.1), s.2)
          | inl h ↦ inl (each_next m f e h)
        ]
      ]
    where
      each_next : (m : ℕ) (f : ℕ → F) → f 0 ≡ nil → ((i : ℕ) → i < m → f (suc i) ≡ nil) → (i : ℕ) → i < suc m → f i ≡ nil
      each_next m f e h zero l = e
      each_next m f e h (suc i) l = h i (omega arith)

  -- one at 0 and zero elsewhere
  abbrev pub first_unit : ℕ → F
  first_unit zero = unit
  first_unit (suc k) = nil

  -- a value in front of a vector
  abbrev pub in_front : F → (ℕ → F) → ℕ → F
  in_front v x zero = v
  in_front v x (suc k) = x k

  unit_row : (n : ℕ) (a : ℕ → F) → a 0 ≡ nil → row_times R (suc n) a first_unit ≡ nil
  unit_row n a z =
      let rest : sum_below R n (λ i. a (suc i) ⊗ nil) ≡ nil = sum_same R n (λ i. a (suc i) ⊗ nil) (λ i. nil) (λ i l. simp ring) ∙ sum_nil R n in
      sum_next R n (λ k. a k ⊗ first_unit k) ∙ ap₂ (λ (s t : F). s ⊗ unit ⊕ t) z rest ∙ simp ring

  -- a row, cleared in its first column by another
  abbrev pub cleared_row : (ℕ → F) → (ℕ → F) → ℕ → F
  cleared_row p a k = a (suc k) ⊕ (a 0 ⊗ field.inverse (p 0)) ⊗ p (suc k)

  front_row : (n : ℕ) (p a x : ℕ → F) → row_times R (suc n) a (in_front (field.inverse (p 0) ⊗ row_times R n (λ k. p (suc k)) x) x) ≡ row_times R n (cleared_row p a) x
  front_row n p a x =
      let s : F = row_times R n (λ k. p (suc k)) x in
      let v : F = field.inverse (p 0) ⊗ s in
      let e : a 0 ⊗ (field.inverse (p 0) ⊗ s) ⊕ row_times R n (λ k. a (suc k)) x ≡ row_times R n (λ k. a (suc k)) x ⊕ (a 0 ⊗ field.inverse (p 0)) ⊗ s = simp ring in
      sum_next R n (λ k. a k ⊗ in_front v x k) ∙ e ∙ sym (row_sum R n (a 0 ⊗ field.inverse (p 0)) (λ k. a (suc k)) (λ k. p (suc k)) x)

  pivot_row : (n : ℕ) (p x : ℕ → F) → p 0 ≢ nil → row_times R n (cleared_row p p) x ≡ nil
  pivot_row n p x d =
      let i : field.inverse (p 0) ⊗ p 0 ≡ unit = field.inverse_times (p 0) d in
      let z : (k : ℕ) → p (suc k) ⊕ (p 0 ⊗ field.inverse (p 0)) ⊗ p (suc k) ≡ nil = λ k.
      ap (λ t. p (suc k) ⊕ t ⊗ p (suc k)) (R.times_comm (p 0) (field.inverse (p 0)) ∙ i) ∙ simp ring in
      sum_same R n (λ k. cleared_row p p k ⊗ x k) (λ k. nil) (λ k l. ap (λ t. t ⊗ x k) (z k) ∙ simp ring) ∙ sum_nil R n

  pub kernel : (m n : ℕ) (a : ℕ → ℕ → F) → m < n → Kernel R m n a
  kernel m zero a l = absurd (omega arith)
  kernel zero (suc n) a l = record { vector = first_unit; place = 0; inside = omega arith; differs = field.apart; solves = λ i j. absurd (omega arith) }
  kernel (suc m) (suc n) a l =
      elim (first_column (suc m) (λ i. a i 0)) [
        | inl h ↦ record { vector = first_unit; place = 0; inside = omega arith; differs = field.apart; solves = λ i j. unit_row n (a i) (h i j) }
        | inr s ↦
            let p : ℕ → F = a s.0 in
            let k = kernel m n (λ i. cleared_row p (a (past s.0 i))) (omega arith) in
            record {
              vector = in_front (field.inverse (p 0) ⊗ row_times R n (λ k. p (suc k)) k.vector) k.vector;
              place = suc k.place;
              inside = omega (arith, k.inside);
              differs = k.differs;
              solves = λ i j. front_row n p (a i) k.vector ∙ elim (eqb_tells i s.0) [
                | inl e ↦ ap (λ t. row_times R n (cleared_row p (a t)) k.vector) e.1 ∙ pivot_row n p k.vector s.2
                | inr e ↦
                    let w = past_all m s.0 i s.1 j e.1 in
                    ap (λ t. row_times R n (cleared_row p (a t)) k.vector) (sym w.2) ∙ k.solves w.0 w.1
              ];
            }
      ]
