-- A product that grows factor by factor, from the last coefficient to the first.
use Rattle.std.proofs.Common.{◌≡◌, inl, inr, ℕ, zero, suc, ◌+◌, ◌-◌, ◌<◌, ◌≤◌, List, ◌++◌, length, get_or, take, drop, refl, sym, ◌∙◌, ap, ap₂, arith}
use Rattle.std.proofs.lemmas.Bool.{cases_lt}
use Rattle.std.proofs.lemmas.List.{get_or-take, get_or-drop, get_or-append_right, length-take-le, length-drop}
use Rattle.std.proofs.Math.ListN.{get_or-append}
use Rattle.std.proofs.lemmas.Simd.{get_or-zip2, length-zip2}
use Rattle.std.specs.Simd.Lanes.{zip2}
use borrow.Rule.Slice.PartMut.{put_mid}
use mathlib.Core.Path.{fun_ext}
use Rattle.algebra.specs.Ring.{Ring}
use Rattle.algebra.specs.Series.{product}
use Rattle.algebra.specs.Lists.{coefficients}
use Rattle.algebra.proofs.RingLaws.{ring}
use Rattle.algebra.proofs.Series.{product_first, product_next, product_zero}
use Rattle.algebra.proofs.CoefficientLists.{coefficients_below}

module _ {F : Type 0} (R : Ring F) where
  infixl 60 ◌⊕◌
  infixl 70 ◌⊗◌
  open R use {nil, plus as ◌⊕◌, times as ◌⊗◌}

  -- the list holds, from place i on, the product of q and the coefficients of p from i on, and zeros before
  pub record IsProductFrom (p q : ℕ → F) (i : ℕ) (list : List F) : Type 0 where
    pub before : (k : ℕ) → k < i → coefficients R list k ≡ nil
    pub from : (k : ℕ) → coefficients R list (i + k) ≡ product R (λ n. p (i + n)) q k

  -- no coefficient yet
  pub no_product : (p q : ℕ → F) (i : ℕ) (list : List F) → ((k : ℕ) → coefficients R list k ≡ nil) → ((k : ℕ) → i ≤ k → p k ≡ nil) → IsProductFrom p q i list
  no_product p q i list zeros past = record {
    before = λ k l. zeros k;
    from = λ k. zeros (i + k) ∙ sym (product_zero R (λ n. p (i + n)) q (λ n l. past (i + n) (omega arith)) k);
  }

  -- one coefficient more
  pub more_product : (p q : ℕ → F) (i : ℕ) (old new : List F) → IsProductFrom p q (suc i) old
      → ((k : ℕ) → k < i → coefficients R new k ≡ coefficients R old k)
      → ((k : ℕ) → coefficients R new (i + k) ≡ coefficients R old (i + k) ⊕ p i ⊗ q k)
      → IsProductFrom p q i new
  more_product p q i old new so_far same changed = record { before = λ k l. same k l ∙ so_far.before k (omega arith); from = from_here }
    where
      from_here : (k : ℕ) → coefficients R new (i + k) ≡ product R (λ n. p (i + n)) q k
      from_here zero =
          let here : i + 0 ≡ i = omega arith in
          changed 0
          ∙ ap (λ t. t ⊕ p i ⊗ q 0) (ap (coefficients R old) here ∙ so_far.before i (omega arith))
          ∙ R.plus_nil (p i ⊗ q 0)
          ∙ ap (λ n. p n ⊗ q 0) (sym here)
          ∙ sym (product_first R (λ n. p (i + n)) q)
      from_here (suc k) =
          let here : i + 0 ≡ i = omega arith in
          let next : i + suc k ≡ suc i + k = omega arith in
          let after : (n : ℕ) → suc i + n ≡ i + suc n = λ n. omega arith in
          changed (suc k)
          ∙ ap₂ (λ (s t : F). s ⊕ t)
          (ap (coefficients R old) next ∙ so_far.from k ∙ ap (λ (t : ℕ → F). product R t q k) (fun_ext (λ n. ap p (after n))))
          (ap (λ n. p n ⊗ q (suc k)) (sym here))
          ∙ sym (product_next R (λ n. p (i + n)) q k)

  -- all coefficients
  pub whole_product : (p q : ℕ → F) (list : List F) → IsProductFrom p q 0 list → (k : ℕ) → coefficients R list k ≡ product R p q k
  whole_product p q list all k =
      let place : (n : ℕ) → 0 + n ≡ n = λ n. omega arith in
      sym (ap (coefficients R list) (place k)) ∙ all.from k ∙ ap (λ (t : ℕ → F). product R t q k) (fun_ext (λ n. ap p (place n)))

  -- a part that has taken a multiple of another list, back in its place
  part_from : (m : ℕ) (xs ys new : List F) (f : F) (a : ℕ) → m ≡ length ys → a + length ys ≤ length xs → new ≡ zip2 (λ x y. x ⊕ f ⊗ y) (take m (drop a xs)) ys
      → (k : ℕ) → coefficients R (put_mid a m xs new) (a + k) ≡ coefficients R xs (a + k) ⊕ f ⊗ coefficients R ys k
  part_from m xs ys new f a count room is k =
      let part : length (take m (drop a xs)) ≡ length ys = length-take-le m (drop a xs) (omega (arith, length-drop a xs)) ∙ count in
      let long : length new ≡ length ys = ap length is ∙ length-zip2 (λ (x y : F). x ⊕ f ⊗ y) (take m (drop a xs)) ys part ∙ part in
      let k_is : a + k - a ≡ k = omega arith in
      let behind : coefficients R (put_mid a m xs new) (a + k) ≡ coefficients R (new ++ drop m (drop a xs)) k =
      get_or-append_right (take a xs) (new ++ drop m (drop a xs)) a (a + k) nil (length-take-le a xs (omega arith)) (omega arith)
      ∙ ap (λ n. get_or (new ++ drop m (drop a xs)) n nil) k_is in
      elim (cases_lt k (length ys)) [
        | inl l ↦
            behind
            ∙ get_or-append new (drop m (drop a xs)) nil k (omega arith)
            ∙ ap (λ t. get_or t k nil) is
            ∙ get_or-zip2 (λ (x y : F). x ⊕ f ⊗ y) (take m (drop a xs)) ys k nil nil nil (omega arith) l
            ∙ ap (λ x. x ⊕ f ⊗ get_or ys k nil) (get_or-take m (drop a xs) k nil (omega arith) ∙ get_or-drop a xs k nil)
        | inr l ↦
            let none : coefficients R ys k ≡ nil = coefficients_below R ys k l in
            let place : a + (m + (k - length new)) ≡ a + k = omega arith in
            let same : coefficients R xs (a + k) ≡ coefficients R xs (a + k) ⊕ f ⊗ nil = simp ring in
            behind
            ∙ get_or-append_right new (drop m (drop a xs)) (length new) k nil refl (omega arith)
            ∙ get_or-drop m (drop a xs) (k - length new) nil
            ∙ get_or-drop a xs (m + (k - length new)) nil
            ∙ ap (coefficients R xs) place
            ∙ same
            ∙ ap (λ t. coefficients R xs (a + k) ⊕ f ⊗ t) (sym none)
      ]

  pub added_from : (xs ys new : List F) (f : F) (a : ℕ) → a + length ys ≤ length xs → new ≡ zip2 (λ x y. x ⊕ f ⊗ y) (take (a + length ys - a) (drop a xs)) ys
      → (k : ℕ) → coefficients R (put_mid a (a + length ys - a) xs new) (a + k) ≡ coefficients R xs (a + k) ⊕ f ⊗ coefficients R ys k
  added_from xs ys new f a = part_from (a + length ys - a) xs ys new f a (omega arith)
