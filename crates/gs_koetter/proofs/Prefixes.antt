-- Multiples of lists added to lists.
use Rattle.std.proofs.Common.{◌≡◌, ◌⊎◌, inl, inr, ℕ, ◌+◌, ◌-◌, ◌<◌, ◌≤◌, List, length, take, drop, ◌++◌, get_or, ◌∙◌, sym, ap, ap₂, arith}
use Rattle.std.specs.Simd.Lanes.{zip2}
use Rattle.std.proofs.lemmas.Bool.{cases_lt}
use Rattle.std.proofs.lemmas.List.{get_or-take, get_or-drop, get_or_append_left, length-take}
use Rattle.std.proofs.lemmas.Simd.{get_or-zip2, length-zip2}
use Rattle.std.proofs.Math.Seq.{get_or-append_right}
use Rattle.algebra.specs.Lists.{coefficients}
use Rattle.algebra.specs.Ring.{Ring}
use Rattle.algebra.proofs.RingLaws.{ring}
use Rattle.koetter_terms.specs.Curves.{IsSum}

pub take_length : {X : Type 0} (n : ℕ) (xs : List X) → n ≤ length xs → length (take n xs) ≡ n
take_length n xs l = omega (arith, length-take n xs, l)

module _ {F : Type 0} (R : Ring F) where
  infixl 60 ◌⊕◌
  infixl 70 ◌⊗◌
  open R use {nil, unit, plus as ◌⊕◌, times as ◌⊗◌}

  -- a multiple of a front, where the rest is zero
  pub front_added : (n : ℕ) (factor : F) (xs source new : List F) → n ≤ length source → length source ≡ length xs → ((k : ℕ) → n ≤ k → coefficients R source k ≡ nil)
      → new ≡ zip2 (λ x y. x ⊕ factor ⊗ y) (take n xs) (take n source) → IsSum R factor source xs (new ++ drop n xs)
  front_added n factor xs source new l same rest is k = by_order (cases_lt k n)
    where
      left : length (take n xs) ≡ n
      left = take_length n xs (omega (arith, l, same))

      right : length (take n source) ≡ n
      right = take_length n source l

      long : length new ≡ n
      long = ap length is ∙ length-zip2 (λ x y. x ⊕ factor ⊗ y) (take n xs) (take n source) (left ∙ sym right) ∙ left

      by_order : (k < n) ⊎ (n ≤ k) → coefficients R (new ++ drop n xs) k ≡ coefficients R xs k ⊕ factor ⊗ coefficients R source k
      by_order (inl less) =
          get_or_append_left new (drop n xs) nil k (omega (arith, less, long))
          ∙ ap (λ (t : List F). get_or t k nil) is
          ∙ get_or-zip2 (λ x y. x ⊕ factor ⊗ y) (take n xs) (take n source) k nil nil nil (omega (arith, less, left)) (omega (arith, less, right))
          ∙ ap₂ (λ (x y : F). x ⊕ factor ⊗ y) (get_or-take n xs k nil less) (get_or-take n source k nil less)
      by_order (inr most) =
          let at : n + (k - length new) ≡ k = omega (arith, most, long) in
          get_or-append_right new (drop n xs) k nil (omega (arith, most, long))
          ∙ get_or-drop n xs (k - length new) nil
          ∙ ap (coefficients R xs) at
          ∙ sym (ap (λ t. coefficients R xs k ⊕ factor ⊗ t) (rest k most) ∙ simp ring)

  -- with the factor zero nothing is added
  pub nothing_added : (x y : F) (source xs : List F) → x ≡ nil → IsSum R (x ⊗ y) source xs xs
  nothing_added x y source xs none k = sym (ap (λ t. coefficients R xs k ⊕ t ⊗ y ⊗ coefficients R source k) none ∙ simp ring)
