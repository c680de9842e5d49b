-- A polynomial has one list of coefficients that ends with a coefficient that is not zero.
use Rattle.std.proofs.Common.{◌≡◌, inl, inr, ℕ, ◌-◌, ◌≤◌, List, length, sym, ◌∙◌, arith}
use Rattle.std.proofs.lemmas.Bool.{cases_lt}
use Rattle.std.proofs.lemmas.List.{same_lists, get_or_default, get_or_past}
use Rattle.algebra.specs.Ring.{Ring}
use Rattle.algebra.specs.Series.{IsBelow}
use Rattle.algebra.specs.Lists.{coefficients, IsTrimmed, IsListOf}

module _ {F : Type 0} (R : Ring F) where
  open R use {nil}

  -- the coefficients of a list end where it ends
  pub coefficients_below : (xs : List F) → IsBelow R (length xs) (coefficients R xs)
  coefficients_below xs k l = get_or_past xs k nil l

  -- a trimmed list is no longer than its coefficients
  pub trimmed_length : (n : ℕ) (xs : List F) → IsTrimmed R xs → IsBelow R n (coefficients R xs) → length xs ≤ n
  trimmed_length n xs t b =
      elim (cases_lt n (length xs)) [
        | inl l ↦ absurd (t (length xs - 1) (omega arith) (b (length xs - 1) (omega arith)))
        | inr l ↦ l
      ]

  pub one_list : (p : ℕ → F) (xs ys : List F) → IsListOf R p xs → IsListOf R p ys → xs ≡ ys
  one_list p xs ys x y =
      let to_ys : length xs ≤ length ys = trimmed_length (length ys) xs x.trimmed (λ k l. x.each k ∙ sym (y.each k) ∙ coefficients_below ys k l) in
      let to_xs : length ys ≤ length xs = trimmed_length (length xs) ys y.trimmed (λ k l. y.each k ∙ sym (x.each k) ∙ coefficients_below xs k l) in
      same_lists xs ys (omega arith) (λ k d l.
      get_or_default xs k d nil l
      ∙ x.each k
      ∙ sym (y.each k)
      ∙ sym (get_or_default ys k d nil (omega arith)))
