-- Lists that are filled from the front, and zeros at their end.
use Rattle.std.proofs.Common.{◌≡◌, ◌≢◌, inl, inr, ℕ, ◌+◌, ◌<◌, ◌≤◌, List, [], ◌∷◌, ◌++◌, length, get_or, set, take, sym, ◌∙◌, ap, arith}
use Rattle.std.proofs.lemmas.Bool.{cases_lt, cases_eq}
use Rattle.std.proofs.lemmas.List.{get_or_push, get_or-take, get_or_past, get_or_default, length_push, length-take, get_or-set_same, get_or-set_other}
use Rattle.std.proofs.Math.ListN.{get_or-append}
use Rattle.algebra.specs.Ring.{Ring}
use Rattle.algebra.specs.Lists.{coefficients, IsListOf}
use Rattle.algebra.proofs.CoefficientLists.{coefficients_below}

module _ {F : Type 0} (R : Ring F) where
  open R use {nil}

  -- the list has as many items as n, and they are those of p
  pub record IsFilled (p : ℕ → F) (n : ℕ) (xs : List F) : Type 0 where
    pub count : length xs ≡ n
    pub each : (k : ℕ) → k < n → coefficients R xs k ≡ p k

  pub filled_push : (p : ℕ → F) (n : ℕ) (xs : List F) (x : F) → IsFilled p n xs → x ≡ p n → IsFilled p (n + 1) (xs ++ x ∷ [])
  filled_push p n xs x f e = record {
    count = length_push xs x ∙ ap (λ t. t + 1) f.count;
    each = λ k l. elim (cases_lt k n) [
      | inl b ↦ get_or-append xs (x ∷ []) nil k (omega (arith, f.count)) ∙ f.each k b
      | inr b ↦ let same : n ≡ k = omega arith in get_or_push xs x nil k (f.count ∙ same) ∙ e ∙ ap p same
    ];
  }

  -- where p ends with the list, the list has all of p
  pub filled_all : (p : ℕ → F) (n : ℕ) (xs : List F) → IsFilled p n xs → ((k : ℕ) → n ≤ k → p k ≡ nil) → (k : ℕ) → coefficients R xs k ≡ p k
  filled_all p n xs f past k = elim (cases_lt k n) [
    | inl l ↦ f.each k l
    | inr l ↦ coefficients_below R xs k (omega (arith, f.count)) ∙ sym (past k l)
  ]

  -- without its zeros at the end
  pub taken : (n : ℕ) (xs : List F) → n ≤ length xs → ((k : ℕ) → n ≤ k → coefficients R xs k ≡ nil) → ((k : ℕ) → n ≡ k + 1 → coefficients R xs k ≢ nil)
      → IsListOf R (coefficients R xs) (take n xs)
  taken n xs inside zeros last = record {
    each = λ k. elim (cases_lt k n) [
      | inl l ↦ get_or-take n xs k nil l
      | inr l ↦ get_or_past (take n xs) k nil (omega (arith, length-take n xs)) ∙ sym (zeros k l)
    ];
    trimmed = λ k e z.
        let same : n ≡ k + 1 = omega (arith, length-take n xs, e) in
        last k same (sym (get_or-take n xs k nil (omega arith)) ∙ z);
  }

  -- what stands at a place of a list is the coefficient there
  pub read_at : (xs : List F) (i : ℕ) (x : F) → i < length xs → x ≡ get_or xs i x → x ≡ coefficients R xs i
  read_at xs i x l e = e ∙ get_or_default xs i x nil l

  -- a write before what stands already
  pub written_at : (p : ℕ → F) (xs : List F) (i : ℕ) (x : F) → i < length xs → ((k : ℕ) → i < k → coefficients R xs k ≡ p k) → x ≡ p i
      → (k : ℕ) → i ≤ k → coefficients R (set xs i x) k ≡ p k
  written_at p xs i x inside above here k l = elim (cases_eq k i) [
    | inl e ↦ ap (λ t. get_or (set xs i x) t nil) e ∙ get_or-set_same xs i x nil inside ∙ here ∙ ap p (sym e)
    | inr n ↦ get_or-set_other xs i k x nil n ∙ above k (omega arith)
  ]
