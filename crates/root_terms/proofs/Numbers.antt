-- Digits below the size of their system are told by the number that they make.
use Rattle.std.proofs.Common.{◌≡◌, inl, inr, ℕ, zero, suc, ◌+◌, ◌*◌, ◌<◌, ◌≤◌, List, [], ◌∷◌, refl, sym, ◌∙◌, ap, arith}
use Rattle.std.proofs.lemmas.Bool.{cases_order}
use Rattle.std.proofs.Math.Nat.{mul-le-mul_left}
use Rattle.algebra.specs.Ring.{Ring}
use Rattle.algebra.specs.Lists.{coefficients}
use Rattle.root_terms.specs.YRoots.{number_of}

-- a lower digit does not make up for a higher part
digits_order : (size a b s t : ℕ) → a < size → s < t → a + size * s ≡ b + size * t → ⊥
digits_order size a b s t l m e =
    let step : size * (s + 1) ≤ size * t = mul-le-mul_left size (omega arith) in
    let whole : size * (s + 1) ≡ size * s + size = omega arith in
    omega arith

high_same : (size a b s t : ℕ) → a < size → b < size → a + size * s ≡ b + size * t → s ≡ t
high_same size a b s t l m e = elim (cases_order s t) [
  | inl same ↦ same
  | inr (inl less) ↦ absurd (digits_order size a b s t l less e)
  | inr (inr more) ↦ absurd (digits_order size b a t s m more (sym e))
]

low_same : (size a b s t : ℕ) → a < size → b < size → a + size * s ≡ b + size * t → a ≡ b
low_same size a b s t l m e =
    let high : size * s ≡ size * t = ap (λ n. size * n) (high_same size a b s t l m e) in omega arith

module _ {F : Type 0} (R : Ring F) (digit : F → ℕ) (nil_is : digit R.nil ≡ 0) (exact : (x y : F) → digit x ≡ digit y → x ≡ y) (size : ℕ) (below : (x : F) → digit x < size) where
  -- no digits make the number of zeros alone
  zeros_made : (ys : List F) → 0 ≡ number_of digit size ys → (i : ℕ) → R.nil ≡ coefficients R ys i
  zeros_made [] e i = refl
  zeros_made (c ∷ ys) e zero = let low = low_same size 0 (digit c) 0 (number_of digit size ys) (omega (arith, below c)) (below c) (omega arith) in exact R.nil c (nil_is ∙ low)
  zeros_made (c ∷ ys) e (suc i) = zeros_made ys (high_same size 0 (digit c) 0 (number_of digit size ys) (omega (arith, below c)) (below c) (omega arith)) i

  pub same_digits : (xs ys : List F) → number_of digit size xs ≡ number_of digit size ys → (i : ℕ) → coefficients R xs i ≡ coefficients R ys i
  same_digits [] ys e i = zeros_made ys e i
  same_digits (c ∷ xs) [] e i = sym (zeros_made (c ∷ xs) (sym e) i)
  same_digits (c ∷ xs) (b ∷ ys) e zero = exact c b (low_same size (digit c) (digit b) (number_of digit size xs) (number_of digit size ys) (below c) (below b) e)
  same_digits (c ∷ xs) (b ∷ ys) e (suc i) = same_digits xs ys (high_same size (digit c) (digit b) (number_of digit size xs) (number_of digit size ys) (below c) (below b) e) i
