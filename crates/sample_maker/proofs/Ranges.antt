-- Numbers in order, and what stands at each.
use Rattle.std.proofs.Common.{◌≡◌, ◌∙◌, ap, ap₂, refl, ℕ, zero, suc, ◌+◌, ◌<◌, ◌≤◌, Bool, cond, List, [], ◌∷◌, ◌++◌, map, Option, Some, arith}
use Rattle.std.specs.List.{find, range_with_len}

pub range_suc : (a n : ℕ) → range_with_len a (suc n) ≡ range_with_len a n ++ (a + n) ∷ []
range_suc a zero = let same : a ≡ a + 0 = omega arith in ap (λ (x : ℕ). x ∷ []) same
range_suc a (suc n) =
    let same : a + 1 + n ≡ a + suc n = omega arith in
    ap (λ (xs : List ℕ). a ∷ xs) (range_suc (a + 1) n ∙ ap (λ (x : ℕ). range_with_len (a + 1) n ++ x ∷ []) same)

pub range_more : (n : ℕ) → range_with_len 0 (n + 1) ≡ range_with_len 0 n ++ n ∷ []
range_more n =
    let next : n + 1 ≡ suc n = omega arith in
    let last : 0 + n ≡ n = omega arith in
    ap (range_with_len 0) next ∙ range_suc 0 n ∙ ap (λ (x : ℕ). range_with_len 0 n ++ x ∷ []) last

-- two functions that agree on these numbers
pub mapped_alike : {X : Type 0} (f g : ℕ → X) (a n : ℕ) → ((k : ℕ) → a ≤ k → k < a + n → f k ≡ g k) → map f (range_with_len a n) ≡ map g (range_with_len a n)
mapped_alike f g a zero alike = refl
mapped_alike {X} f g a (suc n) alike = ap₂ (λ (x : X) (xs : List X). x ∷ xs) (alike a (omega arith) (omega arith)) (mapped_alike f g (a + 1) n (λ k low high. alike k (omega (arith, low)) (omega (arith, high))))

pub found_alike : (p q : ℕ → Bool) (a n : ℕ) → ((k : ℕ) → a ≤ k → k < a + n → p k ≡ q k) → find p (range_with_len a n) ≡ find q (range_with_len a n)
found_alike p q a zero alike = refl
found_alike p q a (suc n) alike = ap₂ (λ (b : Bool) (o : Option ℕ). cond b (Some a) o) (alike a (omega arith) (omega arith)) (found_alike p q (a + 1) n (λ k low high. alike k (omega (arith, low)) (omega (arith, high))))
