-- A message that is made of coefficients has them.
use Rattle.std.proofs.Common.{◌≡◌, ℕ, zero, suc, ◌+◌, ◌-◌, ◌*◌, ◌^◌, ◌/◌, ◌%◌, ◌<◌, ◌≤◌, List, [], ◌∷◌, length, get_or, drop, refl, sym, ap, ◌∙◌, arith}
use Rattle.std.specs.List.{AllByRecursion}
use Rattle.std.proofs.Math.Seq.{drop-cons, drop-length}
use Rattle.std.proofs.lemmas.Nat.{pow_pos, pow-add, div-mul-add, mod-mul-add}
use Rattle.std.proofs.Math.Nat.{div-div-eq-div-mul, mul-le-mul_left, div-one, zero-div, zero-mod, mul-zero}
use Rattle.code_terms.specs.Symbols.{coefficient, packed}

-- what a number has in front of 2^m times another
low_part : (m c p : ℕ) → c < 2 ^ m → (c + 2 ^ m * p) % 2 ^ m ≡ c
low_part m c p small = let e : c + 2 ^ m * p ≡ p * 2 ^ m + c = omega arith in ap (λ n. n % 2 ^ m) e ∙ mod-mul-add p (2 ^ m) c small

high_part : (m c p : ℕ) → c < 2 ^ m → (c + 2 ^ m * p) / 2 ^ m ≡ p
high_part m c p small = let e : c + 2 ^ m * p ≡ p * 2 ^ m + c = omega arith in ap (λ n. n / 2 ^ m) e ∙ div-mul-add p (2 ^ m) c small

one_more : (m n : ℕ) → 2 ^ (m * suc n) ≡ 2 ^ m * 2 ^ (m * n)
one_more m n = let e : m * suc n ≡ m + m * n = omega arith in ap (λ i. 2 ^ i) e ∙ pow-add 2 m (m * n)

-- it is below 2^m for each coefficient
pub packed-below : (m : ℕ) (cs : List ℕ) → AllByRecursion (λ c. c < 2 ^ m) cs → packed m cs < 2 ^ (m * length cs)
unfolding packed
packed-below m [] small = pow_pos (m * 0)
packed-below m (c ∷ cs) small =
    let rest : packed m cs + 1 ≤ 2 ^ (m * length cs) = omega (arith, packed-below m cs small.1) in
    omega (arith, small.0, one_more m (length cs), mul-le-mul_left (2 ^ m) rest)

-- its coefficients are these, and zeros behind them
pub coefficient-packed : (m : ℕ) (cs : List ℕ) (j : ℕ) → AllByRecursion (λ c. c < 2 ^ m) cs → coefficient m (packed m cs) j ≡ get_or cs j 0
unfolding packed
coefficient-packed m [] j small = ap (λ n. n % 2 ^ m) (zero-div (2 ^ (m * j))) ∙ zero-mod (2 ^ m)
coefficient-packed m (c ∷ cs) zero small =
    let power_zero : 2 ^ (m * 0) ≡ 1 = ap (λ i. 2 ^ i) (mul-zero m) in
    ap (λ n. ((c + 2 ^ m * packed m cs) / n) % 2 ^ m) power_zero ∙ ap (λ n. n % 2 ^ m) (div-one (c + 2 ^ m * packed m cs)) ∙ low_part m c (packed m cs) small.0
coefficient-packed m (c ∷ cs) (suc j) small =
    ap (λ n. ((c + 2 ^ m * packed m cs) / n) % 2 ^ m) (one_more m j)
    ∙ ap (λ n. n % 2 ^ m) (sym (div-div-eq-div-mul (c + 2 ^ m * packed m cs) (2 ^ m) (2 ^ (m * j))) ∙ ap (λ n. n / 2 ^ (m * j)) (high_part m c (packed m cs) small.0))
    ∙ coefficient-packed m cs j small.1

pub packed-none : (m : ℕ) (cs : List ℕ) (n : ℕ) → n ≡ length cs → packed m (drop n cs) ≡ 0
unfolding packed
packed-none m cs n all = rw (all, drop-length cs) refl

-- one coefficient more in front
pub packed-more : (m : ℕ) (cs : List ℕ) (j x : ℕ) → 0 < j → j ≤ length cs → x ≡ get_or cs (j - 1) x → packed m (drop (j - 1) cs) ≡ x + 2 ^ m * packed m (drop j cs)
unfolding packed
packed-more m cs j x some within is =
    let back : suc (j - 1) ≡ j = omega arith in
    ap (packed m) (drop-cons cs (j - 1) x (omega arith))
    ∙ ap (λ c. c + 2 ^ m * packed m (drop (suc (j - 1)) cs)) (sym is)
    ∙ ap (λ i. x + 2 ^ m * packed m (drop i cs)) back
