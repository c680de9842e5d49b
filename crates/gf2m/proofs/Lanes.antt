-- Sixteen looks into a table of sixteen at once.
use Rattle.std.proofs.Common.{◌≡◌, ℕ, ◌<◌, ◌%◌, List, length, get_or, replicate, refl, ap, ◌∙◌, arith, w8}
use lib.Bits.{bit_and, and_le_r, and_mask}
use lib.Lanes.{zip2}
use Rattle.std.proofs.lemmas.Simd.{SwzOk, swz_l, SwzOk-from_below, Each1-zip2, Each2-splat, Each1-all, length-zip2, length-swz_l, get_or-swz_l_below, get_or-zip2, get_or-replicate}

abbrev pub masked : List ℕ → List ℕ
masked v = zip2 bit_and v (replicate 16 15)

pub masked_positions : (v : List ℕ) → length v ≡ 16 → SwzOk w8 16 16 0 (masked v)
masked_positions v long =
    let small = Each1-all (λ a. bit_and a 15 < 16) (λ a. omega (arith, and_le_r a 15)) v in
    SwzOk-from_below w8 16 1 16 0 (masked v) refl (omega (arith, length-zip2 bit_and v (replicate 16 15) long))
    (Each1-zip2 bit_and (λ j. j < 16) v (replicate 16 15) (Each2-splat (λ a b. bit_and a b < 16) v 16 15 small))

pub length-looked_up : (table v : List ℕ) → length v ≡ 16 → length (swz_l w8 16 table 0 (masked v)) ≡ 16
length-looked_up table v long = length-swz_l w8 16 table 0 (masked v) ∙ length-zip2 bit_and v (replicate 16 15) long ∙ long

pub looked_up : (table v : List ℕ) → length v ≡ 16 → (k : ℕ) → k < 16 → get_or (swz_l w8 16 table 0 (masked v)) k 0 ≡ get_or table (get_or v k 0 % 16) 0
looked_up table v long k lt =
    let is : get_or (masked v) k 0 ≡ bit_and (get_or v k 0) 15 = get_or-zip2 bit_and v (replicate 16 15) k 0 0 0 (omega arith) lt ∙ ap (bit_and (get_or v k 0)) (get_or-replicate 16 k 15 0 lt) in
    let low : bit_and (get_or v k 0) 15 ≡ get_or v k 0 % 16 = and_mask (get_or v k 0) 4 in
    let all : length (masked v) ≡ 16 = length-zip2 bit_and v (replicate 16 15) long ∙ long in
    get_or-swz_l_below w8 16 table 0 (masked v) k (omega arith) (omega (arith, and_le_r (get_or v k 0) 15)) ∙ ap (λ n. get_or table n 0) (omega arith)
