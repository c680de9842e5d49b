use Rattle.std.proofs.Common.{◌≡◌, ◌/◌, ◌^◌, ◌%◌, ℕ, List, length, get_or, replicate, ◌∙◌, ap, ap₂, arith, w8}
use Rattle.std.specs.Prelude.{bit_xor}
use lib.Lanes.{zip2}
use Rattle.std.proofs.lemmas.Simd.{swz_l, length-zip2, get_or-zip2, get_or-replicate}
use Rattle.gf2m.proofs.Lanes.{masked, masked_positions, length-looked_up, looked_up}
use Rattle.gf2m.proofs.slices.sixteen_products.Goals as goal

abbrev shifted : List ℕ → List ℕ
shifted v = zip2 (λ (a b : ℕ). a / 2 ^ b) v (replicate 16 4)

length-shifted : (v : List ℕ) → length v ≡ 16 → length (shifted v) ≡ 16
length-shifted v long = length-zip2 (λ (a b : ℕ). a / 2 ^ b) v (replicate 16 4) long ∙ long

pub swizzle-low : goal.swizzle-low
swizzle-low c = masked_positions c.args.numbers.now c.told-numbers

pub swizzle-high : goal.swizzle-high
swizzle-high c = masked_positions (shifted c.args.numbers.now) (length-shifted c.args.numbers.now c.told-numbers)

pub returns : goal.returns
returns c = λ k lt.
    let v = c.args.numbers.now in
    let long : length v ≡ 16 = c.told-numbers in
    let low = swz_l w8 16 c.args.low.now 0 (masked v) in
    let high = swz_l w8 16 c.args.high.now 0 (masked (shifted v)) in
    let l : length low ≡ 16 = length-looked_up c.args.low.now v long in
    let h : length high ≡ 16 = length-looked_up c.args.high.now (shifted v) (length-shifted v long) in
    let shift : get_or (shifted v) k 0 ≡ get_or v k 0 / 16 =
    get_or-zip2 (λ (a b : ℕ). a / 2 ^ b) v (replicate 16 4) k 0 0 0 (omega arith) lt ∙ ap (λ (b : ℕ). get_or v k 0 / 2 ^ b) (get_or-replicate 16 k 4 0 lt) in
    get_or-zip2 bit_xor low high k 0 0 0 (omega arith) (omega arith)
    ∙ ap₂ bit_xor (looked_up c.args.low.now v long k lt)
    (looked_up c.args.high.now (shifted v) (length-shifted v long) k lt ∙ ap (λ (n : ℕ). get_or c.args.high.now (n % 16) 0) shift)
