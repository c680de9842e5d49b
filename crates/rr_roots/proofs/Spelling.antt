-- The numbers of lists that a message's number has room for.
use Rattle.std.proofs.Common.{◌≡◌, ℕ, zero, suc, ◌+◌, ◌-◌, ◌*◌, ◌<◌, ◌≤◌, ◌^◌, List, [], ◌∷◌, length, drop, get_or, refl, sym, ◌∙◌, ap, ap₂, arith}
use Rattle.std.proofs.lemmas.List.{length-drop, drop_more}
use Rattle.std.proofs.Math.Nat.{mul-le-mul_left, mul-le-mul_right, pow-suc}
use Rattle.root_terms.specs.YRoots.{number_of}

-- more digits make no lower power
power_more : (n d : ℕ) → 256 ^ n ≤ 256 ^ (d + n)
power_more n zero =
    let place : 0 + n ≡ n = omega arith in
    let same : 256 ^ (0 + n) ≡ 256 ^ n = ap (λ t. 256 ^ t) place in
    omega arith
power_more n (suc d) =
    let place : suc d + n ≡ suc (d + n) = omega arith in
    let next : 256 ^ (suc d + n) ≡ 256 ^ (d + n) * 256 = ap (λ t. 256 ^ t) place ∙ pow-suc 256 (d + n) in
    omega (arith, power_more n d)

power_low : (n : ℕ) → n ≤ 13 → 256 ^ n ≤ 256 ^ 13
power_low n l =
    let place : 13 - n + n ≡ 13 = omega arith in
    let same : 256 ^ (13 - n + n) ≡ 256 ^ 13 = ap (λ t. 256 ^ t) place in
    omega (arith, power_more n (13 - n))

module _ {F : Type 0} (digit : F → ℕ) (size : ℕ) (below : (x : F) → digit x < size) (small : size ≤ 256) where
  -- digits of 8 bits each
  number_below : (list : List F) → number_of digit size list < 256 ^ length list
  number_below [] = omega arith
  number_below (c ∷ list) =
      let rest : number_of digit size list + 1 ≤ 256 ^ length list = omega (arith, number_below list) in
      let high : size * (number_of digit size list + 1) ≤ size * 256 ^ length list = mul-le-mul_left size rest in
      let wide : size * 256 ^ length list ≤ 256 * 256 ^ length list = mul-le-mul_right (256 ^ length list) small in
      let next : 256 ^ suc (length list) ≡ 256 ^ length list * 256 = pow-suc 256 (length list) in
      omega (arith, below c)

  -- the number of so short a list fits
  pub number_fits : (list : List F) → length list ≤ 13 → number_of digit size list < 2 ^ 104
  number_fits list l =
      let limit : 256 ^ 13 ≡ 2 ^ 104 = refl in
      omega (arith, number_below list, power_low (length list) l)

  -- and so does that of its end with one digit more
  pub next_fits : (list : List F) (i : ℕ) (c : F) → 0 < i → i ≤ length list → length list ≤ 13 → c ≡ get_or list (i - 1) c
      → digit c + size * number_of digit size (drop i list) < 2 ^ 104
  next_fits list i c some inside short e =
      let place : i - 1 + 1 ≡ i = omega arith in
      let parts : drop (i - 1) list ≡ c ∷ drop i list =
      drop_more list (i - 1) c (omega arith) ∙ ap₂ (λ (x : F) (t : List F). x ∷ t) (sym e) (ap (λ n. drop n list) place) in
      let whole : number_of digit size (drop (i - 1) list) ≡ digit c + size * number_of digit size (drop i list) = ap (number_of digit size) parts in
      let fits : number_of digit size (drop (i - 1) list) < 2 ^ 104 = number_fits (drop (i - 1) list) (omega (arith, length-drop (i - 1) list)) in
      omega arith
