-- How few y-roots a curve for some pairs has, and how many products the decoder takes.
use Rattle.std.proofs.Common.{◌≡◌, ◌≢◌, inl, inr, ℕ, zero, suc, ◌+◌, ◌-◌, ◌*◌, ◌<◌, ◌≤◌, List, length, Result, Ok, Err, IfOk, ap, arith}
use Rattle.std.specs.FinMap.{empty}
use Rattle.std.proofs.lemmas.Bool.{cases_lt}
use Rattle.std.proofs.lemmas.Nat.{mul-le}
use Rattle.std.proofs.Math.Nat.{mul-le-mul_left, mul-le-mul_right, lt_of_mul-lt-mul_left}
use Rattle.algebra.specs.Bivariate.{Bivariate, greatest, weight_by, x_power, y_power}
use Rattle.algebra.proofs.Entries.{greatest_at, greatest_least, greatest_reached}
use Rattle.list_decode.specs.declared.decode_error.DecodeError.{DecodeError}
use Rattle.decoding_terms.specs.Parameters.{IsAgreement}
use Rattle.decoder_terms.specs.Bounds.{root_bound, decoding_bound}
use Rattle.pair_terms.specs.Recovery.{recovery_bound}

-- y counts in the weight
y_weighs : {F : Type 0} (q : Bivariate F) (w : ℕ) → q ≢ empty → w * greatest y_power q ≤ greatest (weight_by w) q
y_weighs q w some =
    let reached = greatest_reached y_power q some in
    let there : reached.0 + w * reached.1 ≤ greatest (weight_by w) q = greatest_at (weight_by w) q reached.0 reached.1 reached.2 in
    let same : w * reached.1 ≡ w * greatest y_power q = ap (λ t. w * t) reached.3 in
    omega arith

pub x_weighs : {F : Type 0} (q : Bivariate F) (w : ℕ) → greatest x_power q ≤ greatest (weight_by w) q
x_weighs q w = greatest_least x_power q (greatest (weight_by w) q) (λ i j n. let there : i + w * j ≤ greatest (weight_by w) q = greatest_at (weight_by w) q i j n in omega arith)

-- the agreement is less than one more than a c-th part
agreement_low : (c r t : ℕ) → 1 ≤ r → IsAgreement c r t → t * c < r + c
agreement_low c r zero some least = omega arith
agreement_low c r (suc t) some least =
    let less : t * c < r = elim (cases_lt (t * c) r) [
      | inl l ↦ l
      | inr l ↦ absurd (least.none_below t (omega arith) l)
    ] in
    let next : suc t * c ≡ t * c + c = omega arith in
    omega arith

-- the weight is no more than that of a term with r + c - 1 powers of y
pub weight_low : (w c r t s e : ℕ) → 1 ≤ r → IsAgreement c r t → s ≤ c * w → e ≤ s * t → e ≤ w * (r + c - 1)
weight_low w c r t s e some agreement few light =
    let times : s * t ≤ c * w * t = mul-le-mul_right t few in
    let turned : c * w * t ≡ w * (t * c) = omega arith in
    let least : t * c ≤ r + c - 1 = omega (arith, agreement_low c r t some agreement) in
    let wide : w * (t * c) ≤ w * (r + c - 1) = mul-le-mul_left w least in
    omega arith

-- so there are fewer powers of y
pub powers_few : {F : Type 0} (q : Bivariate F) (w c r e : ℕ) → q ≢ empty → 1 ≤ c → greatest (weight_by w) q < e → e ≤ w * (r + c - 1) → greatest y_power q + 1 < r + c
powers_few q w c r e some bound light low =
    let weighs : w * greatest y_power q ≤ greatest (weight_by w) q = y_weighs q w some in
    let less : w * greatest y_power q < w * (r + c - 1) = omega arith in
    let few : greatest y_power q < r + c - 1 = lt_of_mul-lt-mul_left w less in
    omega arith

-- the products of the search
roots_within : (k a y w e : ℕ) → y ≤ a → e ≤ w * a → k * (y * y * (256 + e * y)) ≤ k * (a * a) * (256 + w * (a * a))
roots_within k a y w e few low =
    let square : y * y ≤ a * a = mul-le y y a a few few in
    let height : e * y ≤ w * a * a = mul-le e y (w * a) a low few in
    let turned : w * a * a ≡ w * (a * a) = omega arith in
    let factor : 256 + e * y ≤ 256 + w * (a * a) = omega arith in
    let both : y * y * (256 + e * y) ≤ a * a * (256 + w * (a * a)) = mul-le (y * y) (256 + e * y) (a * a) (256 + w * (a * a)) square factor in
    let times : k * (y * y * (256 + e * y)) ≤ k * (a * a * (256 + w * (a * a))) = mul-le-mul_left k both in
    let grouped : k * (a * a * (256 + w * (a * a))) ≡ k * (a * a) * (256 + w * (a * a)) = omega arith in
    omega arith

module _ (k c r e y : ℕ) (few : y + 1 < r + c) (some : 1 ≤ c) (low : e ≤ (k - 1) * (r + c - 1)) where
  -- where the roots are found
  pub search_within : (curve old mid new : ℕ) → mid ≤ old + curve → new ≤ mid + k * ((y + 1) * (y + 1) * (256 + e * (y + 1))) → new ≤ old + (curve + root_bound r k c)
  search_within curve old mid new first second =
      let wide : (k - 1) * (r + c - 1) ≤ (k - 1) * (r + c) = mul-le-mul_left (k - 1) (omega arith) in
      let roots : k * ((y + 1) * (y + 1) * (256 + e * (y + 1))) ≤ k * ((r + c) * (r + c)) * (256 + (k - 1) * ((r + c) * (r + c))) =
      roots_within k (r + c) (y + 1) (k - 1) e (omega arith) (omega arith) in
      omega arith

  -- and compared with the pairs
  pub comparing_within : (n curve old mid new count : ℕ) → count ≤ y → mid ≤ old + (curve + root_bound r k c) → new ≤ mid + count * (n * k) → new ≤ old + recovery_bound curve r n k c
  comparing_within n curve old mid new count l first second =
      let all : count * (n * k) ≤ (r + c) * (n * k) = mul-le-mul_right (n * k) (omega arith) in
      let grouped : (r + c) * (n * k) ≡ (r + c) * n * k = omega arith in
      omega arith

-- fewer pairs take no more products
pub fewer_roots : (r n k c : ℕ) → r ≤ n → root_bound r k c ≤ root_bound n k c
fewer_roots r n k c few =
    let low : (k - 1) * (r + c) ≤ (k - 1) * (n + c) = mul-le-mul_left (k - 1) (omega arith) in
    let within = roots_within k (n + c) (r + c) (k - 1) ((k - 1) * (r + c)) (omega arith) low in
    let height : (k - 1) * (r + c) * (r + c) ≡ (k - 1) * ((r + c) * (r + c)) = omega arith in
    let inner : (r + c) * (r + c) * (256 + (k - 1) * (r + c) * (r + c)) ≡ (r + c) * (r + c) * (256 + (k - 1) * ((r + c) * (r + c))) =
    ap (λ t. (r + c) * (r + c) * (256 + t)) height in
    let outer : k * ((r + c) * (r + c) * (256 + (k - 1) * (r + c) * (r + c))) ≡ k * ((r + c) * (r + c) * (256 + (k - 1) * ((r + c) * (r + c)))) = ap (λ t. k * t) inner in
    let grouped : k * ((r + c) * (r + c) * (256 + (k - 1) * ((r + c) * (r + c)))) ≡ k * ((r + c) * (r + c)) * (256 + (k - 1) * ((r + c) * (r + c))) = omega arith in
    omega arith

pub fewer_within : (curve r n k c : ℕ) → r ≤ n → recovery_bound curve r n k c ≤ decoding_bound curve n k c
fewer_within curve r n k c few =
    let roots : root_bound r k c ≤ root_bound n k c = fewer_roots r n k c few in
    let ends : (r + c) * n * k ≤ (n + c) * n * k = mul-le-mul_right k (mul-le-mul_right n (omega arith)) in
    omega arith

-- and find no more messages
pub few_more : (result : Result (List ℕ) DecodeError) (a b : ℕ) → a ≤ b → IfOk result (λ messages. length messages < a) → IfOk result (λ messages. length messages < b)
few_more (Ok messages) a b less few = omega (arith, few)
few_more (Err why) a b less few = few
