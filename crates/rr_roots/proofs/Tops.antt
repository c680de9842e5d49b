-- From the curve that is searched to the one that was asked about.
use Rattle.std.proofs.Common.{◌≡◌, ◌≢◌, inl, inr, ℕ, ◌+◌, ◌-◌, ◌*◌, ◌<◌, ◌≤◌, List, length, All, Result, Ok, Err, IfOk, arith}
use Rattle.std.specs.FinMap.{empty}
use Rattle.std.proofs.lemmas.Bool.{cases_lt}
use Rattle.std.proofs.lemmas.List.Elements.{All-weaker}
use Rattle.std.proofs.Math.Nat.{mul-le-mul_right}
use Rattle.algebra.specs.Ring.{Ring}
use Rattle.algebra.specs.Lists.{coefficients}
use Rattle.algebra.specs.Bivariate.{Bivariate, IsWithin, greatest, weight_by, x_power, y_power}
use Rattle.algebra.proofs.Entries.{greatest_reached, coefficient_past, within}
use Rattle.root_terms.specs.YRoots.{IsYRoot, AreYRootLists}
use Rattle.root_terms.specs.Branches.{IsReduction, IsNarrow, search_bound}
use Rattle.root_terms.proofs.Costs.{whole_bound}

pub if_ok : {T E : Type 0} (P Q : T → Type 0) → ((x : T) → P x → Q x) → (r : Result T E) → IfOk r P → IfOk r Q
if_ok P Q h (Ok x) p = h x p
if_ok P Q h (Err e) p = p

-- the greatest power of y is below the limit
pub degree_low : {F : Type 0} (q : Bivariate F) → q ≢ empty → IsWithin 65536 4096 q → greatest y_power q ≤ 4095
degree_low q n w =
    let reached = greatest_reached y_power q n in
    let low : reached.1 < 4096 = (w reached.0 reached.1 reached.2).1 in
    let same : reached.1 ≡ greatest y_power q = reached.3 in
    omega arith

pub room : (x y k : ℕ) → x < 4096 → y ≤ 4095 → k ≤ 13 → x + k * y < 65536
room x y k a b c =
    let wide : k * y ≤ 13 * y = mul-le-mul_right y c in
    omega arith

-- the lists are short
pub short_lists : {F : Type 0} (R : Ring F) (q : Bivariate F) (k : ℕ) (lists : List (List F)) → k ≤ 13 → AreYRootLists R q k lists → All (λ list. length list ≤ 13) lists
short_lists R q k lists l all i d m = let long = (all.only i d m).0 in omega arith

module _ {F : Type 0} (R : Ring F) (q : Bivariate F) where
  open R use {nil}

  module _ (curve : Bivariate F) (is : IsReduction R q curve) where
    pub same_lists : (k : ℕ) (lists : List (List F)) → AreYRootLists R curve k lists → AreYRootLists R q k lists
    same_lists k lists all = record {
      only =
          All-weaker (λ list. (length list ≡ k) × IsYRoot R curve (coefficients R list)) (λ list. (length list ≡ k) × IsYRoot R q (coefficients R list))
          (λ list h. (h.0, is.below (coefficients R list) h.1)) lists all.only;
      every = λ f b h. all.every f b (is.above f h);
      apart = all.apart;
    }

  module _ (curve : Bivariate F) (y : greatest y_power curve ≤ greatest y_power q) where
    pub narrow : IsNarrow R (greatest y_power q) curve
    narrow j n = elim (cases_lt (greatest y_power curve) j) [
      | inl l ↦ absurd (n (coefficient_past R (greatest x_power curve + 1) (greatest y_power curve + 1) curve (within curve) 0 j (inr (omega arith))))
      | inr l ↦ omega arith
    ]

    pub whole_products : (k old new e : ℕ) → 1 ≤ k → greatest (weight_by (k - 1)) curve < e
        → ((d y e : ℕ) → IsNarrow R d curve → greatest y_power curve < y → greatest (weight_by (k - 1)) curve < e → new ≤ old + search_bound k d y e)
        → new ≤ old + k * ((greatest y_power q + 1) * (greatest y_power q + 1) * (256 + e * (greatest y_power q + 1)))
    whole_products k old new e some l h =
        let spent : new ≤ old + search_bound k (greatest y_power q) (greatest y_power q + 1) e =
        h (greatest y_power q) (greatest y_power q + 1) e narrow (omega arith) l in
        omega (arith, whole_bound k (greatest y_power q) e some)
