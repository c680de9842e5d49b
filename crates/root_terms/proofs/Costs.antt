-- How many lists and products the branches of a node take together: each no more than the multiplicity of its constant allows, and all multiplicities together no more than the degree of Q(0, y).
use Rattle.std.proofs.Common.{◌≡◌, ◌≢◌, inl, inr, ℕ, zero, suc, ◌+◌, ◌*◌, ◌<◌, ◌≤◌, ◌==◌, if◌then◌else◌, Bool, List, length, refl, sym, ◌∙◌, ap, subst, arith}
use Rattle.std.proofs.lemmas.Bool.{cases_lt, eq-eqb, ne_eqb}
use Rattle.std.proofs.Math.Nat.{mul-le-mul_left, mul-le-mul_right}
use Rattle.std.proofs.Math.Numerals.{add-one}
use mathlib.Core.Path.{fun_ext}
use Rattle.algebra.specs.Ring.{Ring, IsField}
use Rattle.algebra.specs.Series.{product, IsBelow}
use Rattle.algebra.specs.Roots.{HasRoot, total, AreDifferent}
use Rattle.algebra.specs.Lists.{coefficients, IsListOf}
use Rattle.algebra.specs.Bivariate.{Bivariate, greatest, y_power}
use Rattle.algebra.proofs.Series.{product_constant}
use Rattle.algebra.proofs.CoefficientLists.{coefficients_below}
use Rattle.algebra.proofs.Fields.{domain}
use Rattle.algebra.proofs.Roots.{power_first}
use Rattle.algebra.proofs.Multiplicity.{few}
use Rattle.root_terms.specs.Branches.{at_zero, IsNarrow, search_bound}
use Rattle.root_terms.proofs.Shifts.{at_zero_below}

-- r at n, and m elsewhere
with_last : (ℕ → ℕ) → ℕ → ℕ → ℕ → ℕ
with_last m n r j = if j == n then r else m j

with_last-here : (m : ℕ → ℕ) (n r : ℕ) → with_last m n r n ≡ r
unfolding with_last
with_last-here m n r = ap (λ (b : Bool). if b then r else m n) (eq-eqb n n refl)

with_last-before : (m : ℕ → ℕ) (n r j : ℕ) → j < n → with_last m n r j ≡ m j
unfolding with_last
with_last-before m n r j l = ap (λ (b : Bool). if b then r else m j) (ne_eqb j n (λ e. omega arith))

total_same : (n : ℕ) (m p : ℕ → ℕ) → ((j : ℕ) → j < n → m j ≡ p j) → total n m ≡ total n p
total_same zero m p h = refl
total_same (suc n) m p h =
    let last : m n ≡ p n = h n (omega arith) in
    let rest : total n m ≡ total n p = total_same n m p (λ j l. h j (omega arith)) in
    omega arith

total_with_last : (m : ℕ → ℕ) (n r : ℕ) → total (n + 1) (with_last m n r) ≡ total n m + r
total_with_last m n r =
    let next : n + 1 ≡ suc n = add-one n in
    let here : with_last m n r n ≡ r = with_last-here m n r in
    let before : total n (with_last m n r) ≡ total n m = total_same n (with_last m n r) m (with_last-before m n r) in
    ap (λ t. total t (with_last m n r)) next ∙ omega arith

-- the products of a node, whose degree is d: those that find the n constants, and those of their branches
node_products : (k d n t most s size : ℕ) (old before now : ℕ) → size ≤ 256 → n ≤ d → t ≤ d → d ≤ most
    → before ≤ old + size * (d + 1) → now ≤ before + n * (256 + s) + k * (t * (512 + s)) → now ≤ old + (256 + (k + 1) * (most * (512 + s)))
node_products k d n t most s size old before now small a b c h g =
    let elements : size * (d + 1) ≤ 256 * (d + 1) = mul-le-mul_right (d + 1) small in
    let shifts : n * (256 + s) ≤ d * (256 + s) = mul-le-mul_right (256 + s) a in
    let tails : t * (512 + s) ≤ d * (512 + s) = mul-le-mul_right (512 + s) b in
    let all_tails : k * (t * (512 + s)) ≤ k * (d * (512 + s)) = mul-le-mul_left k tails in
    let wide : d * (512 + s) ≤ most * (512 + s) = mul-le-mul_right (512 + s) c in
    let all : (k + 1) * (d * (512 + s)) ≤ (k + 1) * (most * (512 + s)) = mul-le-mul_left (k + 1) wide in
    omega arith

module _ {F : Type 0} (R : Ring F) (q : Bivariate F) (constants : List F) where
  open R use {nil, unit}

  -- the branches of the first n constants gave so many lists, with so many products; each shift took at most s
  pub record IsSpent (n k lists s before now : ℕ) : Type 0 where
    pub order : ℕ → ℕ
    pub roots : (j : ℕ) → j < n → HasRoot R (order j) (at_zero R q) (coefficients R constants j)
    pub few : lists ≤ total n order
    pub products : now ≤ before + n * (256 + s) + k * (total n order * (512 + s))

  pub none_spent : (k s before now : ℕ) → now ≤ before → IsSpent 0 k 0 s before now
  none_spent k s before now l = record {
    order = λ j. 0;
    roots = λ j m. absurd (omega arith);
    few = omega arith;
    products = omega arith;
  }

  pub more_spent : (n k lists s before now : ℕ) → IsSpent n k lists s before now → (r : ℕ) → HasRoot R r (at_zero R q) (coefficients R constants n)
      → (more new : ℕ) → more ≤ r → new ≤ now + s + (256 + k * (r * (512 + s))) → IsSpent (n + 1) k (lists + more) s before new
  more_spent n k lists s before now so_far r root more new l h =
      let sum : total (n + 1) (with_last so_far.order n r) ≡ total n so_far.order + r = total_with_last so_far.order n r in
      let count : (n + 1) * (256 + s) ≡ n * (256 + s) + (256 + s) = omega arith in
      let split : k * ((total n so_far.order + r) * (512 + s)) ≡ k * (total n so_far.order * (512 + s)) + k * (r * (512 + s)) = omega arith in
      let whole : k * (total (n + 1) (with_last so_far.order n r) * (512 + s)) ≡ k * ((total n so_far.order + r) * (512 + s)) = ap (λ t. k * (t * (512 + s))) sum in
      record {
        order = with_last so_far.order n r;
        roots = λ j m. elim (cases_lt j n) [
          | inl b ↦ subst (λ t. HasRoot R t (at_zero R q) (coefficients R constants j)) (sym (with_last-before so_far.order n r j b)) (so_far.roots j b)
          | inr b ↦
              let last : n ≡ j = omega arith in
              subst (λ t. HasRoot R (with_last so_far.order n r t) (at_zero R q) (coefficients R constants t)) last
              (subst (λ t. HasRoot R t (at_zero R q) (coefficients R constants n)) (sym (with_last-here so_far.order n r)) root)
        ];
        few = omega (arith, so_far.few);
        products = omega (arith, so_far.products);
      }

  -- every element is a root with multiplicity at least 0
  pub no_root : (c : F) → HasRoot R 0 (at_zero R q) c
  no_root c = record {
    rest = at_zero R q;
    bound = greatest y_power q + 1;
    below = at_zero_below R q;
    whole = λ k. sym (ap (λ (t : ℕ → F). product R t (at_zero R q) k) (fun_ext (power_first R c)) ∙ product_constant R unit (at_zero R q) k ∙ R.times_unit (at_zero R q k));
  }

  -- d is the degree of Q(0, y)
  module _ (field : IsField R) (list : List F) (of : IsListOf R (at_zero R q) list) (d : ℕ) (degree : length list ≡ d + 1) (different : AreDifferent (length constants) (coefficients R constants)) where
    lead : at_zero R q d ≢ nil
    lead e = of.trimmed d degree (of.each d ∙ e)

    bounded : IsBelow R (d + 1) (at_zero R q)
    bounded k l = sym (of.each k) ∙ coefficients_below R list k (omega arith)

    total_few : (n k lists s before now : ℕ) → n ≤ length constants → (spent : IsSpent n k lists s before now) → total n spent.order ≤ d
    total_few n k lists s before now l spent =
        few R (domain R field) d n spent.order (coefficients R constants) (at_zero R q) bounded lead (λ i j a b e. different i j (omega arith) (omega arith) e) spent.roots

    pub few_lists : (n k lists s before now most : ℕ) → n ≤ length constants → IsSpent n k lists s before now → IsNarrow R most q → lists ≤ most
    few_lists n k lists s before now most l spent narrow = omega (arith, spent.few, total_few n k lists s before now l spent, narrow d lead)

    pub few_products : (n k lists s before now old size most : ℕ) → n ≤ length constants → length constants ≤ d → size ≤ 256 → before ≤ old + size * length list
        → IsSpent n k lists s before now → IsNarrow R most q → now ≤ old + (256 + (k + 1) * (most * (512 + s)))
    few_products n k lists s before now old size most l m small start spent narrow =
        let first : size * length list ≡ size * (d + 1) = ap (λ t. size * t) degree in
        node_products k d n (total n spent.order) most s size old before now small (omega arith) (total_few n k lists s before now l spent) (narrow d lead) (omega arith) spent.products

-- the products of the whole search, where d is the greatest power of y
pub whole_bound : (k d e : ℕ) → 1 ≤ k → search_bound k d (d + 1) e ≤ k * ((d + 1) * (d + 1) * (256 + e * (d + 1)))
whole_bound k d e l =
    let base : 256 * 1 ≤ 256 * k = mul-le-mul_left 256 l in
    omega arith
