-- A node of the search: the constants that it follows, the lists that it finds, and their number and that of the products.
use Rattle.std.proofs.Common.{◌≡◌, ◌≢◌, inl, inr, ℕ, zero, suc, ◌+◌, ◌-◌, ◌*◌, ◌<◌, ◌≤◌, ◌^◌, true, false, List, [], ◌∷◌, ◌++◌, map, length, slice_index_or, refl, sym, ◌∙◌, ap, ap₂, subst, arith}
use Rattle.std.proofs.lemmas.Bool.{cases_lt, cases_order}
use Rattle.std.proofs.lemmas.List.{get_or_default}
use Rattle.std.proofs.Math.Pow.{pow_mono}
use Rattle.std.proofs.Math.Nat.{mul-le-mul_left, mul-le-mul_right}
use mathlib.Core.Path.{fun_ext}
use Rattle.algebra.specs.Ring.{Ring, IsField}
use Rattle.algebra.specs.Series.{value}
use Rattle.algebra.specs.Roots.{HasRoot, AreDifferent}
use Rattle.algebra.specs.Lists.{coefficients, IsListOf}
use Rattle.algebra.specs.Bivariate.{Bivariate, coefficient, greatest, weight_by, x_power, y_power}
use Rattle.algebra.proofs.Nested.{value_more}
use Rattle.algebra.proofs.CoefficientLists.{coefficients_below}
use Rattle.uni_poly.specs.Roots.{IsRootList}
use Rattle.root_terms.specs.YRoots.{IsYRoot, AreYRootLists}
use Rattle.root_terms.specs.Branches.{at_zero, IsReduced, IsNarrow, IsBranch, search_bound}
use Rattle.root_terms.proofs.Shifts.{at_zero_below}
use Rattle.root_terms.proofs.Steps.{substituted_first, substituted_zero}
use Rattle.root_terms.proofs.Searches.{AreFound, all_found, more_found}
use Rattle.root_terms.proofs.Costs.{IsSpent, more_spent, no_root, few_lists, few_products}

module _ {F : Type 0} (R : Ring F) (q : Bivariate F) where
  open R use {nil}

  -- the empty list, where Q(x, 0) is zero and where not
  pub last_list : ((i : ℕ) → coefficient R q i 0 ≡ nil) → AreYRootLists R q 0 ([] ∷ [])
  last_list zeros = record {
    only = λ i d l. at i d (omega arith);
    every = λ f b h. ([], (0, omega arith, refl), λ i. sym (b i (omega arith)));
    apart = λ i j d l m. absurd (omega arith);
  }
    where
      at : (i : ℕ) (d : List F) → i < 1 → (length (slice_index_or ([] ∷ []) i d) ≡ 0) × IsYRoot R q (coefficients R (slice_index_or ([] ∷ []) i d))
      at zero d l = (refl, λ k. substituted_zero R q (coefficients R []) (λ i m. refl) k ∙ zeros k)
      at (suc i) d l = absurd (omega arith)

  not_true : false ≡ true → ⊥
  not_true e = cc

  pub no_last_list : (((i : ℕ) → coefficient R q i 0 ≡ nil) → false ≡ true) → AreYRootLists R q 0 []
  no_last_list none = record {
    only = λ i d l. absurd (omega arith);
    every = λ f b h. absurd (not_true (none (λ i. sym (substituted_zero R q f b i) ∙ h i)));
    apart = λ i j d l m. absurd (omega arith);
  }

  module _ (number : F → ℕ) (list constants : List F) (of : IsListOf R (at_zero R q) list) (roots : IsRootList R number list constants) where
    -- the value of Q(0, y) by its list
    at_zero_value : (x : F) → value R (length list) (coefficients R list) x ≡ value R (greatest y_power q + 1) (at_zero R q) x
    at_zero_value x =
        let n : ℕ = length list + (greatest y_power q + 1) in
        sym (value_more R (length list) n (coefficients R list) x (coefficients_below R list) (omega arith))
        ∙ ap (λ (t : ℕ → F). value R n t x) (fun_ext of.each)
        ∙ value_more R (greatest y_power q + 1) n (at_zero R q) x (at_zero_below R q) (omega arith)

    -- the constant of a y-root is among the roots
    pub constant_found : (f : ℕ → F) → IsYRoot R q f → (j : ℕ) × (j < length constants) × (coefficients R constants j ≡ f 0)
    constant_found f h = roots.every (f 0) (at_zero_value (f 0) ∙ sym (substituted_first R q f) ∙ h 0)

    pub constant_root : (n : ℕ) → n < length constants → value R (greatest y_power q + 1) (at_zero R q) (coefficients R constants n) ≡ nil
    constant_root n l = sym (at_zero_value (coefficients R constants n)) ∙ roots.only n l

    pub new_constant : (n : ℕ) → n < length constants → (j : ℕ) → j < n → coefficients R constants j ≢ coefficients R constants n
    new_constant n l j m e =
        let same : number (coefficients R constants j) ≡ number (coefficients R constants n) = ap number e in
        let less : number (coefficients R constants j) < number (coefficients R constants n) = roots.ascending j n m l in
        absurd (omega arith)

    different : AreDifferent (length constants) (coefficients R constants)
    different i j l m e = elim (cases_order i j) [
      | inl s ↦ s
      | inr (inl a) ↦ absurd (new_constant j m i a e)
      | inr (inr a) ↦ absurd (new_constant i l j a (sym e))
    ]

    -- Q(0, y) is not zero
    pub some_list : IsReduced R q → 0 < length list
    some_list some = elim (cases_lt 0 (length list)) [
      | inl l ↦ l
      | inr l ↦ absurd (some.1 (sym (of.each some.0) ∙ coefficients_below R list some.0 (omega arith)))
    ]

  -- what a node has at hand: the coefficients of Q(0, y), and its roots
  pub record IsNode (number : F → ℕ) (list constants : List F) : Type 0 where
    pub of : IsListOf R (at_zero R q) list
    pub roots : IsRootList R number list constants
    pub some : 0 < length list
    pub few : length constants < length list

  pub node_of : (number : F → ℕ) (list constants given : List F) → IsListOf R (at_zero R q) list → constants ≡ given → IsRootList R number list given
      → (0 < length list → length given < length list) → IsReduced R q → IsNode number list constants
  node_of number list constants given of same roots few reduced =
      let some : 0 < length list = some_list number list given of roots reduced in
      record {
        of = of;
        roots = subst (IsRootList R number list) (sym same) roots;
        some = some;
        few = omega (arith, ap length same, few some);
      }

  -- the constant that is read from a slice of the roots
  pub constant_is : (constants given slice : List F) (n : ℕ) (x : F) → constants ≡ given → slice ≡ given → n < length constants → x ≡ slice_index_or slice n x → x ≡ coefficients R constants n
  constant_is constants given slice n x same read l e =
      e ∙ ap (λ (t : List F). slice_index_or t n x) (read ∙ sym same) ∙ get_or_default constants n x nil l

  -- the lists of one branch more
  pub branch_lists : (number : F → ℕ) (list constants : List F) → IsNode number list constants → (k n : ℕ) (lists slice tails added : List (List F)) (child : Bivariate F) (c : F)
      → n < length constants → c ≡ coefficients R constants n → slice ≡ tails → added ≡ lists ++ map (λ tail. c ∷ tail) slice
      → AreFound R q k constants n lists → IsBranch R q c child → AreYRootLists R child k tails → AreFound R q k constants (n + 1) added
  branch_lists number list constants node k n lists slice tails added child c l same read whole so_far branch below =
      let all : added ≡ lists ++ map (λ tail. coefficients R constants n ∷ tail) tails = whole ∙ ap₂ (λ (t : List (List F)) (b : F). lists ++ map (λ tail. b ∷ tail) t) read same in
      subst (AreFound R q k constants (n + 1)) (sym all)
      (more_found R q k constants n lists tails child so_far (subst (λ t. IsBranch R q t child) same branch) below (new_constant number list constants node.of node.roots n l))

  pub node_lists : (number : F → ℕ) (list constants : List F) → IsNode number list constants → (count n : ℕ) (lists : List (List F)) → 0 < count → n ≡ length constants
      → AreFound R q (count - 1) constants n lists → AreYRootLists R q count lists
  node_lists number list constants node count n lists some end all =
      let whole : count - 1 + 1 ≡ count = omega arith in
      subst (λ t. AreYRootLists R q t lists) whole
      (all_found R q (count - 1) constants lists (constant_found number list constants node.of node.roots) (subst (λ t. AreFound R q (count - 1) constants t lists) end all))

  module _ (field : IsField R) (number : F → ℕ) (list constants : List F) (node : IsNode number list constants) where
    pub few_found : (n k lists s before now most : ℕ) → n ≤ length constants → IsSpent R q constants n k lists s before now → IsNarrow R most q → lists ≤ most
    few_found n k lists s before now most l spent narrow =
        few_lists R q constants field list node.of (length list - 1) (omega (arith, node.some)) (different number list constants node.of node.roots) n k lists s before now most l spent narrow

    pub node_bound : (count n lists y e before now old size most : ℕ) → 0 < count → n ≤ length constants → size ≤ 256 → before ≤ old + size * length list
        → IsSpent R q constants n (count - 1) lists (e * (y * y)) before now → IsNarrow R most q → now ≤ old + search_bound count most y e
    node_bound count n lists y e before now old size most some l small start spent narrow =
        let whole : count - 1 + 1 ≡ count = omega arith in
        subst (λ t. now ≤ old + (256 + t * (most * (512 + e * (y * y))))) whole
        (few_products R q constants field list node.of (length list - 1) (omega (arith, node.some)) (different number list constants node.of node.roots) n (count - 1) lists (e * (y * y))
        before now old size most l (omega (arith, node.few)) small start spent narrow)

  -- after a shift that a branch is not followed from
  pub after_shift : (constants : List F) (n k lists s before now new : ℕ) → IsSpent R q constants n k lists s before now → new ≤ now + s → IsSpent R q constants (n + 1) k (lists + 0) s before new
  after_shift constants n k lists s before now new spent l =
      more_spent R q constants n k lists s before now spent 0 (no_root R q constants (coefficients R constants n)) 0 new (omega arith) (omega arith)

  -- the products of the search below a branch, for as many coefficients as are left
  tails_products : (k : ℕ) (child : Bivariate F) (c : F) (branch : IsBranch R q c child) (y e old new : ℕ) → greatest y_power q < y → greatest (weight_by k) q < e
      → ((d y e : ℕ) → IsNarrow R d child → greatest y_power child < y → greatest (weight_by (k - 1)) child < e → new ≤ old + search_bound k d y e)
      → new ≤ old + (256 + k * (branch.order * (512 + e * (y * y))))
  tails_products zero child c branch y e old new l m h =
      let last : new ≤ old + search_bound 0 branch.order y (greatest (weight_by (0 - 1)) child + 1) =
      h branch.order y (greatest (weight_by (0 - 1)) child + 1) branch.narrow (omega (arith, branch.y)) (omega arith) in
      omega arith
  tails_products (suc k) child c branch y e old new l m h =
      let less : suc k - 1 ≡ k = omega arith in
      let light : greatest (weight_by (suc k - 1)) child < e = omega (arith, ap (λ t. greatest (weight_by t) child) less, branch.weight k) in
      h branch.order y e branch.narrow (omega (arith, branch.y)) light

  -- one branch more, with so many lists
  pub after_branch : (constants : List F) (n k lists y e before now mid new more : ℕ) → IsSpent R q constants n k lists (e * (y * y)) before now
      → (child : Bivariate F) (c : F) → c ≡ coefficients R constants n → (branch : IsBranch R q c child) → mid ≤ now + e * (y * y)
      → greatest y_power q < y → greatest (weight_by k) q < e
      → ((d y e : ℕ) → IsNarrow R d child → greatest y_power child < y → greatest (weight_by (k - 1)) child < e → new ≤ mid + search_bound k d y e)
      → more ≤ branch.order → IsSpent R q constants (n + 1) k (lists + more) (e * (y * y)) before new
  after_branch constants n k lists y e before now mid new more spent child c same branch shift l m tails few =
      let cost : new ≤ mid + (256 + k * (branch.order * (512 + e * (y * y)))) = tails_products k child c branch y e mid new l m tails in
      more_spent R q constants n k lists (e * (y * y)) before now spent branch.order (subst (λ t. HasRoot R branch.order (at_zero R q) t) same branch.root) more new few (omega arith)

-- no field of this project has more elements
pub few_elements : (size bits : ℕ) → size ≡ 2 ^ bits → bits ≤ 8 → size ≤ 256
few_elements size bits e l = let most : 2 ^ bits ≤ 2 ^ 8 = pow_mono l in omega arith

-- the products of a node that finds no roots, since memory failed
pub early_products : (F : Type 0) (R : Ring F) (q : Bivariate F) (list : List F) → IsListOf R (at_zero R q) list → (size old now count most y e : ℕ) → 0 < count → size ≤ 256
    → IsNarrow R most q → now ≤ old + size * length list → now ≤ old + search_bound count most y e
early_products F R q list of size old now count most y e some small narrow l =
    let short : length list ≤ most + 1 = elim (cases_lt (most + 1) (length list)) [
      | inl m ↦
          let last : length list - 1 ≤ most = narrow (length list - 1) (λ h. of.trimmed (length list - 1) (omega arith) (of.each (length list - 1) ∙ h)) in
          absurd (omega arith)
      | inr m ↦ m
    ] in
    let elements : size * length list ≤ 256 * length list = mul-le-mul_right (length list) small in
    let all : 256 * length list ≤ 256 * (most + 1) = mul-le-mul_left 256 short in
    let wide : 1 * (most * (512 + e * (y * y))) ≤ count * (most * (512 + e * (y * y))) = mul-le-mul_right (most * (512 + e * (y * y))) some in
    omega arith

-- the room of a branch
pub branch_room : {F : Type 0} (R : Ring F) (q child : Bivariate F) (c : F) (count : ℕ) → 0 < count → IsBranch R q c child → greatest x_power q + count * greatest y_power q < 65536
    → greatest x_power child + (count - 1) * greatest y_power child < 65536
branch_room R q child c count some branch l =
    let less : (count - 1) * greatest y_power child ≤ (count - 1) * greatest y_power q = mul-le-mul_left (count - 1) branch.y in
    let whole : count ≡ (count - 1) + 1 = omega arith in
    let split : count * greatest y_power q ≡ (count - 1) * greatest y_power q + greatest y_power q = ap (λ t. t * greatest y_power q) whole ∙ omega arith in
    omega (arith, branch.x)
