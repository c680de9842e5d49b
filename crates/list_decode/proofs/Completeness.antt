-- Every message that fits enough of the pairs is a y-root of the curve.
use Rattle.std.proofs.Common.{◌≡◌, inl, inr, ℕ, zero, suc, cond, [], ◌∷◌, refl, ◌+◌, ◌-◌, ◌*◌, ◌^◌, ◌<◌, ◌≤◌, if◌then◌else◌, Bool, true, false, List, All, Contains, filter, length, map, get_or, nat_le, sym, ◌∙◌, ap, subst, arith}
use Rattle.std.specs.Prelude.{bit_xor}
use Rattle.std.specs.List.Sorted.{IsStrictlyIncreasing}
use Rattle.std.proofs.Math.Nat.{mul-le-mul_left}
use Rattle.std.proofs.Math.Pow.{pow_mono}
use Rattle.std.proofs.lemmas.Bool.{cases_lt, cases_order}
use Rattle.std.proofs.lemmas.Bool.Decides.{nat_tests}
use Rattle.std.proofs.lemmas.List.{length-map, get_or-map}
use Rattle.std.proofs.lemmas.List.Elements.{All-filter, All-map, filter_passes}
use Rattle.std.proofs.lemmas.List.Kept.{IsStrictlyIncreasing-filter}
use Rattle.algebra.specs.Ring.{Ring, IsField}
use Rattle.algebra.specs.Roots.{AreDifferent, total}
use Rattle.algebra.specs.Series.{IsBelow}
use Rattle.algebra.specs.Lists.{coefficients}
use Rattle.algebra.specs.Bivariate.{Bivariate, HasMultiplicity, greatest, weight_by}
use Rattle.algebra.proofs.CoefficientLists.{coefficients_below}
use Rattle.gf_terms.specs.Arithmetic.{product}
use Rattle.code_terms.specs.Symbols.{packed}
use Rattle.code_terms.proofs.Packing.{packed-below}
use Rattle.rs_code.proofs.Coefficients.{numbers_below}
use Rattle.curve_terms.specs.Agreement.{GoesThrough}
use Rattle.curve_terms.proofs.Counted.{counted}
use Rattle.curve_terms.proofs.Roots.{is_root}
use Rattle.decoding_terms.specs.Parameters.{IsAgreement}
use Rattle.pair_terms.specs.Pairs.{Pair, IsBefore, ArePairs, fits, fitting_count}
use Rattle.pair_terms.specs.Recovery.{fits_enough, recovered}
use Rattle.pair_terms.proofs.Told.{told}
use Rattle.root_terms.specs.YRoots.{IsYRoot, AreYRoots}
use Rattle.root_terms.proofs.Lists.{Contains-map}
use Rattle.list_decode.specs.Points.{point_at, numbers_of, goes_through, ArePoints}
use Rattle.list_decode.proofs.Kept.{Contains-filter}
use Rattle.list_decode.proofs.Messages.{spelled, packed_all, same_message, through}

leb-true : (a b : ℕ) → nat_le a b ≡ true → a ≤ b
leb-true a b h = elim (cases_lt b a) [
  | inl l ↦ absurd (not_both (nat_le a b) h (above a b l))
  | inr l ↦ l
]
  where
    above : (a b : ℕ) → b < a → nat_le a b ≡ false
    above a b l = grind (arith, nat_tests)

    not_both : (t : Bool) → t ≡ true → t ≡ false → ⊥
    not_both t e f = differ (sym e ∙ f)
      where
        differ : true ≡ false → ⊥
        differ e = cc

-- the agreement is at least t
agreement_enough : (c r t agreement : ℕ) → IsAgreement c r t → r ≤ agreement * c → t ≤ agreement
agreement_enough c r t agreement least enough = elim (cases_lt agreement t) [
  | inl l ↦ absurd (least.none_below agreement l enough)
  | inr l ↦ l
]

-- a pair is not before itself
never : (p q : Pair) → IsBefore p q → p ≡ q → ⊥
never p q (inl less) same = omega (arith, ap (λ (t : Pair). t.0) same)
never p q (inr later) same = omega (arith, later.1, ap (λ (t : Pair). t.1) same)

total_front : (n : ℕ) (f : ℕ → ℕ) → total (suc n) f ≡ f 0 + total n (λ i. f (suc i))
total_front zero f = refl
total_front (suc n) f = let rest : total (suc n) f ≡ f 0 + total n (λ i. f (suc i)) = total_front n f in omega arith

-- a count over the places of a list is one over the list
total_count : {X : Type 0} (test : X → Bool) (d : X) (xs : List X) → total (length xs) (λ i. if test (get_or xs i d) then 1 else 0) ≡ length (filter test xs)
total_count test d [] = refl
total_count {X = X} test d (x ∷ xs) =
    total_front (length xs) (λ i. if test (get_or (x ∷ xs) i d) then 1 else 0)
    ∙ ap (λ t. (if test x then 1 else 0) + t) (total_count test d xs)
    ∙ by (test x) (filter test xs)
  where
    by : (b : Bool) (ys : List X) → (if b then 1 else 0) + length ys ≡ length (cond b (x ∷ ys) ys)
    by true ys = omega arith
    by false ys = omega arith

kept_as_many : {X Y : Type 0} (f : X → Y) (test : Y → Bool) (xs : List X) → length (filter test (map f xs)) ≡ length (filter (λ x. test (f x)) xs)
kept_as_many f test [] = refl
kept_as_many {X = X} {Y = Y} f test (x ∷ xs) = by (test (f x)) (filter test (map f xs)) (filter (λ y. test (f y)) xs) (kept_as_many f test xs)
  where
    by : (b : Bool) (ys : List Y) (zs : List X) → length ys ≡ length zs → length (cond b (f x ∷ ys) ys) ≡ length (cond b (x ∷ zs) zs)
    by true ys zs e = ap suc e
    by false ys zs e = e

module _ {F : Type 0} (R : Ring F) (field : IsField R) (number : F → ℕ) (m size : ℕ) (size_is : size ≡ 2 ^ m) (below : (x : F) → number x < size)
    (number_plus : (x y : F) → number (R.plus x y) ≡ bit_xor (number x) (number y)) (number_times : (x y : F) → number (R.times x y) ≡ product m (number x) (number y))
    (nil_is : number R.nil ≡ 0) (unit_is : number R.unit ≡ 1) (exact : (x y : F) → number x ≡ number y → x ≡ y) (each : (n : ℕ) → n < size → (x : F) × (number x ≡ n)) where
  module _ (k c : ℕ) (some : 1 ≤ k) (n : ℕ) (pairs : List Pair) (in_order : ArePairs n pairs) (points : List (F × F)) (are : ArePoints number pairs points)
      (q : Bivariate F) (s t e : ℕ) (light : greatest (weight_by (k - 1)) q < e) (enough : e ≤ s * t) (agreement : IsAgreement c (length pairs) t)
      (zeros : All (λ p. HasMultiplicity R s q p.0 p.1) points) where
    as_many : length pairs ≡ length points
    as_many = sym (ap length are) ∙ length-map points (numbers_of number)

    pair_is : (i : ℕ) → i < length points → get_or pairs i (0, 0) ≡ numbers_of number (point_at R points i)
    pair_is i l = ap (λ (ps : List Pair). get_or ps i (0, 0)) (sym are) ∙ get_or-map (numbers_of number) points i (R.nil, R.nil) (0, 0) l

    not_before : (i j : ℕ) → i < j → j < length points → point_at R points i ≡ point_at R points j → ⊥
    not_before i j l n same =
        let order : IsBefore (get_or pairs i (0, 0)) (get_or pairs j (0, 0)) = in_order.ascending i j (0, 0) l (omega (arith, as_many)) in
        never (get_or pairs i (0, 0)) (get_or pairs j (0, 0)) order (pair_is i (omega arith) ∙ ap (numbers_of number) same ∙ sym (pair_is j n))

    different : AreDifferent (length points) (point_at R points)
    different i j l n same = elim (cases_order i j) [
      | inl e ↦ e
      | inr (inl a) ↦ absurd (not_before i j a n same)
      | inr (inr a) ↦ absurd (not_before j i a l (sym same))
    ]

    hits_are : (u : ℕ) → total (length points) (λ i. if goes_through number m k u (point_at R points i) then 1 else 0) ≡ fitting_count m k u pairs
    unfolding fitting_count
    hits_are u =
        total_count (goes_through number m k u) (R.nil, R.nil) points
        ∙ sym (kept_as_many (numbers_of number) (fits m k u) points)
        ∙ ap (λ (ps : List Pair). length (filter (fits m k u) ps)) are

    -- the polynomial of a message that fits enough
    pub is_y_root : (u : ℕ) (list : List F) → length list ≡ k → packed m (map number list) ≡ u → fits_enough m k pairs c u ≡ true → IsYRoot R q (coefficients R list)
    is_y_root u list len is meets =
        let whole : k - 1 + 1 ≡ k = omega arith in
        let threshold : length pairs ≤ fitting_count m k u pairs * c = leb-true (length pairs) (fitting_count m k u pairs * c) meets in
        let many : t ≤ total (length points) (λ i. if goes_through number m k u (point_at R points i) then 1 else 0) =
        omega (arith, agreement_enough c (length pairs) t (fitting_count m k u pairs) agreement threshold, hits_are u) in
        let goes : GoesThrough R (k - 1 + 1) (coefficients R list) (length points) (point_at R points) t =
        subst (λ n. GoesThrough R n (coefficients R list) (length points) (point_at R points) t) (sym whole)
        (counted R k (length points) t (coefficients R list) (point_at R points) (λ i. goes_through number m k u (point_at R points i))
        (λ i l h. through R number m size size_is below number_plus number_times nil_is unit_is exact each list u k is (point_at R points i) h) many) in
        let short : IsBelow R (k - 1 + 1) (coefficients R list) = λ j l. coefficients_below R list j (omega arith) in
        is_root R field q (coefficients R list) (point_at R points) (length points) (k - 1) e s t light enough different (λ i l. zeros i (R.nil, R.nil) l) short goes

    module _ (roots : List (List F)) (all : AreYRoots R number size q k roots) where
      message : List F → ℕ
      message root = packed m (map number root)

      message_small : (root : List F) → length root ≤ k → packed m (map number root) < 2 ^ (m * k)
      message_small root l =
          let long : length (map number root) ≡ length root = length-map root number in
          let first : packed m (map number root) < 2 ^ (m * length (map number root)) = packed-below m (map number root) (numbers_below number m size below size_is root) in
          let wide : 2 ^ (m * length (map number root)) ≤ 2 ^ (m * k) = pow_mono (mul-le-mul_left m (omega arith)) in
          omega arith

      small : All (λ u. u < 2 ^ (m * k)) (map (λ root. packed m (map number root)) roots)
      small = All-map (λ u. u < 2 ^ (m * k)) (λ root. packed m (map number root)) roots (λ i d l. message_small (get_or roots i d) (all.only i d l).0)

      rising : IsStrictlyIncreasing (map (λ root. packed m (map number root)) roots)
      rising =
          subst (λ (f : List F → ℕ). IsStrictlyIncreasing (map f roots)) (sym (packed_all R number m size size_is below number_plus number_times nil_is unit_is exact each)) all.ascending

      found : (u : ℕ) → u < 2 ^ (m * k) → fits_enough m k pairs c u ≡ true → Contains (map (λ root. packed m (map number root)) roots) u
      found u l meets =
          let parts = spelled R number m size size_is below number_plus number_times nil_is unit_is exact each k u l in
          let list : List F = parts.0 in
          let len : length list ≡ k = parts.1 in
          let is : packed m (map number list) ≡ u = parts.2 in
          let short : IsBelow R k (coefficients R list) = λ j n. coefficients_below R list j (omega arith) in
          let root = all.every (coefficients R list) short (is_y_root u list len is meets) in
          let same : packed m (map number root.0) ≡ u = same_message R number m size size_is below number_plus number_times nil_is unit_is exact each root.0 list u root.2 is in
          subst (Contains (map (λ root. packed m (map number root)) roots)) same (Contains-map (λ root. packed m (map number root)) roots root.0 root.1)

      pub kept_are_recovered : filter (fits_enough m k pairs c) (map (λ root. packed m (map number root)) roots) ≡ recovered m k pairs c
      kept_are_recovered =
          let messages : List ℕ = map (λ root. packed m (map number root)) roots in
          let passes = filter_passes (fits_enough m k pairs c) messages in
          let below_all = All-filter (fits_enough m k pairs c) (λ u. u < 2 ^ (m * k)) messages small in
          told m k c pairs (filter (fits_enough m k pairs c) messages) (IsStrictlyIncreasing-filter (fits_enough m k pairs c) messages rising)
          (λ i d l. (below_all i d l, passes i d l))
          (λ u l meets. Contains-filter (fits_enough m k pairs c) messages u (found u l meets) meets)
