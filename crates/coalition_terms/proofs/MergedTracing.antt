-- Pairs that a coalition made accuse members alone, and one of them; a word is the case of its pairs.
-- The members' agreements add up to at least the number of pairs, so one of them fits enough. Another licensee fits a pair only
-- where a member has the same symbol, which is too seldom.
use Rattle.std.proofs.Common.{◌≡◌, ◌≢◌, ◌⊎◌, inl, inr, ℕ, zero, suc, ◌+◌, ◌-◌, ◌*◌, ◌^◌, ◌<◌, ◌≤◌, ◌==◌, Bool, true, false, cond, List, [], ◌∷◌, length, map, get_or, All, AllPairs, refl, sym, ap, ◌∙◌, arith}
use mathlib.Core.Path.{fun_ext}
use Rattle.std.specs.Prelude.{filter, Contains, nat_le, ◌&&◌}
use Rattle.std.specs.List.{sum_by, count_by, range_with_len}
use Rattle.std.proofs.lemmas.Bool.{cases_lt, eqb-true, eq-eqb, leb-true}
use Rattle.std.proofs.Math.Nat.{mul-le-mul_left}
use Rattle.std.proofs.lemmas.List.{length-map, get_or-map}
use Rattle.std.proofs.lemmas.Bool.Decides.{leb_tells, eqb_tells}
use Rattle.std.proofs.lemmas.List.Sums.{length-filter, sum_by-cons, sum_by-le, get_or-le-sum_by}
use Rattle.std.proofs.lemmas.List.Elements.{All-filter, All-map, Contains-get_or, filter_passes}
use Rattle.std.proofs.lemmas.List.Kept.{AllPairs-filter}
use Rattle.std.proofs.lemmas.List.FromFn.{length-range_with_len, get_or-range_with_len}
use Rattle.code_terms.specs.Symbols.{symbol_of}
use Rattle.desk_terms.specs.declared.findings.Accused.{Accused}
use Rattle.decoder_terms.specs.Decoding.{not_enough}
use Rattle.desk_terms.specs.Findings.{serials}
use Rattle.desk_terms.specs.Roll.{Roll, IsRoll, no_entry, message_at}
use Rattle.pair_terms.specs.Pairs.{Pair, IsBefore, ArePairs, fits, fitting_count}
use Rattle.pair_terms.proofs.Told.{apart}
use Rattle.merge_terms.specs.Merged.{accused_by, is_accused_by, accusation_by}
use Rattle.coalition_terms.specs.Distance.{have_same_symbol, common_places}
use Rattle.coalition_terms.specs.Coalition.{IsCoalition}
use Rattle.coalition_terms.specs.Merged.{ExplainsPairs, AreTraced}
use Rattle.coalition_terms.proofs.Coverings.{counted, covered, sum-below}
use Rattle.coalition_terms.proofs.Distance.{far_apart}

-- a member of a list or none
member_or_none : (members : List ℕ) (j : ℕ) → Contains members j ⊎ ((i : ℕ) → Contains members i → i ≢ j)
member_or_none [] j = inr (λ i at. absurd (omega (arith, at.1)))
member_or_none (i ∷ members) j = first (eqb_tells i j) (member_or_none members j)
  where
    first : ((i == j) ≡ true) × (i ≡ j) ⊎ ((i == j) ≡ false) × (i ≢ j) → Contains members j ⊎ ((i : ℕ) → Contains members i → i ≢ j)
        → Contains (i ∷ members) j ⊎ ((h : ℕ) → Contains (i ∷ members) h → h ≢ j)
    first (inl same) rest = inl (0, omega arith, same.1)
    first (inr other) (inl at) = inl (suc at.0, omega (arith, at.1), at.2)
    first (inr other) (inr none) = inr none_of
      where
        none_of : (h : ℕ) → Contains (i ∷ members) h → h ≢ j
        none_of h (zero, within, is) = λ e. other.1 (is ∙ e)
        none_of h (suc k, within, is) = none h (k, omega arith, is)

-- numbers that ascend and pass are no more than all that pass
below_all : (p : ℕ → Bool) (n a : ℕ) (xs : List ℕ) → AllPairs (λ x y. x < y) xs → All (λ x. (a ≤ x) × (x < a + n) × (p x ≡ true)) xs → length xs ≤ length (filter p (range_with_len a n))
below_all p n a [] up only = omega arith
below_all p zero a (x ∷ xs) up only =
    let first = only 0 a (omega arith) in
    let low : a ≤ x = first.0 in
    let high : x < a + 0 = first.1 in
    absurd (omega arith)
below_all p (suc n) a (x ∷ xs) up only = by (p a) refl (below_all p n (a + 1) xs) (below_all p n (a + 1) (x ∷ xs))
  where
    later : (k d : ℕ) → k < length xs → x < get_or xs k d
    later k d l = up 0 (suc k) d (omega arith) (omega arith)

    by : (b : Bool) → p a ≡ b
        → (AllPairs (λ x y. x < y) xs → All (λ x. (a + 1 ≤ x) × (x < a + 1 + n) × (p x ≡ true)) xs → length xs ≤ length (filter p (range_with_len (a + 1) n)))
        → (AllPairs (λ x y. x < y) (x ∷ xs) → All (λ x. (a + 1 ≤ x) × (x < a + 1 + n) × (p x ≡ true)) (x ∷ xs) → length (x ∷ xs) ≤ length (filter p (range_with_len (a + 1) n)))
        → length (x ∷ xs) ≤ length (cond b (a ∷ filter p (range_with_len (a + 1) n)) (filter p (range_with_len (a + 1) n)))
    by true passes rest whole =
        let few : length xs ≤ length (filter p (range_with_len (a + 1) n)) =
        rest (λ i j d l m. up (suc i) (suc j) d (omega arith) (omega arith)) (λ k d l.
        let said = only (suc k) d (omega arith) in
        let first = only 0 d (omega arith) in
        let low : a ≤ x = first.0 in
        let high : get_or xs k d < a + suc n = said.1 in
        (omega (arith, later k d l), omega arith, said.2)) in
        omega arith
    by false fails rest whole = whole up (λ k d l.
        let said = only k d l in
        let low : a ≤ get_or (x ∷ xs) k d = said.0 in
        let high : get_or (x ∷ xs) k d < a + suc n = said.1 in
        let other : get_or (x ∷ xs) k d ≢ a = λ e. not_both (p a) (sym (ap p e) ∙ said.2) fails in
        (omega arith, omega arith, said.2))
      where
        not_both : (b : Bool) → b ≡ true → b ≡ false → ⊥
        not_both b t f = differ (sym t ∙ f)
          where
            differ : true ≡ false → ⊥
            differ e = cc

count_all : {X : Type 0} (xs : List X) → count_by (λ x. true) xs ≡ length xs
count_all [] = refl
count_all (x ∷ xs) = sum_by-cons (λ y. counted true) x xs ∙ omega (arith, count_all xs)

both_true : (a b : Bool) → a ≡ true → b ≡ true → (a && b) ≡ true
both_true true b first second = second
both_true false b first second = first

first_true : (a b : Bool) → (a && b) ≡ true → a ≡ true
first_true true b both = refl
first_true false b both = both

second_true : (a b : Bool) → (a && b) ≡ true → b ≡ true
second_true true b both = both
second_true false b both = cc

-- how many pairs the licensee with this serial fits
abbrev agreement_at : Roll → List Pair → ℕ → ℕ
agreement_at roll pairs j = fitting_count roll.bits roll.dimension (message_at roll j) pairs

module _ (roll : Roll) (pairs : List Pair) (c : ℕ) (members : List ℕ) where
  abbrev fits_at : ℕ → Pair → Bool
  fits_at j = fits roll.bits roll.dimension (message_at roll j)

  abbrev both : ℕ → ℕ → Pair → Bool
  both i j p = fits_at i p && fits_at j p

  agreement-count : (j : ℕ) → agreement_at roll pairs j ≡ count_by (fits_at j) pairs
  unfolding fitting_count
  agreement-count j = length-filter (fits_at j) pairs

  -- a member fits each pair
  by_member : ExplainsPairs roll members pairs → (k : ℕ) (d : Pair) → k < length pairs → (j : ℕ) × Contains members j × (fits_at j (get_or pairs k d) ≡ true)
  by_member explains k d within =
      let by = explains k d within in
      (by.0, by.1, eq-eqb (get_or pairs k d).1 (symbol_of roll.bits roll.dimension (message_at roll by.0) (get_or pairs k d).0) (sym by.2))

  -- the members' agreements add up to the number of pairs
  pairs-few : ExplainsPairs roll members pairs → length pairs ≤ sum_by (agreement_at roll pairs) members
  pairs-few explains =
      let few = covered (λ p. true) fits_at members pairs (λ k d within. λ is. by_member explains k d within) in
      let same : sum_by (λ j. count_by (fits_at j) pairs) members ≡ sum_by (agreement_at roll pairs) members =
      ap (λ f. sum_by f members) (fun_ext (λ j. sym (agreement-count j))) in
      omega (arith, count_all pairs, few, same)

  -- two licensees fit the same pair only where they have a symbol in common
  both-few : ArePairs (2 ^ roll.bits) pairs → (i j : ℕ) → count_by (both i j) pairs ≤ length (common_places roll.bits roll.dimension (message_at roll i) (message_at roll j) (2 ^ roll.bits))
  both-few are i j =
      let n : ℕ = 2 ^ roll.bits in
      let kept : List Pair = filter (both i j) pairs in
      let places : List ℕ = map (λ (p : Pair). p.0) kept in
      let long : length places ≡ length kept = length-map kept (λ (p : Pair). p.0) in
      let passes = filter_passes (both i j) pairs in
      let within = All-filter (both i j) (λ (p : Pair). p.0 < n) pairs are.places in
      let order = AllPairs-filter IsBefore (both i j) pairs are.ascending in
      let up : AllPairs (λ x y. x < y) places = λ g h d l m.
      let first = get_or-map (λ (p : Pair). p.0) kept g (0, 0) d (omega arith) in
      let second = get_or-map (λ (p : Pair). p.0) kept h (0, 0) d (omega arith) in
      let fits_first = first_true (fits_at i (get_or kept g (0, 0))) (fits_at j (get_or kept g (0, 0))) (passes g (0, 0) (omega arith)) in
      let fits_second = first_true (fits_at i (get_or kept h (0, 0))) (fits_at j (get_or kept h (0, 0))) (passes h (0, 0) (omega arith)) in
      let less = apart roll.bits roll.dimension (message_at roll i) (get_or kept g (0, 0)) (get_or kept h (0, 0)) fits_first fits_second (order g h (0, 0) l (omega arith)) in
      omega arith in
      let few = below_all (have_same_symbol roll.bits roll.dimension (message_at roll i) (message_at roll j)) n 0 places up
      (All-map (λ x. (0 ≤ x) × (x < 0 + n) × (have_same_symbol roll.bits roll.dimension (message_at roll i) (message_at roll j) x ≡ true)) (λ (p : Pair). p.0) kept
      (λ k d l. (omega arith, omega (arith, within k d l), same_there (get_or kept k d) i j (passes k d l)))) in
      omega (arith, length-filter (both i j) pairs, long, few)
    where
      same_there : (p : Pair) (i j : ℕ) → both i j p ≡ true → have_same_symbol roll.bits roll.dimension (message_at roll i) (message_at roll j) p.0 ≡ true
      same_there p i j is =
          let one : p.1 ≡ symbol_of roll.bits roll.dimension (message_at roll i) p.0 = eqb-true p.1 (symbol_of roll.bits roll.dimension (message_at roll i) p.0) (first_true (fits_at i p) (fits_at j p) is) in
          let other : p.1 ≡ symbol_of roll.bits roll.dimension (message_at roll j) p.0 = eqb-true p.1 (symbol_of roll.bits roll.dimension (message_at roll j) p.0) (second_true (fits_at i p) (fits_at j p) is) in
          eq-eqb (symbol_of roll.bits roll.dimension (message_at roll i) p.0) (symbol_of roll.bits roll.dimension (message_at roll j) p.0) (sym one ∙ other)

  -- another licensee fits a pair only where a member has the same symbol
  agreement-few : ArePairs (2 ^ roll.bits) pairs → ExplainsPairs roll members pairs → (j : ℕ)
      → agreement_at roll pairs j ≤ sum_by (λ i. length (common_places roll.bits roll.dimension (message_at roll i) (message_at roll j) (2 ^ roll.bits))) members
  agreement-few are explains j =
      let few = covered (fits_at j) (λ i. both i j) members pairs (λ k d within.
      λ is.
      let by = by_member explains k d within in
      (by.0, by.1, both_true (fits_at by.0 (get_or pairs k d)) (fits_at j (get_or pairs k d)) by.2 is)) in
      let less : sum_by (λ i. count_by (both i j) pairs) members ≤ sum_by (λ i. length (common_places roll.bits roll.dimension (message_at roll i) (message_at roll j) (2 ^ roll.bits))) members =
      sum_by-mono (λ i. count_by (both i j) pairs) (λ i. length (common_places roll.bits roll.dimension (message_at roll i) (message_at roll j) (2 ^ roll.bits))) (λ i. both-few are i j) members in
      omega (arith, agreement-count j, few, less)
    where
      sum_by-mono : (f g : ℕ → ℕ) → ((i : ℕ) → f i ≤ g i) → (is : List ℕ) → sum_by f is ≤ sum_by g is
      sum_by-mono f g less [] = omega arith
      sum_by-mono f g less (i ∷ is) = omega (arith, sum_by-cons f i is, sum_by-cons g i is, less i, sum_by-mono f g less is)

  module _ (kept : IsRoll roll) (low : 4 ≤ roll.bits) (high : roll.bits ≤ 8) (are : ArePairs (2 ^ roll.bits) pairs) (some : 1 ≤ c) (enough : not_enough roll.dimension c < length pairs)
      (coalition : IsCoalition roll c members) (explains : ExplainsPairs roll members pairs) where
    -- a licensee who is no member has fewer symbols than the dimension in common with a member
    common-few : (i j : ℕ) → i < length roll.entries → j < length roll.entries → i ≢ j → length (common_places roll.bits roll.dimension (message_at roll i) (message_at roll j) (2 ^ roll.bits)) ≤ roll.dimension - 1
    common-few i j is js other =
        let far = far_apart roll.bits roll.dimension (2 ^ roll.bits) (message_at roll i) (message_at roll j) low high (omega arith) (kept.below i no_entry is) (kept.below j no_entry js)
        (λ same. other (kept.apart i j is js same)) in
        omega arith

    -- so one who meets the threshold is a member
    is_member : (j : ℕ) → j < length roll.entries → is_accused_by roll pairs c j ≡ true → Contains members j
    is_member j enrolled meets = elim (member_or_none members j) [
      | inl at ↦ at
      | inr none ↦
          let less : ℕ = roll.dimension - 1 in
          let all : All (λ i. length (common_places roll.bits roll.dimension (message_at roll i) (message_at roll j) (2 ^ roll.bits)) ≤ less) members =
          λ k d within. common-few (get_or members k d) j (coalition.enrolled k d within) enrolled (none (get_or members k d) (Contains-get_or members k d within)) in
          let sum = sum_by-le (λ i. length (common_places roll.bits roll.dimension (message_at roll i) (message_at roll j) (2 ^ roll.bits))) less members all in
          let bounded : agreement_at roll pairs j ≤ c * less = omega (arith, agreement-few are explains j, sum, mul-le-mul_left less coalition.few) in
          let most = mul-le-mul_left c bounded in
          let reached : length pairs ≤ agreement_at roll pairs j * c = leb-true (length pairs) (agreement_at roll pairs j * c) meets in
          let threshold : c * c * less < length pairs = enough in
          let same : c * (c * less) ≡ c * c * less = omega arith in
          absurd (omega arith)
    ]

    -- where nobody meets the threshold, the members' agreements are too few
    too_few : All (λ j. agreement_at roll pairs j * c < length pairs) members → ⊥
    too_few each =
        let r : ℕ = length pairs in
        let whole : ℕ = sum_by (agreement_at roll pairs) members in
        let below : whole * c + length members ≤ length members * r = sum-below (agreement_at roll pairs) c r members each in
        let above : c * r ≤ c * whole = mul-le-mul_left c (pairs-few explains) in
        let bounded : r * length members ≤ r * c = mul-le-mul_left r coalition.few in
        let none : length members ≡ 0 = omega arith in
        let nothing : length members * r ≡ 0 * r = ap (λ n. n * r) none in
        let one : r * 1 ≤ r * c = mul-le-mul_left r some in
        let threshold : c * c * (roll.dimension - 1) < r = enough in
        omega arith

    only_members : All (λ j. Contains members j) (filter (is_accused_by roll pairs c) (serials roll))
    only_members k d within =
        let n : ℕ = length roll.entries in
        let long : length (serials roll) ≡ n = length-range_with_len 0 n in
        is_member (get_or (filter (is_accused_by roll pairs c) (serials roll)) k d)
        (All-filter (is_accused_by roll pairs c) (λ j. j < n) (serials roll) (λ i d inside. omega (arith, get_or-range_with_len 0 n i d (omega arith))) k d within)
        (filter_passes (is_accused_by roll pairs c) (serials roll) k d within)

    some_member : 0 < length (filter (is_accused_by roll pairs c) (serials roll))
    some_member = elim (cases_lt 0 (length (filter (is_accused_by roll pairs c) (serials roll)))) [
      | inl found ↦ found
      | inr none ↦ absurd (too_few (λ k d within. below none (get_or members k d) (coalition.enrolled k d within) (leb_tells (length pairs) (agreement_at roll pairs (get_or members k d) * c))))
    ]
      where
        below : length (filter (is_accused_by roll pairs c) (serials roll)) ≤ 0 → (j : ℕ) → j < length roll.entries
            → (nat_le (length pairs) (agreement_at roll pairs j * c) ≡ true) × (length pairs ≤ agreement_at roll pairs j * c) ⊎ (nat_le (length pairs) (agreement_at roll pairs j * c) ≡ false) × (agreement_at roll pairs j * c < length pairs)
            → agreement_at roll pairs j * c < length pairs
        below none j enrolled (inr less) = less.1
        below none j enrolled (inl meets) =
            let n : ℕ = length roll.entries in
            let long : length (serials roll) ≡ n = length-range_with_len 0 n in
            let here : get_or (serials roll) j 0 ≡ j = get_or-range_with_len 0 n j 0 enrolled ∙ omega arith in
            let passes : is_accused_by roll pairs c (get_or (serials roll) j 0) ≡ true = ap (is_accused_by roll pairs c) here ∙ meets.0 in
            let counts = get_or-le-sum_by (λ i. counted (is_accused_by roll pairs c i)) (serials roll) j 0 (omega arith) in
            absurd (omega (arith, length-filter (is_accused_by roll pairs c) (serials roll), counts, ap counted passes))

-- the desk accuses members of a coalition that made the pairs, and at least one of them
pub traced : (roll : Roll) (pairs : List Pair) (c : ℕ) (members : List ℕ) → IsRoll roll → 4 ≤ roll.bits → roll.bits ≤ 8 → ArePairs (2 ^ roll.bits) pairs → 1 ≤ c
    → not_enough roll.dimension c < length pairs → IsCoalition roll c members → ExplainsPairs roll members pairs → AreTraced roll pairs c members
unfolding accused_by
traced roll pairs c members kept low high are some enough coalition explains = record {
  members = All-map (λ (a : Accused). Contains members a.serial) (accusation_by roll pairs) (filter (is_accused_by roll pairs c) (serials roll))
      (only_members roll pairs c members kept low high are some enough coalition explains);
  some =
      let long : length (map (accusation_by roll pairs) (filter (is_accused_by roll pairs c) (serials roll))) ≡ length (filter (is_accused_by roll pairs c) (serials roll)) =
      length-map (filter (is_accused_by roll pairs c) (serials roll)) (accusation_by roll pairs) in
      omega (arith, long, some_member roll pairs c members kept low high are some enough coalition explains);
}
