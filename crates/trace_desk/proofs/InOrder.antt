-- Those who are known, in order of serial, are the findings.
use Rattle.std.proofs.Common.{◌≡◌, ◌≢◌, inl, inr, ℕ, suc, ◌*◌, ◌^◌, ◌<◌, ◌≤◌, true, List, [], ◌∷◌, length, map, get_or, filter, eqb, All, AllPairs, Contains, IsPermutation, refl, sym, ap, ap₂, ◌∙◌, arith}
use Rattle.std.specs.List.{range_with_len}
use Rattle.std.specs.List.Sorted.{IsNonDecreasing, IsNonDecreasingBy, IsStrictlyIncreasing}
use Rattle.std.proofs.lemmas.Bool.{cases_eq, eq-eqb, ne_eqb}
use Rattle.std.proofs.lemmas.List.{length-map, get_or-map}
use Rattle.std.proofs.lemmas.List.Elements.{All-contains, All-map}
use Rattle.std.proofs.lemmas.List.Kept.{AllPairs-from_increasing}
use Rattle.std.proofs.lemmas.List.Sorted.{All-permutation, Contains-permutation, IsPermutation-map}
use Rattle.std.proofs.lemmas.Map.Keys.{IsDistinct-IsPermutation, IsDistinct-from_apart, IsStrictlyIncreasing-from_distinct}
use Rattle.pair_terms.specs.Recovery.{fits_enough}
use Rattle.decoder_terms.proofs.Chosen.{ArePassing, chosen}
use Rattle.desk_terms.specs.declared.findings.Accused.{Accused}
use Rattle.pair_terms.specs.Pairs.{Pair}
use Rattle.merge_terms.specs.Merged.{accusation_by, is_accused_by}
use Rattle.desk_terms.specs.Roll.{Roll, IsRoll, no_entry, message_at}
use Rattle.trace_desk.specs.Known.{AreKnown, serial_of}

eqb_flips : (x y : ℕ) → eqb x y ≡ eqb y x
eqb_flips x y = elim (cases_eq x y) [
  | inl e ↦ eq-eqb x y e ∙ sym (eq-eqb y x (sym e))
  | inr n ↦ ne_eqb x y n ∙ sym (ne_eqb y x (λ e. n (sym e)))
]

module _ (n : Accused → ℕ) where
  -- in the order of the numbers, they rise
  rising : (xs : List Accused) → IsNonDecreasingBy n xs → IsNonDecreasing (map n xs)
  rising [] up i j d l m = absurd (omega arith)
  rising (x ∷ xs) up i j d l m =
      let inside : j < length (x ∷ xs) = omega (arith, length-map (x ∷ xs) n) in
      let less : n (get_or (x ∷ xs) i x) ≤ n (get_or (x ∷ xs) j x) = up i j x l inside in
      let at_i : get_or (map n (x ∷ xs)) i d ≡ n (get_or (x ∷ xs) i x) = get_or-map n (x ∷ xs) i x d (omega arith) in
      let at_j : get_or (map n (x ∷ xs)) j d ≡ n (get_or (x ∷ xs) j x) = get_or-map n (x ∷ xs) j x d inside in
      omega arith

  apart_at : (xs : List Accused) → AllPairs (λ x y. n x ≢ n y) xs → (i j d : ℕ) → i < j → j < length (map n xs) → get_or (map n xs) i d ≢ get_or (map n xs) j d
  apart_at [] apart i j d l m = absurd (omega arith)
  apart_at (x ∷ xs) apart i j d l m =
      let inside : j < length (x ∷ xs) = omega (arith, length-map (x ∷ xs) n) in
      λ same. apart i j x l inside (sym (get_or-map n (x ∷ xs) i x d (omega arith)) ∙ same ∙ get_or-map n (x ∷ xs) j x d inside)

  -- and each stands once
  ascending : (xs sorted : List Accused) → AllPairs (λ x y. n x ≢ n y) xs → IsPermutation xs sorted → IsNonDecreasingBy n sorted → IsStrictlyIncreasing (map n sorted)
  ascending xs sorted apart shuffled up =
      IsStrictlyIncreasing-from_distinct (map n sorted) (rising sorted up)
      (IsDistinct-IsPermutation eqb eqb_flips (map n xs) (map n sorted) (IsPermutation-map n xs sorted shuffled)
      (IsDistinct-from_apart eqb (map n xs) (λ i j d l m. ne_eqb (get_or (map n xs) i d) (get_or (map n xs) j d) (apart_at xs apart i j d l m))))

by_serials : (f : ℕ → Accused) (xs : List Accused) → All (λ one. one ≡ f one.serial) xs → xs ≡ map f (map serial_of xs)
by_serials f [] said = refl
by_serials f (x ∷ xs) said = ap₂ (λ (y : Accused) (ys : List Accused). y ∷ ys) (said 0 x (omega arith)) (by_serials f xs (λ k d l. said (suc k) d (omega arith)))

module _ (roll : Roll) (kept : IsRoll roll) (pairs : List Pair) (c : ℕ) (messages : List ℕ)
    (only : All (λ u. (u < 2 ^ (roll.bits * roll.dimension)) × (fits_enough roll.bits roll.dimension pairs c u ≡ true)) messages)
    (every : (u : ℕ) → u < 2 ^ (roll.bits * roll.dimension) → fits_enough roll.bits roll.dimension pairs c u ≡ true → Contains messages u)
    (accused sorted : List Accused) (known : AreKnown roll pairs messages accused) (shuffled : IsPermutation accused sorted) (up : IsNonDecreasingBy serial_of sorted) where
  passing : ArePassing (is_accused_by roll pairs c) 0 (length roll.entries) (map serial_of sorted)
  passing = record {
    ascending = AllPairs-from_increasing (map serial_of sorted) (ascending serial_of accused sorted known.apart shuffled up);
    only = All-map (λ serial. (0 ≤ serial) × (serial < length roll.entries) × (is_accused_by roll pairs c serial ≡ true)) serial_of sorted
        (All-permutation (λ one. (0 ≤ one.serial) × (one.serial < length roll.entries) × (is_accused_by roll pairs c one.serial ≡ true)) accused sorted shuffled (λ k d l.
        let said = known.only k d l in
        let u : ℕ = message_at roll (get_or accused k d).serial in
        let meets : (u < 2 ^ (roll.bits * roll.dimension)) × (fits_enough roll.bits roll.dimension pairs c u ≡ true) =
        All-contains (λ v. (v < 2 ^ (roll.bits * roll.dimension)) × (fits_enough roll.bits roll.dimension pairs c v ≡ true)) messages u only said.1 in
        (omega arith, said.0, meets.1)));
    every = λ serial low within meets.
        let small = kept.below serial no_entry within in
        Contains-permutation (map serial_of accused) (map serial_of sorted) serial (IsPermutation-map serial_of accused sorted shuffled)
        (known.every serial within (every (message_at roll serial) small meets));
  }

  pub sorted_findings : sorted ≡ map (accusation_by roll pairs) (filter (is_accused_by roll pairs c) (range_with_len 0 (length roll.entries)))
  sorted_findings =
      by_serials (accusation_by roll pairs) sorted (All-permutation (λ one. one ≡ accusation_by roll pairs one.serial) accused sorted shuffled (λ k d l. (known.only k d l).2))
      ∙ ap (map (accusation_by roll pairs)) (chosen (is_accused_by roll pairs c) (length roll.entries) 0 (length roll.entries) (map serial_of sorted) (omega arith) passing)
