-- What fits some pairs, and what is recovered, by what is in the lists.
use Rattle.std.proofs.Common.{◌≡◌, inl, inr, ℕ, zero, suc, ◌+◌, ◌*◌, ◌^◌, ◌<◌, true, List, [], ◌∷◌, All, Contains, length, map, get_or, filter, refl, sym, ◌∙◌, ap, arith}
use Rattle.std.specs.List.Sorted.{IsStrictlyIncreasing}
use Rattle.std.proofs.lemmas.Bool.{eqb-true}
use Rattle.std.proofs.lemmas.List.{length-map, get_or-map}
use Rattle.std.proofs.lemmas.List.Elements.{filter_passes}
use Rattle.std.proofs.lemmas.List.Kept.{AllPairs-filter, AllPairs-from_increasing}
use Rattle.code_terms.specs.Symbols.{symbol_of}
use Rattle.decoder_terms.proofs.Chosen.{chosen}
use Rattle.pair_terms.specs.Pairs.{Pair, IsBefore, ArePairs, fits, fitting_places}
use Rattle.pair_terms.specs.Recovery.{fits_enough, recovered}

pub told : (m k c : ℕ) (pairs : List Pair) (messages : List ℕ) → IsStrictlyIncreasing messages
    → All (λ u. (u < 2 ^ (m * k)) × (fits_enough m k pairs c u ≡ true)) messages
    → ((u : ℕ) → u < 2 ^ (m * k) → fits_enough m k pairs c u ≡ true → Contains messages u) → messages ≡ recovered m k pairs c
unfolding recovered
told m k c pairs messages up only every =
    chosen (fits_enough m k pairs c) (2 ^ (m * k)) 0 (2 ^ (m * k)) messages (omega arith) (record {
      ascending = AllPairs-from_increasing messages up;
      only = λ i d l. let here = only i d l in (omega arith, here.0, here.1);
      every = λ x from below passes. every x below passes;
    })

-- of two pairs that a message fits, the places differ
pub apart : (m k u : ℕ) (p q : Pair) → fits m k u p ≡ true → fits m k u q ≡ true → IsBefore p q → p.0 < q.0
apart m k u p q first second (inl less) = less
apart m k u p q first second (inr same) =
    let one : p.1 ≡ symbol_of m k u p.0 = eqb-true p.1 (symbol_of m k u p.0) first in
    let other : q.1 ≡ symbol_of m k u q.0 = eqb-true q.1 (symbol_of m k u q.0) second in
    absurd (omega (arith, same.1, one ∙ ap (symbol_of m k u) same.0 ∙ sym other))

pub fitting-ascending : (n m k u : ℕ) (pairs : List Pair) → ArePairs n pairs → IsStrictlyIncreasing (fitting_places m k u pairs)
unfolding fitting_places
fitting-ascending n m k u pairs are i within =
    let kept : List Pair = filter (fits m k u) pairs in
    let long : length (map (λ (p : Pair). p.0) kept) ≡ length kept = length-map kept (λ (p : Pair). p.0) in
    let first : fits m k u (get_or kept i (0, 0)) ≡ true = filter_passes (fits m k u) pairs i (0, 0) (omega arith) in
    let second : fits m k u (get_or kept (i + 1) (0, 0)) ≡ true = filter_passes (fits m k u) pairs (i + 1) (0, 0) (omega arith) in
    let order : IsBefore (get_or kept i (0, 0)) (get_or kept (i + 1) (0, 0)) = AllPairs-filter IsBefore (fits m k u) pairs are.ascending i (i + 1) (0, 0) (omega arith) (omega arith) in
    let less = apart m k u (get_or kept i (0, 0)) (get_or kept (i + 1) (0, 0)) first second order in
    let here = get_or-map (λ (p : Pair). p.0) kept i (0, 0) 0 (omega arith) in
    let next = get_or-map (λ (p : Pair). p.0) kept (i + 1) (0, 0) 0 (omega arith) in
    omega arith

-- two symbols at one place
pub two_in_order : (i v w : ℕ) → v < w → ArePairs (i + 1) ((i, v) ∷ (i, w) ∷ [])
two_in_order i v w less = record {
  ascending = λ a b d l m. by a b d l m;
  places = at;
}
  where
    by : (a b : ℕ) (d : Pair) → a < b → b < 2 → IsBefore (get_or ((i, v) ∷ (i, w) ∷ []) a d) (get_or ((i, v) ∷ (i, w) ∷ []) b d)
    by a zero d l m = absurd (omega (arith, l))
    by zero (suc zero) d l m = inr (refl, less)
    by (suc a) (suc zero) d l m = absurd (omega (arith, l))
    by a (suc (suc b)) d l m = absurd (omega (arith, m))

    at : All (λ (p : Pair). p.0 < i + 1) ((i, v) ∷ (i, w) ∷ [])
    at zero d l = omega arith
    at (suc zero) d l = omega arith
    at (suc (suc k)) d l = absurd (omega (arith, l))
