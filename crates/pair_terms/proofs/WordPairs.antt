-- The pairs of a word, place by place.
use Rattle.std.proofs.Common.{◌≡◌, inl, inr, ℕ, zero, suc, ◌+◌, ◌*◌, ◌^◌, ◌<◌, ◌≤◌, ◌==◌, Bool, true, false, cond, nat_le, is_some, List, [], ◌∷◌, ◌++◌, Option, Some, None, IfSome, All, AllPairs, Contains, length, take, map, filter, refl, sym, ◌∙◌, ap, ap₂, subst, add-one, arith}
use mathlib.Core.Path.{fun_ext}
use Rattle.std.specs.List.{range_with_len}
use Rattle.std.proofs.Math.Seq.{take-length}
use Rattle.std.proofs.lemmas.List.{append-nil, length_push, length-map, map-append}
use Rattle.std.proofs.lemmas.List.Elements.{All-push, All-weaker, Contains-push_cases, filter-append}
use Rattle.std.proofs.lemmas.List.Quantifiers.{all_pairs_push}
use Rattle.std.proofs.lemmas.List.Sums.{count_by_more_yes, count_by_more_no}
use Rattle.code_terms.specs.Symbols.{symbol_of}
use Rattle.code_terms.specs.Words.{HasSymbolsBelow, readable, slot_at, holds_symbol, places_of, agreement_of}
use Rattle.code_terms.proofs.PlaceLaws.{places_below, places_below-none, places_below-more, places_below-all}
use Rattle.decoder_terms.specs.Decoding.{meets_threshold, decoded}
use Rattle.pair_terms.specs.Pairs.{Pair, IsBefore, ArePairs, HaveSymbolsBelow, fits, fitting_places, fitting_count, pair_at, pairs_below, pairs_of}
use Rattle.pair_terms.specs.Recovery.{fits_enough, recovered}

module _ (word : List (Option ℕ)) where
  pub pairs_none : pairs_below word 0 ≡ []
  unfolding pairs_below
  pairs_none = refl

  -- one place more
  pub pairs_more : (n : ℕ) → pairs_below word (n + 1) ≡ pairs_below word n ++ pair_at n (slot_at word n)
  unfolding pairs_below
  pairs_more n = rw add-one refl

  pub pairs_skip : (n : ℕ) → slot_at word n ≡ None → pairs_below word (n + 1) ≡ pairs_below word n
  pairs_skip n none = pairs_more n ∙ ap (λ s. pairs_below word n ++ pair_at n s) none ∙ append-nil (pairs_below word n)

  pub pairs_push : (n v : ℕ) → slot_at word n ≡ Some v → pairs_below word (n + 1) ≡ pairs_below word n ++ (n, v) ∷ []
  pairs_push n v some = pairs_more n ∙ ap (λ s. pairs_below word n ++ pair_at n s) some

  -- ---- as many as can be read

  count_below : (n : ℕ) → n ≤ length word → length (pairs_below word n) ≡ readable (take n word)
  count_below zero within = ap length pairs_none
  count_below (suc n) within = subst (λ t. length (pairs_below word t) ≡ readable (take t word)) (add-one n) (by (slot_at word n) refl (count_below n (omega arith)))
    where
      by : (s : Option ℕ) → slot_at word n ≡ s → length (pairs_below word n) ≡ readable (take n word) → length (pairs_below word (n + 1)) ≡ readable (take (n + 1) word)
      by None is before = ap length (pairs_skip n is) ∙ before ∙ sym (count_by_more_no is_some word n None (omega arith) (ap is_some is))
      by (Some v) is before = ap length (pairs_push n v is) ∙ length_push (pairs_below word n) (n, v) ∙ ap (λ t. t + 1) before ∙ sym (count_by_more_yes is_some word n None (omega arith) (ap is_some is))

  pub count_of : length (pairs_of word) ≡ readable word
  count_of = count_below (length word) (omega arith) ∙ ap readable (take-length word)

  -- ---- in order

  pub places_within : (n : ℕ) → All (λ (p : Pair). p.0 < n) (pairs_below word n)
  places_within zero = subst (All (λ (p : Pair). p.0 < 0)) (sym pairs_none) (λ k d l. absurd (omega arith))
  places_within (suc n) = subst (λ t. All (λ (p : Pair). p.0 < t) (pairs_below word t)) (add-one n) (by (slot_at word n) refl (All-weaker (λ (p : Pair). p.0 < n) (λ (p : Pair). p.0 < n + 1) (λ p l. omega arith) (pairs_below word n) (places_within n)))
    where
      by : (s : Option ℕ) → slot_at word n ≡ s → All (λ (p : Pair). p.0 < n + 1) (pairs_below word n) → All (λ (p : Pair). p.0 < n + 1) (pairs_below word (n + 1))
      by None is before = subst (All (λ (p : Pair). p.0 < n + 1)) (sym (pairs_skip n is)) before
      by (Some v) is before = subst (All (λ (p : Pair). p.0 < n + 1)) (sym (pairs_push n v is)) (All-push (λ (p : Pair). p.0 < n + 1) (pairs_below word n) (n, v) before (omega arith))

  pub in_order : (n : ℕ) → AllPairs IsBefore (pairs_below word n)
  in_order zero = subst (AllPairs IsBefore) (sym pairs_none) (λ i j d l m. absurd (omega arith))
  in_order (suc n) = subst (λ t. AllPairs IsBefore (pairs_below word t)) (add-one n) (by (slot_at word n) refl (in_order n))
    where
      by : (s : Option ℕ) → slot_at word n ≡ s → AllPairs IsBefore (pairs_below word n) → AllPairs IsBefore (pairs_below word (n + 1))
      by None is before = subst (AllPairs IsBefore) (sym (pairs_skip n is)) before
      by (Some v) is before = subst (AllPairs IsBefore) (sym (pairs_push n v is)) (all_pairs_push IsBefore (pairs_below word n) (n, v) before (λ k d l. inl (places_within n k d l)))

  -- the slot of a pair
  pub slot_of_pair : (n i v : ℕ) → Contains (pairs_below word n) (i, v) → slot_at word i ≡ Some v
  slot_of_pair zero i v at = let none : Contains [] (i, v) = subst (λ (ps : List Pair). Contains ps (i, v)) pairs_none at in absurd (omega (arith, none.1))
  slot_of_pair (suc n) i v at = by (slot_at word n) refl (subst (λ t. Contains (pairs_below word t) (i, v)) (sym (add-one n)) at) (slot_of_pair n i v)
    where
      by : (s : Option ℕ) → slot_at word n ≡ s → Contains (pairs_below word (n + 1)) (i, v) → (Contains (pairs_below word n) (i, v) → slot_at word i ≡ Some v) → slot_at word i ≡ Some v
      by None is at before = before (subst (λ (ps : List Pair). Contains ps (i, v)) (pairs_skip n is) at)
      by (Some w) is at before = elim (Contains-push_cases (pairs_below word n) (n, w) (i, v) (subst (λ (ps : List Pair). Contains ps (i, v)) (pairs_push n w is) at)) [
        | inl there ↦ before there
        | inr same ↦ ap (slot_at word) (sym (ap (λ (p : Pair). p.0) same)) ∙ is ∙ ap Some (ap (λ (p : Pair). p.1) same)
      ]

  symbols_within : (limit : ℕ) → HasSymbolsBelow limit word → (n : ℕ) → n ≤ length word → All (λ (p : Pair). p.1 < limit) (pairs_below word n)
  symbols_within limit low zero within = subst (All (λ (p : Pair). p.1 < limit)) (sym pairs_none) (λ k d l. absurd (omega arith))
  symbols_within limit low (suc n) within = subst (λ t. All (λ (p : Pair). p.1 < limit) (pairs_below word t)) (add-one n) (by (slot_at word n) refl (symbols_within limit low n (omega arith)))
    where
      by : (s : Option ℕ) → slot_at word n ≡ s → All (λ (p : Pair). p.1 < limit) (pairs_below word n) → All (λ (p : Pair). p.1 < limit) (pairs_below word (n + 1))
      by None is before = subst (All (λ (p : Pair). p.1 < limit)) (sym (pairs_skip n is)) before
      by (Some v) is before =
          let here : IfSome (slot_at word n) (λ w. w < limit) = low n None (omega arith) in
          subst (All (λ (p : Pair). p.1 < limit)) (sym (pairs_push n v is)) (All-push (λ (p : Pair). p.1 < limit) (pairs_below word n) (n, v) before (subst (λ s. IfSome s (λ w. w < limit)) is here))

  pub have_symbols : (limit : ℕ) → HasSymbolsBelow limit word → HaveSymbolsBelow limit (pairs_of word)
  have_symbols limit low = symbols_within limit low (length word) (omega arith)

  pub are_pairs : ArePairs (length word) (pairs_of word)
  are_pairs = record { ascending = in_order (length word); places = places_within (length word) }

  -- ---- where a message fits

  fitting_below : (m k u n : ℕ) → map (λ (p : Pair). p.0) (filter (fits m k u) (pairs_below word n)) ≡ places_below m k u word n
  fitting_below m k u zero = ap (λ (ps : List Pair). map (λ (p : Pair). p.0) (filter (fits m k u) ps)) pairs_none ∙ sym (places_below-none m k u word)
  fitting_below m k u (suc n) =
      subst (λ t. map (λ (p : Pair). p.0) (filter (fits m k u) (pairs_below word t)) ≡ places_below m k u word t) (add-one n) (
      ap (λ (ps : List Pair). map (λ (p : Pair). p.0) (filter (fits m k u) ps)) (pairs_more n)
      ∙ ap (map (λ (p : Pair). p.0)) (filter-append (fits m k u) (pairs_below word n) (pair_at n (slot_at word n)))
      ∙ map-append (λ (p : Pair). p.0) (filter (fits m k u) (pairs_below word n)) (filter (fits m k u) (pair_at n (slot_at word n)))
      ∙ ap₂ (λ (xs ys : List ℕ). xs ++ ys) (fitting_below m k u n) (one (slot_at word n))
      ∙ sym (places_below-more m k u word n))
    where
      one_fits : (v : ℕ) (b : Bool) → fits m k u (n, v) ≡ b → map (λ (p : Pair). p.0) (filter (fits m k u) ((n, v) ∷ [])) ≡ cond b (n ∷ []) []
      one_fits v b is = ap (λ (t : Bool). map (λ (p : Pair). p.0) (cond t ((n, v) ∷ []) [])) is ∙ by b
        where
          by : (b : Bool) → map (λ (p : Pair). p.0) (cond b ((n, v) ∷ []) []) ≡ cond b (n ∷ []) []
          by true = refl
          by false = refl

      one : (s : Option ℕ) → map (λ (p : Pair). p.0) (filter (fits m k u) (pair_at n s)) ≡ cond (holds_symbol s (symbol_of m k u n)) (n ∷ []) []
      one None = refl
      one (Some v) = one_fits v (v == symbol_of m k u n) refl

  pub places_fit : (m k u : ℕ) → fitting_places m k u (pairs_of word) ≡ places_of m k u word
  unfolding fitting_places
  places_fit m k u = fitting_below m k u (length word) ∙ places_below-all m k u word (length word) refl

  pub agreement_fits : (m k u : ℕ) → fitting_count m k u (pairs_of word) ≡ agreement_of m k u word
  unfolding fitting_count fitting_places agreement_of
  agreement_fits m k u = sym (length-map (filter (fits m k u) (pairs_of word)) (λ (p : Pair). p.0)) ∙ ap length (places_fit m k u)

  pub same_test : (m k c u : ℕ) → fits_enough m k (pairs_of word) c u ≡ meets_threshold m k word c u
  same_test m k c u = ap₂ (λ a b. nat_le a (b * c)) count_of (agreement_fits m k u)

  pub same_messages : (m k c : ℕ) → recovered m k (pairs_of word) c ≡ decoded m k word c
  unfolding recovered decoded
  same_messages m k c = ap (λ (test : ℕ → Bool). filter test (range_with_len 0 (2 ^ (m * k)))) (fun_ext (same_test m k c))
