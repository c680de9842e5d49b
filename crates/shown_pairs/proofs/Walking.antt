-- A walk over pairs, pair by pair.
use Rattle.std.proofs.Common.{◌≡◌, inl, inr, ℕ, zero, suc, ◌+◌, ◌*◌, ◌^◌, ◌<◌, ◌≤◌, Bool, true, false, if◌then◌else◌, List, [], ◌∷◌, ◌++◌, length, take, map, get_or, filter, refl, sym, ◌∙◌, ap, arith}
use mir.Val.{bool_byte}
use Rattle.std.proofs.Math.Pow.{pow_mono}
use Rattle.std.proofs.Math.Nat.{mul-le-mul_right}
use Rattle.std.proofs.Math.Seq.{take-length}
use Rattle.std.proofs.lemmas.List.{take_more, map-append, length-append}
use Rattle.std.proofs.lemmas.List.Elements.{filter-append}
use Rattle.code_terms.specs.Symbols.{symbol_of}
use Rattle.pair_terms.specs.Pairs.{Pair, IsBefore, ArePairs, fits, fitting_places, fitting_count}
use Rattle.shown_pairs.specs.Walks.{StandsBefore}

pub at_start : (m k u n : ℕ) (pairs : List Pair) → StandsBefore m k u n pairs 0 0 0
at_start m k u n pairs = record {
  within = omega arith;
  ahead = λ j d l m. omega arith;
  known = λ last is. absurd (omega arith);
}

no_later : (p q : Pair) → IsBefore p q → p.0 ≤ q.0
no_later p q (inl less) = omega arith
no_later p q (inr same) = omega (arith, same.0)

one_value : (pairs : List Pair) (i : ℕ) (d e : Pair) → i < length pairs → get_or pairs i d ≡ get_or pairs i e
one_value [] i d e inside = absurd (omega arith)
one_value (p ∷ pairs) zero d e inside = refl
one_value (p ∷ pairs) (suc i) d e inside = one_value pairs i d e (omega arith)

-- the products of a place that is passed
pub passed_more : (old place k start end : ℕ) → old < place + 1 → end ≤ start + k → end + old * k ≤ start + (place + 1) * k
passed_more old place k start end less few =
    let more : (old + 1) * k ≤ (place + 1) * k = mul-le-mul_right k (omega arith) in
    let split : (old + 1) * k ≡ old * k + k = omega arith in
    omega arith

pub all_passed : (passed n k start end : ℕ) → passed ≤ n → end ≤ start + passed * k → end ≤ start + n * k
all_passed passed n k start end less few = let more : passed * k ≤ n * k = mul-le-mul_right k less in omega arith

module _ (n m k u : ℕ) (pairs : List Pair) (are : ArePairs n pairs) (i : ℕ) (inside : i < length pairs) where
  pub place_within : (get_or pairs i (0, 0)).0 < n
  place_within = are.places i (0, 0) inside

  pub step : (passed symbol : ℕ) → passed ≡ (get_or pairs i (0, 0)).0 + 1 → symbol ≡ symbol_of m k u (get_or pairs i (0, 0)).0 → StandsBefore m k u n pairs (i + 1) passed symbol
  step passed symbol is known =
      let below : (get_or pairs i (0, 0)).0 < n = place_within in
      record {
        within = omega arith;
        ahead = λ j d l m.
            let order : IsBefore (get_or pairs i d) (get_or pairs j d) = are.ascending i j d (omega arith) m in
            let low : (get_or pairs i d).0 ≤ (get_or pairs j d).0 = no_later (get_or pairs i d) (get_or pairs j d) order in
            let one : get_or pairs i (0, 0) ≡ get_or pairs i d = one_value pairs i (0, 0) d inside in
            let place : (get_or pairs i (0, 0)).0 ≡ (get_or pairs i d).0 = ap (λ (q : Pair). q.0) one in
            omega arith;
        known = λ last at. let there : last ≡ (get_or pairs i (0, 0)).0 = omega arith in known ∙ ap (symbol_of m k u) (sym there);
      }

-- ---- what is gathered

module _ (m k u : ℕ) (pairs : List Pair) (i : ℕ) (inside : i < length pairs) (b : Bool) (test : b ≡ fits m k u (get_or pairs i (0, 0))) where
  p : Pair
  p = get_or pairs i (0, 0)

  next : take (i + 1) pairs ≡ take i pairs ++ p ∷ []
  unfolding p
  next = take_more pairs i (0, 0) inside

  kept_next : filter (fits m k u) (take (i + 1) pairs) ≡ filter (fits m k u) (take i pairs) ++ (if b then p ∷ [] else [])
  unfolding p
  kept_next =
      ap (filter (fits m k u)) next
      ∙ filter-append (fits m k u) (take i pairs) (p ∷ [])
      ∙ ap (λ (t : Bool). filter (fits m k u) (take i pairs) ++ (if t then p ∷ [] else [])) (sym test)

  pub count_next : (before : ℕ) → before ≡ fitting_count m k u (take i pairs) → before + bool_byte b ≡ fitting_count m k u (take (i + 1) pairs)
  unfolding fitting_count
  count_next before is =
      ap (λ t. t + bool_byte b) is
      ∙ sym (ap length kept_next ∙ length-append (filter (fits m k u) (take i pairs)) (if b then p ∷ [] else []) ∙ ap (λ t. length (filter (fits m k u) (take i pairs)) + t) (by b))
    where
      by : (b : Bool) → length (if b then p ∷ [] else []) ≡ bool_byte b
      by true = refl
      by false = refl

  pub places_next : (before after : List ℕ) (place : ℕ) → place ≡ (get_or pairs i (0, 0)).0 → before ≡ fitting_places m k u (take i pairs) → after ≡ before ++ (if b then place ∷ [] else []) → after ≡ fitting_places m k u (take (i + 1) pairs)
  unfolding fitting_places p
  places_next before after place same is added =
      added
      ∙ ap (λ t. t ++ (if b then place ∷ [] else [])) is
      ∙ ap (λ t. map (λ (q : Pair). q.0) (filter (fits m k u) (take i pairs)) ++ (if b then t ∷ [] else [])) same
      ∙ ap (λ t. map (λ (q : Pair). q.0) (filter (fits m k u) (take i pairs)) ++ t) (sym (by b))
      ∙ sym (map-append (λ (q : Pair). q.0) (filter (fits m k u) (take i pairs)) (if b then p ∷ [] else []))
      ∙ ap (map (λ (q : Pair). q.0)) (sym kept_next)
    where
      by : (b : Bool) → map (λ (q : Pair). q.0) (if b then p ∷ [] else []) ≡ (if b then p.0 ∷ [] else [])
      by true = refl
      by false = refl

pub counted_all : (m k u : ℕ) (pairs : List Pair) (n : ℕ) → n ≡ length pairs → fitting_count m k u (take n pairs) ≡ fitting_count m k u pairs
counted_all m k u pairs n is = ap (λ t. fitting_count m k u (take t pairs)) is ∙ ap (fitting_count m k u) (take-length pairs)

pub placed_all : (m k u : ℕ) (pairs : List Pair) (n : ℕ) → n ≡ length pairs → fitting_places m k u (take n pairs) ≡ fitting_places m k u pairs
placed_all m k u pairs n is = ap (λ t. fitting_places m k u (take t pairs)) is ∙ ap (fitting_places m k u) (take-length pairs)

pub nothing_counted : (m k u : ℕ) → 0 ≡ fitting_count m k u []
unfolding fitting_count
nothing_counted m k u = refl

pub nothing_placed : (m k u : ℕ) → [] ≡ fitting_places m k u []
unfolding fitting_places
nothing_placed m k u = refl

pub one_more : (b : Bool) (count i : ℕ) → count ≤ i → count + bool_byte b ≤ i + 1
one_more true count i l = omega arith
one_more false count i l = omega arith

pub few_elements : (size bits : ℕ) → size ≡ 2 ^ bits → bits ≤ 8 → size ≤ 256
few_elements size bits e l = let most : 2 ^ bits ≤ 2 ^ 8 = pow_mono l in omega arith
