-- The marks of a title, gone along once.
use Rattle.std.proofs.Common.{◌≡◌, ◌≢◌, ◌∙◌, sym, ap, ℕ, ◌+◌, ◌<◌, ◌≤◌, Bool, false, eqb, List, length, get_or, Option, Some, None, refl, inl, inr, arith}
use Rattle.std.specs.Prelude.{slice_get}
use Rattle.std.specs.List.{position, position_or_len}
use Rattle.std.specs.List.Sorted.{IsStrictlyIncreasing}
use Rattle.std.proofs.lemmas.Bool.{eq-eqb, ne_eqb, lt-ltb, cases_lt, le-ltb}
use Rattle.std.proofs.lemmas.List.Kept.{AllPairs-from_increasing}
use Rattle.std.proofs.lemmas.List.Sums.{position_or_len_is}
use Rattle.std.proofs.lemmas.Option.{get_or_from_slice_get}
use Rattle.packager.specs.Marking.{IsNext}

-- the place of a segment, and what is next behind it
pub record Goes (marked : List ℕ) (i upto : ℕ) (found : Option ℕ) : Type 0 where
  pub place : found ≡ position (λ mark. eqb mark i) marked
  pub next : IsNext marked (i + 1) upto

pub at_next : (marked : List ℕ) (i next : ℕ) → IsStrictlyIncreasing marked → IsNext marked i next → next < length marked → get_or marked next 0 ≡ i
    → Goes marked i (next + 1) (Some next)
at_next marked i next rising n inside is =
    let rises = AllPairs-from_increasing marked rising in
    let p : ℕ → Bool = λ mark. eqb mark i in
    let earlier : (k : ℕ) → k < next → p (get_or marked k 0) ≡ false = λ k lt. let below = n.passed k lt in ne_eqb (get_or marked k 0) i (λ same. omega (arith, below, same)) in
    let first : position_or_len p marked ≡ next = position_or_len_is p marked next 0 (omega (arith, inside)) earlier (λ _. eq-eqb (get_or marked next 0) i is) in
    record {
      place = sym (rw (first, lt-ltb next (length marked) inside) refl);
      next = record {
        within = omega (arith, inside);
        passed = λ k lt. elim (cases_lt k next) [
          | inl below ↦ let past = n.passed k below in omega (arith, past)
          | inr le ↦ let same : k ≡ next = omega (arith, le, lt) in let here : get_or marked k 0 ≡ i = ap (λ j. get_or marked j 0) same ∙ is in omega (arith, here)
        ];
        coming = λ k le lt. let above = rises next k 0 (omega (arith, le)) lt in omega (arith, above, is);
      };
    }

-- the next mark, if there is one, is another
pub before_next : (marked : List ℕ) (i next : ℕ) → IsStrictlyIncreasing marked → IsNext marked i next → (next < length marked → get_or marked next 0 ≢ i)
    → Goes marked i next None
before_next marked i next rising n other =
    let rises = AllPairs-from_increasing marked rising in
    let p : ℕ → Bool = λ mark. eqb mark i in
    let above : (k : ℕ) → next ≤ k → k < length marked → i < get_or marked k 0 =
    λ k le lt. elim (cases_lt next k) [
      | inl below ↦ let more = rises next k 0 below lt in let first = n.coming next (omega arith) (omega (arith, below, lt)) in omega (arith, more, first)
      | inr same ↦ let here : next ≡ k = omega (arith, le, same) in
          let first = n.coming k le lt in
          let differs : get_or marked k 0 ≢ i = λ is. other (omega (arith, here, lt)) (ap (λ j. get_or marked j 0) here ∙ is) in omega (arith, first, differs)
    ] in
    let none : (k : ℕ) → k < length marked → p (get_or marked k 0) ≡ false =
    λ k lt. ne_eqb (get_or marked k 0) i (λ same. elim (cases_lt k next) [
      | inl below ↦ let past = n.passed k below in omega (arith, past, same)
      | inr le ↦ let more = above k le lt in omega (arith, more, same)
    ]) in
    let last : position_or_len p marked ≡ length marked = position_or_len_is p marked (length marked) 0 (omega arith) none (λ lt. absurd (omega (arith, lt))) in
    record {
      place = sym (rw (last, le-ltb (length marked) (length marked) (omega arith)) refl);
      next = record {
        within = n.within;
        passed = λ k lt. let past = n.passed k lt in omega (arith, past);
        coming = λ k le lt. let more = above k le lt in omega (arith, more);
      };
    }

-- behind the last mark
pub behind_all : (marked : List ℕ) (i next : ℕ) → IsStrictlyIncreasing marked → IsNext marked i next → length marked ≤ next → Goes marked i next None
behind_all marked i next rising n past = before_next marked i next rising n (λ lt is. absurd (omega (arith, lt, past)))

-- the next mark is of a later segment
pub before_mark : (marked : List ℕ) (i next mark : ℕ) → IsStrictlyIncreasing marked → IsNext marked i next → slice_get marked next ≡ Some mark → mark ≢ i → Goes marked i next None
before_mark marked i next mark rising n held other = before_next marked i next rising n (λ lt is. other (sym (get_or_from_slice_get marked next mark 0 held) ∙ is))

-- the next mark is of this segment
pub at_mark : (marked : List ℕ) (i next mark : ℕ) → IsStrictlyIncreasing marked → IsNext marked i next → next < length marked → slice_get marked next ≡ Some mark → mark ≡ i → Goes marked i (next + 1) (Some next)
at_mark marked i next mark rising n inside held is = at_next marked i next rising n inside (get_or_from_slice_get marked next mark 0 held ∙ is)
