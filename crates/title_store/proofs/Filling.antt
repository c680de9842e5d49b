-- Cells that are filled from the first one on.
use Rattle.std.proofs.Common.{◌≡◌, ℕ, zero, suc, ◌+◌, ◌<◌, ◌≤◌, Bool, true, false, ◌||◌, List, [], ◌∷◌, ◌++◌, length, take, replicate, Option, Some, None, Ok, Err, is_some, refl, sym, ap, ◌∙◌, arith, inl, inr}
use Rattle.std.specs.Prelude.{slice_set}
use Rattle.std.specs.List.{list_all, list_any}
use Rattle.std.specs.Str.{bytes_eq}
use Rattle.std.proofs.lemmas.Bool.{false≢true, false_from_ne_true, cases_lt}
use Rattle.std.proofs.Math.Seq.{take-length}
use Rattle.std.proofs.lemmas.List.{get_or-set_other, get_or-take, map_push, take_more_set}
use Rattle.std.proofs.lemmas.Slice.Eq.{bytes_eq-Decides}
use Rattle.form_terms.specs.declared.fault.LineFault.{LineFault}
use Rattle.form_terms.specs.Forms.{Place, fault, followed, require, give, row}
use Rattle.title_terms.specs.declared.fault.TitleKind.{TitleKind}
use Rattle.title_terms.specs.declared.fault.TitleKind.TheVariants as kinds
use Rattle.title_terms.specs.TitleText.{kinds_of_rows, digest_said, digest_form}
use Rattle.title_store.specs.Cells.{held_at, HoldsDigest, IsAbsent, filled, IsFilled}

-- ---- a full list of cells holds what stands in its digests

or_right : (a b : Bool) → b ≡ true → (a || b) ≡ true
or_right true b is = refl
or_right false b is = is

some_of : {A : Type 0} (x y : A) → (let o : Option A = Some x in o) ≡ Some y → x ≡ y
some_of x y e = cc

pub held_any : (front : List (Option (List ℕ))) (j : ℕ) (d : List ℕ) → HoldsDigest front j d → list_any (bytes_eq d) (filled front) ≡ true
held_any [] j d holds = absurd cc
held_any (None ∷ front) zero d holds = absurd cc
held_any (Some e ∷ front) zero d holds =
    let same : bytes_eq d e ≡ true = (bytes_eq-Decides d e).1 (sym (some_of e d holds)) in
    rw same refl
held_any (None ∷ front) (suc j) d holds = or_right (bytes_eq d []) (list_any (bytes_eq d) (filled front)) (held_any front j d holds)
held_any (Some e ∷ front) (suc j) d holds = or_right (bytes_eq d e) (list_any (bytes_eq d) (filled front)) (held_any front j d holds)

pub none_any : (front : List (Option (List ℕ))) (d : List ℕ) → list_all is_some front ≡ true → IsAbsent front d → list_any (bytes_eq d) (filled front) ≡ false
none_any [] d full absent = refl
none_any (None ∷ front) d full absent = absurd (false≢true full)
none_any (Some e ∷ front) d full absent =
    let other : bytes_eq d e ≡ false = false_from_ne_true (bytes_eq d e) (λ is. absent zero (ap Some (sym ((bytes_eq-Decides d e).0 is)))) in
    let rest : list_any (bytes_eq d) (filled front) ≡ false = none_any front d full (λ j holds. absent (suc j) holds) in
    rw (other, rest) refl

-- ---- the front of the cells

past_front : (cells : List (Option (List ℕ))) (i k : ℕ) → i ≤ k → held_at (take i cells) k ≡ None
past_front [] zero k le = refl
past_front [] (suc i) k le = refl
past_front (cell ∷ cells) zero k le = refl
past_front (cell ∷ cells) (suc i) zero le = absurd (omega (arith, le))
past_front (cell ∷ cells) (suc i) (suc k) le = past_front cells i k (omega (arith, le))

all_push : (front : List (Option (List ℕ))) (d : List ℕ) → list_all is_some front ≡ true → list_all is_some (front ++ Some d ∷ []) ≡ true
all_push [] d full = refl
all_push (None ∷ front) d full = absurd (false≢true full)
all_push (Some e ∷ front) d full = all_push front d full

length_set : (cells : List (Option (List ℕ))) (i : ℕ) (x : Option (List ℕ)) → length (slice_set cells i x) ≡ length cells
length_set [] i x = refl
length_set (cell ∷ cells) zero x = refl
length_set (cell ∷ cells) (suc i) x = ap suc (length_set cells i x)

module _ (cells : List (Option (List ℕ))) (i count : ℕ) (is : IsFilled cells i count) where
  pub absent_new : (d : List ℕ) → IsAbsent cells d → list_any (bytes_eq d) (filled (take i cells)) ≡ false
  absent_new d absent = none_any (take i cells) d is.front (λ k holds. elim (cases_lt k i) as (λ _. ⊥) [
    | inl lt ↦ absent k (sym (get_or-take i cells k None lt) ∙ holds)
    | inr le ↦ absurd (let none : held_at (take i cells) k ≡ None = past_front cells i k le in cc)
  ])

  pub held_old : (d : List ℕ) (j : ℕ) → HoldsDigest cells j d → list_any (bytes_eq d) (filled (take i cells)) ≡ true
  held_old d j holds = elim (cases_lt j i) as (λ _. list_any (bytes_eq d) (filled (take i cells)) ≡ true) [
    | inl lt ↦ held_any (take i cells) j d (get_or-take i cells j None lt ∙ holds)
    | inr le ↦ absurd (let none : held_at cells j ≡ None = is.rest j le in cc)
  ]

  pub one_more : (d : List ℕ) → i < count → filled (take (i + 1) (slice_set cells i (Some d))) ≡ filled (take i cells) ++ d ∷ []
  one_more d lt =
      let within : i < length cells = omega (arith, lt, is.long) in
      let taken : take (i + 1) (slice_set cells i (Some d)) ≡ take i cells ++ Some d ∷ [] = take_more_set cells i (Some d) within in
      ap filled taken ∙ map_push _ (take i cells) (Some d)

  pub grown : (d : List ℕ) → i < count → IsFilled (slice_set cells i (Some d)) (i + 1) count
  grown d lt =
      let within : i < length cells = omega (arith, lt, is.long) in
      let taken : take (i + 1) (slice_set cells i (Some d)) ≡ take i cells ++ Some d ∷ [] = take_more_set cells i (Some d) within in
      record {
        long = length_set cells i (Some d) ∙ is.long;
        front = ap (list_all is_some) taken ∙ all_push (take i cells) d is.front;
        rest = λ k le. get_or-set_other cells i k (Some d) None (λ same. omega (arith, same, le)) ∙ is.rest k (omega (arith, le));
      }

  pub all_full : i ≡ count → list_all is_some cells ≡ true
  all_full last =
      let whole : take i cells ≡ cells = ap (λ (n : ℕ). take n cells) (last ∙ sym is.long) ∙ take-length cells in
      sym (ap (list_all is_some) whole) ∙ is.front

  pub all_filled : i ≡ count → filled (take i cells) ≡ filled cells
  all_filled last = ap filled (ap (λ (n : ℕ). take n cells) (last ∙ sym is.long) ∙ take-length cells)

held_replicated : (n k : ℕ) → held_at (replicate n None) k ≡ None
held_replicated zero k = refl
held_replicated (suc n) zero = refl
held_replicated (suc n) (suc k) = held_replicated n k

pub none_filled : (cells : List (Option (List ℕ))) (count : ℕ) → cells ≡ replicate count None → length cells ≡ count → IsFilled cells zero count
none_filled cells count is long = record { long = long; front = refl; rest = λ k le. ap (λ (cs : List (Option (List ℕ))). held_at cs k) is ∙ held_replicated count k }

-- ---- the row of a digest

pub digest_new : (past : List (List ℕ)) (at after : Place) (d : List ℕ) → row kinds_of_rows digest_said at ≡ Ok (d, after) → list_any (bytes_eq d) past ≡ false → digest_form past at ≡ Ok (d, after)
unfolding digest_form followed require give
digest_new past at after d is none = rw (is, none) refl

pub digest_old : (past : List (List ℕ)) (at after : Place) (d : List ℕ) → row kinds_of_rows digest_said at ≡ Ok (d, after) → list_any (bytes_eq d) past ≡ true → digest_form past at ≡ Err (fault after.number kinds.Duplicate)
unfolding digest_form followed require give
digest_old past at after d is some = rw (is, some) refl

pub digest_bad : (past : List (List ℕ)) (at : Place) (e : LineFault TitleKind) → row kinds_of_rows digest_said at ≡ Err e → digest_form past at ≡ Err e
unfolding digest_form followed
digest_bad past at e is = rw is refl
