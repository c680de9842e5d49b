-- The pivot among the first curves.
use Rattle.std.proofs.Common.{◌≡◌, ◌≢◌, ◌⊎◌, inl, inr, ℕ, ◌+◌, ◌<◌, ◌≤◌, Bool, true, false, List, length, Option, None, Some, refl, ◌∙◌, sym, ap, subst, arith}
use Rattle.std.specs.Prelude.{slice_index_or, nat_lt, if◌then◌else◌}
use Rattle.std.specs.Option.{unwrap_or}
use Rattle.std.proofs.lemmas.Bool.{cases_lt}
use Rattle.std.proofs.lemmas.Bool.Decides.{nat_tests}
use Rattle.std.proofs.lemmas.List.{get_or_past}
use Rattle.algebra.specs.Ring.{Ring}
use Rattle.gs_koetter.specs.declared.cancelling.Candidate.{Candidate}
use Rattle.gs_koetter.specs.declared.curve.Curve.{Curve}
use Rattle.gs_koetter.specs.Shapes.{IsPivot, at_place, better, slot}

pub one_some : {X : Type 0} (x y : X) (o : Option X) → o ≡ Some x → o ≡ Some y → x ≡ y
one_some x y o e f = ap (λ t. unwrap_or t x) (sym e ∙ f)

pub not_some : {X : Type 0} (x : X) (o : Option X) → o ≡ None → o ≡ Some x → ⊥
not_some x o e f = subst Holds (sym f ∙ e) tt
  where
    Holds : {X : Type 0} → Option X → Type 0
    Holds None = ⊥
    Holds (Some x) = Unit {0}

-- what stands in a list of options stands before its end
pub inside_some : {X : Type 0} (xs : List (Option X)) (p : ℕ) (x : X) → slice_index_or xs p None ≡ Some x → p < length xs
inside_some xs p x is = by_order (cases_lt p (length xs))
  where
    by_order : (p < length xs) ⊎ (length xs ≤ p) → p < length xs
    by_order (inl less) = less
    by_order (inr most) = absurd (not_some x (slice_index_or xs p None) (get_or_past xs p None most) is)

lt_of_test : (m n : ℕ) → nat_lt m n ≡ true → m < n
lt_of_test m n t = grind (arith, nat_tests)

le_of_test : (m n : ℕ) → nat_lt m n ≡ false → n ≤ m
le_of_test m n t = grind (arith, nat_tests)

module _ {F : Type 0} (R : Ring F) (place : ℕ) (curves : List (Option (Curve F))) where
  open R use {nil}

  -- of the first n curves the one that is found is the least whose derivative there is not zero
  pub record IsFirst (n : ℕ) (best : Candidate) : Type 0 where
    pub pivot : Curve F
    pub stands : slot curves best.place ≡ Some pivot
    pub nonzero : at_place R place pivot ≢ nil
    pub long : best.len ≡ pivot.len
    pub others : (j : ℕ) (c : Curve F) → j < n → slot curves j ≡ Some c → at_place R place c ≢ nil → best.len ≤ c.len

  abbrev pub SoFar : ℕ → Option Candidate → Type 0
  SoFar n None = (j : ℕ) (c : Curve F) → j < n → slot curves j ≡ Some c → at_place R place c ≡ nil
  SoFar n (Some best) = IsFirst n best

  split : (n j : ℕ) → j < n + 1 → (j < n) ⊎ (j ≡ n)
  split n j l = by_order (cases_lt j n)
    where
      by_order : (j < n) ⊎ (n ≤ j) → (j < n) ⊎ (j ≡ n)
      by_order (inl less) = inl less
      by_order (inr most) = inr (omega (arith, most, l))

  -- the next curve has none, or is dropped
  none_more : (n : ℕ) (best : Option Candidate) → ((c : Curve F) → slot curves n ≡ Some c → at_place R place c ≡ nil) → SoFar n best → SoFar (n + 1) best
  none_more n None none before = λ j c l is. by_order j c is (split n j l)
    where
      by_order : (j : ℕ) (c : Curve F) → slot curves j ≡ Some c → (j < n) ⊎ (j ≡ n) → at_place R place c ≡ nil
      by_order j c is (inl less) = before j c less is
      by_order j c is (inr same) = none c (ap (slot curves) (sym same) ∙ is)
  none_more n (Some first) none before = record {
    pivot = before.pivot;
    stands = before.stands;
    nonzero = before.nonzero;
    long = before.long;
    others = λ j c l is some. by_order j c is some (split n j l);
  }
    where
      by_order : (j : ℕ) (c : Curve F) → slot curves j ≡ Some c → at_place R place c ≢ nil → (j < n) ⊎ (j ≡ n) → first.len ≤ c.len
      by_order j c is some (inl less) = before.others j c less is some
      by_order j c is some (inr same) = absurd (some (none c (ap (slot curves) (sym same) ∙ is)))

  module _ (n long : ℕ) (c : Curve F) (is : slot curves n ≡ Some c) (long_is : long ≡ c.len) where
    here : (j : ℕ) (d : Curve F) → slot curves j ≡ Some d → j ≡ n → long ≡ d.len
    here j d there same =
        let one : c ≡ d = one_some c d (slot curves n) is (ap (slot curves) (sym same) ∙ there) in
        let lens : c.len ≡ d.len = ap (λ (x : Curve F). x.len) one in
        omega (arith, long_is, lens)

    -- the next curve is no shorter
    kept_first : (first : Candidate) → first.len ≤ long → IsFirst n first → IsFirst (n + 1) first
    kept_first first most before = record {
      pivot = before.pivot;
      stands = before.stands;
      nonzero = before.nonzero;
      long = before.long;
      others = λ j d l there some. by_order j d there some (split n j l);
    }
      where
        by_order : (j : ℕ) (d : Curve F) → slot curves j ≡ Some d → at_place R place d ≢ nil → (j < n) ⊎ (j ≡ n) → first.len ≤ d.len
        by_order j d there some (inl less) = before.others j d less there some
        by_order j d there some (inr same) = omega (arith, most, here j d there same)

    -- the next curve is the pivot
    new_first : at_place R place c ≢ nil → ((j : ℕ) (d : Curve F) → j < n → slot curves j ≡ Some d → at_place R place d ≢ nil → long ≤ d.len) → IsFirst (n + 1) (record { place = n; len = long })
    new_first some earlier = record {
      pivot = c;
      stands = is;
      nonzero = some;
      long = long_is;
      others = λ j d l there other. by_order j d there other (split n j l);
    }
      where
        by_order : (j : ℕ) (d : Curve F) → slot curves j ≡ Some d → at_place R place d ≢ nil → (j < n) ⊎ (j ≡ n) → long ≤ d.len
        by_order j d there other (inl less) = earlier j d less there other
        by_order j d there other (inr same) = omega (arith, here j d there same)

  -- one curve more
  pub better_more : (n : ℕ) (best : Option Candidate) (length : Option ℕ) → SoFar n best → (length ≡ None → (c : Curve F) → slot curves n ≡ Some c → at_place R place c ≡ nil)
      → ((long : ℕ) → length ≡ Some long → (c : Curve F) × (slot curves n ≡ Some c) × (at_place R place c ≢ nil) × (long ≡ c.len)) → SoFar (n + 1) (better best n length)
  better_more n best None before none some = none_more n best (none refl) before
  better_more n None (Some long) before none some =
      let found = some long refl in
      new_first n long found.0 found.1 found.3 found.2 (λ j d l there other. absurd (other (before j d l there)))
  better_more n (Some first) (Some long) before none some =
      let found = some long refl in
      by_test (nat_lt long first.len) refl found
    where
      by_test : (b : Bool) → nat_lt long first.len ≡ b → (c : Curve F) × (slot curves n ≡ Some c) × (at_place R place c ≢ nil) × (long ≡ c.len)
          → SoFar (n + 1) (if b then Some (record { place = n; len = long }) else Some first)
      by_test true t found =
          let less : long < first.len = lt_of_test long first.len t in
          new_first n long found.0 found.1 found.3 found.2 (λ j d l there other. let m = before.others j d l there other in omega (arith, less, m))
      by_test false t found =
          let most : first.len ≤ long = le_of_test long first.len t in
          kept_first n long found.0 found.1 found.3 first most before

  pub pivot_found : (n : ℕ) (first : Candidate) → length curves ≤ n → IsFirst n first → IsPivot R place curves first.place
  pivot_found n first l is = record {
    pivot = is.pivot;
    stands = is.stands;
    nonzero = is.nonzero;
    least = λ j c there some. let inside = inside_some curves j c there in let m = is.others j c (omega (arith, inside, l)) there some in omega (arith, m, is.long);
  }

  pub none_found : (n : ℕ) → length curves ≤ n → SoFar n None → (j : ℕ) (c : Curve F) → slot curves j ≡ Some c → at_place R place c ≡ nil
  none_found n l are j c there = let inside = inside_some curves j c there in are j c (omega (arith, inside, l)) there
