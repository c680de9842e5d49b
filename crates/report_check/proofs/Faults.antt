-- The first fault of a list, one of the accused after the other.
use Rattle.std.proofs.Common.{◌≡◌, ℕ, suc, ◌+◌, ◌<◌, ◌≤◌, List, ◌∷◌, length, get_or, drop, Option, Some, None, sym, ap, ap₂, ◌∙◌, arith}
use Rattle.std.specs.Option.{option_or}
use Rattle.std.proofs.lemmas.List.{drop_all}
use Rattle.std.proofs.Math.Seq.{drop-cons}
use Rattle.desk_terms.specs.declared.findings.Accused.{Accused}
use Rattle.desk_terms.specs.Roll.{Roll}
use Rattle.report_terms.specs.declared.verdict.Verdict.{Verdict}
use Rattle.report_terms.specs.Verdicts.{fault_of, first_fault}

module _ (roll : Roll) (word : List (Option ℕ)) (c : ℕ) (xs : List Accused) where
  one_more : (i position least : ℕ) (a : Accused) → i < length xs → a ≡ get_or xs i a
      → first_fault roll word c position least (drop i xs) ≡ option_or (fault_of roll word c position least a) (first_fault roll word c (position + 1) (a.serial + 1) (drop (i + 1) xs))
  unfolding first_fault
  one_more i position least a inside is =
      let on : suc i ≡ i + 1 = omega arith in
      let cut : drop i xs ≡ a ∷ drop (i + 1) xs = drop-cons xs i a inside ∙ ap₂ (λ x n. x ∷ drop n xs) (sym is) on in
      ap (first_fault roll word c position least) cut

  pub fault_here : (i position least : ℕ) (a : Accused) (fault : Verdict) → i < length xs → a ≡ get_or xs i a → Some fault ≡ fault_of roll word c position least a
      → first_fault roll word c position least (drop i xs) ≡ Some fault
  fault_here i position least a fault inside is h =
      one_more i position least a inside is ∙ ap (λ o. option_or o (first_fault roll word c (position + 1) (a.serial + 1) (drop (i + 1) xs))) (sym h)

  pub fault_later : (i position least : ℕ) (a : Accused) → i < length xs → a ≡ get_or xs i a → None ≡ fault_of roll word c position least a
      → first_fault roll word c position least (drop i xs) ≡ first_fault roll word c (position + 1) (a.serial + 1) (drop (i + 1) xs)
  fault_later i position least a inside is h =
      one_more i position least a inside is ∙ ap (λ o. option_or o (first_fault roll word c (position + 1) (a.serial + 1) (drop (i + 1) xs))) (sym h)

  pub no_fault : (i position least : ℕ) → length xs ≤ i → first_fault roll word c position least (drop i xs) ≡ None
  unfolding first_fault
  no_fault i position least over = ap (first_fault roll word c position least) (drop_all i xs over)
