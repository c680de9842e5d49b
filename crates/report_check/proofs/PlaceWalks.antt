-- A walk over the places of a word beside a list of places.
use Rattle.std.proofs.Common.{◌≡◌, ℕ, zero, suc, ◌+◌, ◌-◌, ◌<◌, ◌≤◌, Bool, true, false, cond, List, [], ◌∷◌, length, drop, filter, Option, Some, None, refl, sym, ap, ◌∙◌, arith, eq-eqb}
use Rattle.std.specs.Prelude.{◌==◌}
use Rattle.std.specs.List.{range_with_len}
use Rattle.std.specs.Str.{bytes_eq}
use Rattle.std.proofs.lemmas.Bool.{ne_eqb}
use Rattle.std.proofs.lemmas.List.{length-drop}
use Rattle.code_terms.specs.Words.{agrees, places_of}
use Rattle.report_check.specs.Walks.{place_after}

-- what is left to compare: the rest of the list with the places from here on
pub record Remains (m k u : ℕ) (word : List (Option ℕ)) (places : List ℕ) (position place : ℕ) : Type 0 where
  pub within : position ≤ length places
  pub same : bytes_eq (drop position places) (filter (agrees m k u word) (range_with_len place (length word - place))) ≡ bytes_eq places (places_of m k u word)

pub drop-next : {X : Type 0} (xs : List X) (i : ℕ) (x : X) (rest : List X) → drop i xs ≡ x ∷ rest → drop (i + 1) xs ≡ rest
drop-next [] zero x rest h = cc
drop-next [] (suc i) x rest h = cc
drop-next (y ∷ ys) zero x rest h = cc
drop-next (y ∷ ys) (suc i) x rest h =
    let on : suc i + 1 ≡ suc (i + 1) = omega arith in
    ap (λ n. drop n (y ∷ ys)) on ∙ drop-next ys i x rest h

-- there is one where something is left
pub left_within : {X : Type 0} (xs : List X) (i : ℕ) (x : X) (rest : List X) → drop i xs ≡ x ∷ rest → i < length xs
left_within [] zero x rest h = absurd cc
left_within [] (suc i) x rest h = absurd cc
left_within (y ∷ ys) zero x rest h = omega arith
left_within (y ∷ ys) (suc i) x rest h = omega (arith, left_within ys i x rest h)

-- how the rest goes on
record GoesOn (places : List ℕ) (rest : List ℕ) (agree : Bool) (more : List ℕ) (place next : ℕ) : Type 0 where
  inside : next ≤ length places
  alike : bytes_eq rest (cond agree (place ∷ more) more) ≡ bytes_eq (drop next places) more

chosen : (places : List ℕ) (position place next x : ℕ) (tail more : List ℕ) (is : Bool) → (x == place) ≡ is → drop position places ≡ x ∷ tail → cond is (Some (position + 1)) None ≡ Some next
    → GoesOn places (x ∷ tail) true more place next
chosen places position place next x tail more false equal cut h = absurd cc
chosen places position place next x tail more true equal cut h =
    let on : position + 1 ≡ next = cc in
    let front : bytes_eq (x ∷ tail) (place ∷ more) ≡ bytes_eq tail more = rw equal refl in
    record {
      inside = omega (arith, left_within places position x tail cut, on);
      alike = front ∙ ap (λ t. bytes_eq t more) (sym (drop-next places position x tail cut) ∙ ap (λ n. drop n places) on);
    }

goes_on : (places : List ℕ) (position place next : ℕ) (agree : Bool) (rest more : List ℕ) → position ≤ length places → drop position places ≡ rest → place_after rest position agree place ≡ Some next
    → GoesOn places rest agree more place next
goes_on places position place next false rest more within cut h =
    let on : position ≡ next = cc in
    record { inside = omega (arith, within, on); alike = ap (λ t. bytes_eq t more) (sym cut ∙ ap (λ n. drop n places) on) }
goes_on places position place next true [] more within cut h = absurd cc
goes_on places position place next true (x ∷ tail) more within cut h = chosen places position place next x tail more (x == place) refl cut h

refused : (position place x : ℕ) (tail more : List ℕ) (is : Bool) → (x == place) ≡ is → cond is (Some (position + 1)) None ≡ None → bytes_eq (x ∷ tail) (place ∷ more) ≡ false
refused position place x tail more true equal h = absurd cc
refused position place x tail more false equal h = rw equal refl

stops : (position place : ℕ) (agree : Bool) (rest more : List ℕ) → place_after rest position agree place ≡ None → bytes_eq rest (cond agree (place ∷ more) more) ≡ false
stops position place false rest more h = absurd cc
stops position place true [] more h = refl
stops position place true (x ∷ tail) more h = refused position place x tail more (x == place) refl h

module _ (m k u : ℕ) (word : List (Option ℕ)) (places : List ℕ) where
  pub remains_first : Remains m k u word places 0 0
  unfolding places_of
  remains_first =
      let whole : length word - 0 ≡ length word = omega arith in
      record { within = omega arith; same = ap (λ n. bytes_eq places (filter (agrees m k u word) (range_with_len 0 n))) whole }

  from_here : (place : ℕ) → place < length word
      → filter (agrees m k u word) (range_with_len place (length word - place)) ≡ cond (agrees m k u word place) (place ∷ filter (agrees m k u word) (range_with_len (place + 1) (length word - (place + 1)))) (filter (agrees m k u word) (range_with_len (place + 1) (length word - (place + 1))))
  from_here place inside =
      let count : length word - place ≡ suc (length word - (place + 1)) = omega (arith, inside) in
      ap (λ n. filter (agrees m k u word) (range_with_len place n)) count

  pub remains_next : (position place next : ℕ) → place < length word → Remains m k u word places position place → place_after (drop position places) position (agrees m k u word place) place ≡ Some next
      → Remains m k u word places next (place + 1)
  remains_next position place next inside are h =
      let more = filter (agrees m k u word) (range_with_len (place + 1) (length word - (place + 1))) in
      let on = goes_on places position place next (agrees m k u word place) (drop position places) more are.within refl h in
      record { within = on.inside; same = sym on.alike ∙ sym (ap (bytes_eq (drop position places)) (from_here place inside)) ∙ are.same }

  pub remains_stop : (position place : ℕ) → place < length word → Remains m k u word places position place → place_after (drop position places) position (agrees m k u word place) place ≡ None
      → bytes_eq places (places_of m k u word) ≡ false
  remains_stop position place inside are h =
      let more = filter (agrees m k u word) (range_with_len (place + 1) (length word - (place + 1))) in
      sym are.same ∙ ap (bytes_eq (drop position places)) (from_here place inside) ∙ stops position place (agrees m k u word place) (drop position places) more h

  pub remains_end : (position place : ℕ) → length word ≤ place → Remains m k u word places position place → (position == length places) ≡ bytes_eq places (places_of m k u word)
  remains_end position place over are =
      let none : length word - place ≡ 0 = omega (arith, over) in
      let empty : filter (agrees m k u word) (range_with_len place (length word - place)) ≡ [] = ap (λ n. filter (agrees m k u word) (range_with_len place n)) none in
      at_end (drop position places) refl ∙ sym (ap (bytes_eq (drop position places)) empty) ∙ are.same
    where
      at_end : (rest : List ℕ) → drop position places ≡ rest → (position == length places) ≡ bytes_eq rest []
      at_end [] cut = eq-eqb position (length places) (omega (arith, are.within, length-drop position places, ap length cut))
      at_end (x ∷ tail) cut = ne_eqb position (length places) (λ e. omega (arith, e, left_within places position x tail cut))
