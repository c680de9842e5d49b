-- A walk over the serials of a register beside a list of accused.
use Rattle.std.proofs.Common.{◌≡◌, ℕ, suc, ◌+◌, ◌-◌, ◌<◌, ◌≤◌, Bool, true, false, cond, List, [], ◌∷◌, length, drop, Option, Some, None, refl, sym, ap, ◌∙◌, arith, subst}
use Rattle.std.specs.Prelude.{◌==◌, ◌&&◌, not, nat_lt, find}
use Rattle.std.specs.List.{range_with_len}
use Rattle.std.specs.Option.{option_or}
use Rattle.std.proofs.lemmas.Bool.{ne_eqb, eqb-true, ltb-false}
use Rattle.std.proofs.lemmas.Bool.Decides.{nat_tests}
use Rattle.desk_terms.specs.declared.findings.Accused.{Accused}
use Rattle.desk_terms.specs.Findings.{is_accused}
use Rattle.desk_terms.specs.Roll.{Roll}
use Rattle.report_terms.specs.declared.verdict.Verdict.{Verdict}
use Rattle.report_terms.specs.Verdicts.{is_enrolled, has_its_places, fault_of, first_fault, is_listed, is_missed, first_missed}
use Rattle.report_check.specs.Walks.{Ascend, is_next, position_after}
use Rattle.report_check.proofs.PlaceWalks.{drop-next}

-- ---- who ascends is listed but once

eqb_false : (a b : ℕ) → (a == b) ≡ false → a ≡ b → ⊥
eqb_false a b apart same = grind (arith, nat_tests)

pub not_listed : (xs : List Accused) (least serial : ℕ) → Ascend least xs → serial < least → is_listed xs serial ≡ false
not_listed [] least serial up below = refl
not_listed (a ∷ xs) least serial up below =
    rw (ne_eqb a.serial serial (λ e. omega (arith, e, up.0, below)), not_listed xs (a.serial + 1) serial up.1 (omega (arith, up.0, below))) refl

pub ascend_from : (xs : List Accused) (least more : ℕ) → more ≤ least → Ascend least xs → Ascend more xs
ascend_from [] least more le up = tt
ascend_from (a ∷ xs) least more le up = (omega (arith, le, up.0), up.1)

module _ (roll : Roll) (word : List (Option ℕ)) (c : ℕ) (accused : List Accused) where
  -- the walk stands at this serial and at this position: those in front are done
  pub record Walks (position serial : ℕ) : Type 0 where
    pub ascend : Ascend serial (drop position accused)
    pub listed : (t : ℕ) → serial ≤ t → is_listed (drop position accused) t ≡ is_listed accused t
    pub rest : find (is_missed roll word c accused) (range_with_len serial (length roll.entries - serial)) ≡ first_missed roll word c accused

  pub walks_first : Ascend 0 accused → Walks 0 0
  unfolding first_missed
  walks_first up =
      let whole : length roll.entries - 0 ≡ length roll.entries = omega arith in
      record { ascend = up; listed = λ t le. refl; rest = ap (λ n. find (is_missed roll word c accused) (range_with_len 0 n)) whole }

  from_here : (serial : ℕ) → serial < length roll.entries
      → find (is_missed roll word c accused) (range_with_len serial (length roll.entries - serial))
      ≡ cond (is_missed roll word c accused serial) (Some serial) (find (is_missed roll word c accused) (range_with_len (serial + 1) (length roll.entries - (serial + 1))))
  from_here serial inside =
      let count : length roll.entries - serial ≡ suc (length roll.entries - (serial + 1)) = omega (arith, inside) in
      ap (λ n. find (is_missed roll word c accused) (range_with_len serial n)) count

  -- what a step makes of the rest of the list
  record Steps (serial : ℕ) (rest left : List Accused) : Type 0 where
    ascend : Ascend (serial + 1) left
    listed : (t : ℕ) → serial + 1 ≤ t → is_listed left t ≡ is_listed rest t
    passed : (not (is_listed rest serial) && is_accused roll word c serial) ≡ false

  by_threshold : (rest : List Accused) (position serial next : ℕ) (meets : Bool) → is_accused roll word c serial ≡ meets → cond meets None (Some position) ≡ Some next → is_listed rest serial ≡ false → Ascend (serial + 1) rest
      → (position ≡ next) × Steps serial rest rest
  by_threshold rest position serial next true is h none up = absurd cc
  by_threshold rest position serial next false is h none up = (cc, record { ascend = up; listed = λ t le. refl; passed = rw (none, is) refl })

  at_first : (a : Accused) (more : List Accused) (position serial next : ℕ) (here : Bool) → (a.serial == serial) ≡ here → Ascend serial (a ∷ more) → drop position accused ≡ a ∷ more
      → cond here (Some (position + 1)) (cond (is_accused roll word c serial) None (Some position)) ≡ Some next → Steps serial (a ∷ more) (drop next accused)
  at_first a more position serial next true is up cut h =
      let on : position + 1 ≡ next = cc in
      let same : a.serial ≡ serial = eqb-true a.serial serial is in
      let left : drop next accused ≡ more = ap (λ n. drop n accused) (sym on) ∙ drop-next accused position a more cut in
      subst (λ (xs : List Accused). Steps serial (a ∷ more) xs) (sym left) (record {
        ascend = subst (λ s. Ascend (s + 1) more) same up.1;
        listed = λ t le. rw (ne_eqb a.serial t (λ e. omega (arith, e, le, same))) refl;
        passed = rw is refl;
      })
  at_first a more position serial next false is up cut h =
      let apart = eqb_false a.serial serial is in
      let above : serial + 1 ≤ a.serial = grind (arith, up.0, apart) in
      let higher : Ascend (serial + 1) (a ∷ more) = (above, up.1) in
      let none : is_listed (a ∷ more) serial ≡ false = not_listed (a ∷ more) (serial + 1) serial higher (omega arith) in
      let stayed = by_threshold (a ∷ more) position serial next (is_accused roll word c serial) refl h none higher in
      subst (λ (xs : List Accused). Steps serial (a ∷ more) xs) (sym cut ∙ ap (λ n. drop n accused) stayed.0) stayed.1

  steps_from : (rest : List Accused) (position serial next : ℕ) → Ascend serial rest → drop position accused ≡ rest → position_after rest position serial (is_accused roll word c serial) ≡ Some next
      → Steps serial rest (drop next accused)
  steps_from [] position serial next up cut h =
      let stayed = by_threshold [] position serial next (is_accused roll word c serial) refl h refl tt in
      subst (λ (xs : List Accused). Steps serial [] xs) (sym cut ∙ ap (λ n. drop n accused) stayed.0) stayed.1
  steps_from (a ∷ more) position serial next up cut h = at_first a more position serial next (a.serial == serial) refl up cut h

  pub walks_next : (position serial next : ℕ) → serial < length roll.entries → Walks position serial → position_after (drop position accused) position serial (is_accused roll word c serial) ≡ Some next
      → Walks next (serial + 1)
  walks_next position serial next inside at h =
      let on = steps_from (drop position accused) position serial next at.ascend refl h in
      let passed : is_missed roll word c accused serial ≡ false = ap (λ b. not b && is_accused roll word c serial) (sym (at.listed serial (omega arith))) ∙ on.passed in
      record {
        ascend = on.ascend;
        listed = λ t le. on.listed t le ∙ at.listed t (omega (arith, le));
        rest =
            sym (from_here serial inside ∙ ap (λ b. cond b (Some serial) (find (is_missed roll word c accused) (range_with_len (serial + 1) (length roll.entries - (serial + 1))))) passed) ∙ at.rest;
      }

  is_none : (next meets : Bool) (position : ℕ) → cond next (Some (position + 1)) (cond meets None (Some position)) ≡ None → (next ≡ false) × (meets ≡ true)
  is_none true meets position h = absurd cc
  is_none false true position h = (refl, refl)
  is_none false false position h = absurd cc

  not_there : (rest : List Accused) (serial : ℕ) → Ascend serial rest → is_next rest serial ≡ false → is_listed rest serial ≡ false
  not_there [] serial up next = refl
  not_there (a ∷ more) serial up next = rw (next, not_listed more (a.serial + 1) serial up.1 (omega (arith, up.0))) refl

  pub walks_stop : (position serial : ℕ) → serial < length roll.entries → Walks position serial → position_after (drop position accused) position serial (is_accused roll word c serial) ≡ None
      → first_missed roll word c accused ≡ Some serial
  walks_stop position serial inside at h =
      let both = is_none (is_next (drop position accused) serial) (is_accused roll word c serial) position h in
      let unlisted : is_listed accused serial ≡ false = sym (at.listed serial (omega arith)) ∙ not_there (drop position accused) serial at.ascend both.0 in
      let missed : is_missed roll word c accused serial ≡ true = rw (unlisted, both.1) refl in
      sym at.rest ∙ from_here serial inside ∙ ap (λ b. cond b (Some serial) (find (is_missed roll word c accused) (range_with_len (serial + 1) (length roll.entries - (serial + 1))))) missed

  pub walks_end : (position serial : ℕ) → length roll.entries ≤ serial → Walks position serial → first_missed roll word c accused ≡ None
  walks_end position serial over at =
      let none : length roll.entries - serial ≡ 0 = omega (arith, over) in
      sym at.rest ∙ ap (λ n. find (is_missed roll word c accused) (range_with_len serial n)) none

-- ---- a list without fault ascends

both_none : {X : Type 0} (o p : Option X) → option_or o p ≡ None → (o ≡ None) × (p ≡ None)
both_none None p h = (refl, h)
both_none (Some x) p h = absurd cc

no_order : (enrolled order places meets : Bool) (position : ℕ) (x y z w : Verdict) → cond (not enrolled) (Some x) (cond order (Some y) (cond (not places) (Some z) (cond (not meets) (Some w) None))) ≡ None → order ≡ false
no_order false order places meets position x y z w h = absurd cc
no_order true true places meets position x y z w h = absurd cc
no_order true false places meets position x y z w h = refl

pub ascends : (roll : Roll) (word : List (Option ℕ)) (c position least : ℕ) (xs : List Accused) → first_fault roll word c position least xs ≡ None → Ascend least xs
unfolding first_fault fault_of
ascends roll word c position least [] h = tt
ascends roll word c position least (a ∷ xs) h =
    let both = both_none (fault_of roll word c position least a) (first_fault roll word c (position + 1) (a.serial + 1) xs) h in
    let order : nat_lt a.serial least ≡ false = no_order (is_enrolled roll a) (nat_lt a.serial least) (has_its_places roll word a) (is_accused roll word c a.serial) position _ _ _ _ both.0 in
    (ltb-false a.serial least order, ascends roll word c (position + 1) (a.serial + 1) xs both.1)
