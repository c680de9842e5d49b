-- A list of accused that is right, and those who are found.
use Rattle.std.proofs.Common.{◌≡◌, ℕ, zero, suc, ◌+◌, ◌<◌, ◌≤◌, Bool, true, false, cond, List, [], ◌∷◌, length, map, filter, Option, Some, None, refl, sym, ap, ap₂, ◌∙◌, arith, subst, eq-eqb, ◌⊎◌, inl, inr}
use Rattle.std.specs.Prelude.{◌==◌, ◌||◌, not, nat_lt, find}
use Rattle.std.specs.List.{range_with_len}
use Rattle.std.specs.Option.{option_or}
use Rattle.std.specs.Str.{bytes_eq}
use Rattle.std.proofs.lemmas.Bool.{ne_eqb, eqb-true, lt-ltb, ltb-true, ltb-false, true≢false, and_parts, cases_eq}
use Rattle.std.proofs.lemmas.Bool.Decides.{nat_tests}
use Rattle.std.proofs.lemmas.Slice.Eq.{bytes_eq-Decides}
use Rattle.desk_terms.specs.declared.findings.Accused.{Accused}
use Rattle.desk_terms.specs.Findings.{is_accused, accusation}
use Rattle.desk_terms.specs.Roll.{Roll, entry_at, message_at}
use Rattle.code_terms.specs.Words.{places_of}
use Rattle.report_terms.specs.declared.verdict.Verdict.{Verdict}
use Rattle.report_terms.specs.Verdicts.{is_enrolled, has_its_places, fault_of, first_fault, is_listed}

-- ---- tests

or_true : (b : Bool) → (b || true) ≡ true
or_true true = refl
or_true false = refl

or_second : (b l : Bool) → b ≡ false → (b || l) ≡ true → l ≡ true
or_second true l is h = absurd (true≢false is)
or_second false l is h = h

not_below : (a b : ℕ) → b ≤ a → nat_lt a b ≡ false
not_below a b le = grind (arith, nat_tests)

four_pass : (enrolled order places meets : Bool) (x y z w : Verdict) → cond (not enrolled) (Some x) (cond order (Some y) (cond (not places) (Some z) (cond (not meets) (Some w) None))) ≡ None
    → (enrolled ≡ true) × (order ≡ false) × (places ≡ true) × (meets ≡ true)
four_pass false order places meets x y z w h = absurd cc
four_pass true true places meets x y z w h = absurd cc
four_pass true false false meets x y z w h = absurd cc
four_pass true false true false x y z w h = absurd cc
four_pass true false true true x y z w h = (refl, refl, refl, refl)

both_none : {X : Type 0} (o p : Option X) → option_or o p ≡ None → (o ≡ None) × (p ≡ None)
both_none None p h = (refl, h)
both_none (Some x) p h = absurd cc

-- ---- the first number that passes a test

module _ (test : ℕ → Bool) where
  first_of : (here : Bool) (start : ℕ) (later : Option ℕ) → test start ≡ here → cond here (Some start) later ≡ None → (test start ≡ false) × (later ≡ None)
  first_of true start later is h = absurd cc
  first_of false start later is h = (is, h)

  -- where none is found, none passes
  pub none_passes : (start count : ℕ) → find test (range_with_len start count) ≡ None → (s : ℕ) → start ≤ s → s < start + count → test s ≡ false
  none_passes start zero h s low high = absurd (omega (arith, low, high))
  none_passes start (suc count) h s low high =
      let both = first_of (test start) start (find test (range_with_len (start + 1) count)) refl h in
      at_or_behind both.0 (none_passes (start + 1) count both.1 s) (s == start) refl
    where
      at_or_behind : test start ≡ false → (start + 1 ≤ s → s < start + 1 + count → test s ≡ false) → (same : Bool) → (s == start) ≡ same → test s ≡ false
      at_or_behind here behind true is = ap test (eqb-true s start is) ∙ here
      at_or_behind here behind false is = behind (grind (arith, nat_tests, low)) (omega (arith, high))

  -- and the other way round
  pub none_found : (start count : ℕ) → ((s : ℕ) → start ≤ s → s < start + count → test s ≡ false) → find test (range_with_len start count) ≡ None
  none_found start zero none = refl
  none_found start (suc count) none =
      rw (none start (omega arith) (omega arith)) (none_found (start + 1) count (λ s low high. none s (omega (arith, low)) (omega (arith, high))))

module _ (roll : Roll) (word : List (Option ℕ)) (c : ℕ) where
  -- each has the serial of a licensee, the name and places of this licensee, meets the threshold, and stands in order
  pub record IsSound (least : ℕ) (a : Accused) : Type 0 where
    pub order : least ≤ a.serial
    pub enrolled : a.serial < length roll.entries
    pub same : a ≡ accusation roll word a.serial
    pub meets : is_accused roll word c a.serial ≡ true

  abbrev pub AreSound : ℕ → List Accused → Type 0
  AreSound least [] = Unit {0}
  AreSound least (a ∷ more) = IsSound least a × AreSound (a.serial + 1) more

  -- those who are found among so many serials
  abbrev pub found_among : ℕ → ℕ → List Accused
  found_among start count = map (accusation roll word) (filter (is_accused roll word c) (range_with_len start count))

  pub lower : (xs : List Accused) (least less : ℕ) → less ≤ least → AreSound least xs → AreSound less xs
  lower [] least less le are = tt
  lower (a ∷ xs) least less le are = (record { order = omega (arith, are.0.order, le); enrolled = are.0.enrolled; same = are.0.same; meets = are.0.meets }, are.1)

  pub not_listed : (xs : List Accused) (least serial : ℕ) → AreSound least xs → serial < least → is_listed xs serial ≡ false
  not_listed [] least serial are below = refl
  not_listed (a ∷ xs) least serial are below =
      rw (ne_eqb a.serial serial (λ e. omega (arith, e, are.0.order, below)), not_listed xs (a.serial + 1) serial are.1 (omega (arith, are.0.order, below))) refl

  -- ---- those who are found are sound, and nobody of them is missing

  sound_step : (start : ℕ) (here : Bool) (serials : List ℕ) → start < length roll.entries → is_accused roll word c start ≡ here → AreSound (start + 1) (map (accusation roll word) serials)
      → AreSound start (map (accusation roll word) (cond here (start ∷ serials) serials))
  sound_step start true serials enrolled is later = (record { order = omega arith; enrolled = enrolled; same = refl; meets = is }, later)
  sound_step start false serials enrolled is later = lower (map (accusation roll word) serials) (start + 1) start (omega arith) later

  pub found_sound : (start count : ℕ) → start + count ≤ length roll.entries → AreSound start (found_among start count)
  found_sound start zero room = tt
  found_sound start (suc count) room =
      sound_step start (is_accused roll word c start) (filter (is_accused roll word c) (range_with_len (start + 1) count)) (omega (arith, room)) refl (found_sound (start + 1) count (omega (arith, room)))

  listed_step : (start s : ℕ) (here : Bool) (serials : List ℕ) → is_accused roll word c start ≡ here → is_accused roll word c s ≡ true → (s ≡ start) ⊎ (is_listed (map (accusation roll word) serials) s ≡ true)
      → is_listed (map (accusation roll word) (cond here (start ∷ serials) serials)) s ≡ true
  listed_step start s true serials is meets (inl same) = rw (eq-eqb start s (sym same)) refl
  listed_step start s true serials is meets (inr listed) = rw listed (or_true (start == s))
  listed_step start s false serials is meets (inl same) = absurd (true≢false (sym meets ∙ ap (is_accused roll word c) same ∙ is))
  listed_step start s false serials is meets (inr listed) = listed

  pub found_listed : (start count s : ℕ) → start ≤ s → s < start + count → is_accused roll word c s ≡ true → is_listed (found_among start count) s ≡ true
  found_listed start zero s low high meets = absurd (omega (arith, low, high))
  found_listed start (suc count) s low high meets =
      listed_step start s (is_accused roll word c start) (filter (is_accused roll word c) (range_with_len (start + 1) count)) refl meets
      (elim (cases_eq s start) as (λ _. (s ≡ start) ⊎ (is_listed (found_among (start + 1) count) s ≡ true)) [
        | inl same ↦ inl same
        | inr apart ↦ inr (found_listed (start + 1) count s (grind (arith, low, apart)) (omega (arith, high)) meets)
      ])

  -- ---- a list is sound where nothing is wrong with it, and only there

  fault_free : (a : Accused) (position least : ℕ) → IsSound least a → fault_of roll word c position least a ≡ None
  unfolding fault_of
  fault_free a position least is =
      let name : bytes_eq (entry_at roll a.serial).name a.name ≡ true = (bytes_eq-Decides (entry_at roll a.serial).name a.name).1 (sym (ap (λ (x : Accused). x.name) is.same)) in
      let enrolled : is_enrolled roll a ≡ true = rw (lt-ltb a.serial (length roll.entries) is.enrolled, name) refl in
      let order : nat_lt a.serial least ≡ false = not_below a.serial least is.order in
      let places : has_its_places roll word a ≡ true =
      (bytes_eq-Decides a.places (places_of roll.bits roll.dimension (message_at roll a.serial) word)).1 (ap (λ (x : Accused). x.places) is.same) in
      rw (enrolled, order, places, is.meets) refl

  pub no_fault : (xs : List Accused) (position least : ℕ) → AreSound least xs → first_fault roll word c position least xs ≡ None
  unfolding first_fault
  no_fault [] position least are = refl
  no_fault (a ∷ xs) position least are = rw (fault_free a position least are.0) (no_fault xs (position + 1) (a.serial + 1) are.1)

  sound_one : (a : Accused) (position least : ℕ) → fault_of roll word c position least a ≡ None → IsSound least a
  unfolding fault_of
  sound_one a position least h =
      let all = four_pass (is_enrolled roll a) (nat_lt a.serial least) (has_its_places roll word a) (is_accused roll word c a.serial) _ _ _ _ h in
      let enrolled = and_parts (nat_lt a.serial (length roll.entries)) (bytes_eq (entry_at roll a.serial).name a.name) all.0 in
      let name : a.name ≡ (entry_at roll a.serial).name = sym ((bytes_eq-Decides (entry_at roll a.serial).name a.name).0 enrolled.1) in
      let places = (bytes_eq-Decides a.places (places_of roll.bits roll.dimension (message_at roll a.serial) word)).0 all.2 in
      record {
        order = ltb-false a.serial least all.1;
        enrolled = ltb-true a.serial (length roll.entries) enrolled.0;
        same = ap₂ (λ (n ps : List ℕ). let x : Accused = record { serial = a.serial; name = n; places = ps } in x) name places;
        meets = all.3;
      }

  pub sound_where_free : (xs : List Accused) (position least : ℕ) → first_fault roll word c position least xs ≡ None → AreSound least xs
  unfolding first_fault
  sound_where_free [] position least h = tt
  sound_where_free (a ∷ xs) position least h =
      let both = both_none (fault_of roll word c position least a) (first_fault roll word c (position + 1) (a.serial + 1) xs) h in
      (sound_one a position least both.0, sound_where_free xs (position + 1) (a.serial + 1) both.1)

  -- ---- a sound list of which nobody is missing is that of those who are found

  -- nobody is missing among the serials from `start` up to `past`
  abbrev pub HasAll : ℕ → ℕ → List Accused → Type 0
  HasAll start past xs = (s : ℕ) → start ≤ s → s < past → is_accused roll word c s ≡ true → is_listed xs s ≡ true

  -- the first of a sound list is not this one
  behind : (a : Accused) (more : List Accused) (start : ℕ) → AreSound start (a ∷ more) → (a.serial ≡ start → ⊥) → AreSound (start + 1) (a ∷ more)
  behind a more start are apart = (record { order = grind (arith, are.0.order, apart); enrolled = are.0.enrolled; same = are.0.same; meets = are.0.meets }, are.1)

  rest_has_all : (a : Accused) (more : List Accused) (start past : ℕ) → a.serial ≡ start → HasAll start past (a ∷ more) → HasAll (start + 1) past more
  rest_has_all a more start past same all s low high meets =
      or_second (a.serial == s) (is_listed more s) (ne_eqb a.serial s (λ e. omega (arith, e, same, low))) (all s (omega (arith, low)) high meets)

  all_step : (start past : ℕ) (here : Bool) (xs found : List Accused) → is_accused roll word c start ≡ here → start < past → AreSound start xs → HasAll start past xs
      → ((ys : List Accused) → AreSound (start + 1) ys → HasAll (start + 1) past ys → ys ≡ found) → xs ≡ cond here (accusation roll word start ∷ found) found
  all_step start past true [] found is within are all later = absurd (true≢false (sym (all start (omega arith) within is)))
  all_step start past true (a ∷ more) found is within are all later =
      elim (cases_eq a.serial start) as (λ _. a ∷ more ≡ accusation roll word start ∷ found) [
        | inl same ↦
            ap₂ (λ (x : Accused) xs. x ∷ xs) (are.0.same ∙ ap (accusation roll word) same)
            (later more (subst (λ n. AreSound (n + 1) more) same are.1) (rest_has_all a more start past same all))
        | inr apart ↦
            absurd (true≢false (sym (all start (omega arith) within is) ∙ not_listed (a ∷ more) (start + 1) start (behind a more start are apart) (omega arith)))
      ]
  all_step start past false [] found is within are all later = later [] tt (λ s low high meets. all s (omega (arith, low)) high meets)
  all_step start past false (a ∷ more) found is within are all later =
      later (a ∷ more) (behind a more start are (λ same. true≢false (sym are.0.meets ∙ ap (is_accused roll word c) same ∙ is))) (λ s low high meets. all s (omega (arith, low)) high meets)

  split : (here : Bool) (start : ℕ) (serials : List ℕ) → map (accusation roll word) (cond here (start ∷ serials) serials) ≡ cond here (accusation roll word start ∷ map (accusation roll word) serials) (map (accusation roll word) serials)
  split true start serials = refl
  split false start serials = refl

  pub all_found : (count start : ℕ) (xs : List Accused) → start + count ≡ length roll.entries → AreSound start xs → HasAll start (length roll.entries) xs → xs ≡ found_among start count
  all_found zero start [] room are all = refl
  all_found zero start (a ∷ more) room are all = absurd (omega (arith, are.0.order, are.0.enrolled, room))
  all_found (suc count) start xs room are all =
      all_step start (length roll.entries) (is_accused roll word c start) xs (found_among (start + 1) count) refl (omega (arith, room)) are all
      (λ ys sound has. all_found count (start + 1) ys (omega (arith, room)) sound has)
      ∙ sym (split (is_accused roll word c start) start (filter (is_accused roll word c) (range_with_len (start + 1) count)))
