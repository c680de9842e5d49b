-- One message more is looked up.
use Rattle.std.proofs.Common.{◌≡◌, ◌≢◌, inl, inr, ℕ, ◌+◌, ◌<◌, List, [], ◌∷◌, ◌++◌, take, length, map, get_or, All, AllPairs, Contains, Some, sym, ap, ◌∙◌, subst, arith}
use Rattle.std.specs.Prelude.{slice_get}
use Rattle.std.proofs.lemmas.List.{map_push, length-take-le, get_or-take, take_more}
use Rattle.std.proofs.lemmas.List.Elements.{All-push, Contains-append_left, Contains-push, Contains-push_cases}
use Rattle.std.proofs.lemmas.List.Quantifiers.{all_pairs_push}
use Rattle.std.proofs.lemmas.Option.{slice_get_within, get_or_from_slice_get}
use Rattle.pair_terms.specs.Pairs.{Pair, fitting_places}
use Rattle.desk_terms.specs.declared.findings.Accused.{Accused}
use Rattle.merge_terms.specs.Merged.{accusation_by}
use Rattle.desk_terms.specs.Roll.{Entry, Roll, IsRoll, no_entry, message_at, entry_at}
use Rattle.trace_desk.specs.Known.{AreKnown, serial_of}

pub none_known : (roll : Roll) (pairs : List Pair) → AreKnown roll pairs [] []
none_known roll pairs = record {
  only = λ k d l. absurd (omega arith);
  every = λ serial l found. absurd (omega (arith, found.1));
  apart = λ i j d l m. absurd (omega arith);
}

module _ (roll : Roll) (pairs : List Pair) (messages : List ℕ) (accused : List Accused) (so_far : AreKnown roll pairs messages accused) (message : ℕ) where
  abbrev Says : Accused → Type 0
  Says one = (one.serial < length roll.entries) × Contains (messages ++ message ∷ []) (message_at roll one.serial) × (one ≡ accusation_by roll pairs one.serial)

  earlier_said : All Says accused
  earlier_said k d l =
      let said = so_far.only k d l in
      (said.0, Contains-append_left messages (message ∷ []) (message_at roll (get_or accused k d).serial) said.1, said.2)

  -- nobody has the message
  pub nobody_known : All (λ (entry : Entry). entry.message ≢ message) roll.entries → AreKnown roll pairs (messages ++ message ∷ []) accused
  nobody_known none = record {
    only = earlier_said;
    every = λ serial within found. elim (Contains-push_cases messages message (message_at roll serial) found) [
      | inl before ↦ so_far.every serial within before
      | inr same ↦ absurd (none serial no_entry within (sym same))
    ];
    apart = so_far.apart;
  }

  -- the licensee with this serial has it
  pub one_known : IsRoll roll → (Contains messages message → ⊥) → (serial : ℕ) (name : List ℕ) → slice_get roll.entries serial ≡ Some (record { message = message; name = name })
      → (one : Accused) → one ≡ record { serial = serial; name = name; places = fitting_places roll.bits roll.dimension message pairs } → AreKnown roll pairs (messages ++ message ∷ []) (accused ++ one ∷ [])
  one_known kept another serial name has one is = record {
    only = All-push Says accused one earlier_said (
      subst (λ (j : ℕ). j < length roll.entries) (sym (ap serial_of is)) within,
      subst (Contains (messages ++ message ∷ [])) (sym (ap (message_at roll) (ap serial_of is) ∙ ap (λ (x : Entry). x.message) entry)) (Contains-push messages message),
      is ∙ said ∙ ap (accusation_by roll pairs) (sym (ap serial_of is)),
    );
    every = λ other other_in found. subst (λ (js : List ℕ). Contains js other) (sym (map_push serial_of accused one)) (elim (Contains-push_cases messages message (message_at roll other) found) [
      | inl before ↦ Contains-append_left (map serial_of accused) (serial_of one ∷ []) other (so_far.every other other_in before)
      | inr same ↦
          let its : other ≡ serial = kept.apart other serial other_in within (sym same ∙ sym (ap (λ (x : Entry). x.message) entry)) in
          subst (Contains (map serial_of accused ++ serial_of one ∷ [])) (ap serial_of is ∙ sym its) (Contains-push (map serial_of accused) (serial_of one))
    ]);
    apart = all_pairs_push (λ (x y : Accused). x.serial ≢ y.serial) accused one so_far.apart (λ k d l.
        λ same.
        let said_k = so_far.only k d l in
        let its : message_at roll (get_or accused k d).serial ≡ message = ap (message_at roll) (same ∙ ap serial_of is) ∙ ap (λ (x : Entry). x.message) entry in
        another (subst (Contains messages) its said_k.1));
  }
    where
      within : serial < length roll.entries
      within = slice_get_within roll.entries serial (record { message = message; name = name }) has

      entry : entry_at roll serial ≡ record { message = message; name = name }
      entry = get_or_from_slice_get roll.entries serial (record { message = message; name = name }) no_entry has

      said : record { serial = serial; name = name; places = fitting_places roll.bits roll.dimension message pairs } ≡ accusation_by roll pairs serial
      said =
          let by : Entry → Accused = λ (x : Entry). record { serial = serial; name = x.name; places = fitting_places roll.bits roll.dimension x.message pairs } in
          ap by (sym entry)

-- a message does not stand among those before it
pub not_before : (messages : List ℕ) (i u : ℕ) → AllPairs (λ x y. x ≢ y) messages → i < length messages → u ≡ get_or messages i u → Contains (take i messages) u → ⊥
not_before messages i u apart within is (k, early, found) =
    let before : k < i = omega (arith, length-take-le i messages (omega arith)) in
    apart k i u before within (sym (get_or-take i messages k u before) ∙ found ∙ is)

-- the step of the loop
pub known_step : (roll : Roll) (pairs : List Pair) (messages : List ℕ) (i u : ℕ) (accused : List Accused) → i < length messages → u ≡ get_or messages i u
    → AreKnown roll pairs (take i messages ++ u ∷ []) accused → AreKnown roll pairs (take (i + 1) messages) accused
known_step roll pairs messages i u accused within is known =
    let next : take (i + 1) messages ≡ take i messages ++ u ∷ [] = take_more messages i u within ∙ ap (λ (v : ℕ). take i messages ++ v ∷ []) (sym is) in
    subst (λ (us : List ℕ). AreKnown roll pairs us accused) (sym next) known
