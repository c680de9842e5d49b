-- The desk accuses only members of a sample's coalition, and at least one of them.
use Rattle.std.proofs.Common.{◌≡◌, ◌∙◌, sym, ap, subst, refl, ℕ, zero, suc, ◌+◌, ◌%◌, ◌^◌, ◌<◌, ◌≤◌, Bool, true, false, cond, [], ◌∷◌, map, length, get_or, Some, None, arith, inl, inr}
use Rattle.std.specs.Prelude.{nat_lt, All, Contains}
use Rattle.std.specs.List.{range_with_len}
use Rattle.std.proofs.Math.ListN.{get_or-eq_default}
use Rattle.std.proofs.lemmas.Bool.{cases_lt}
use Rattle.std.proofs.lemmas.List.FromFn.{length-map-range_with_len, get_or-map-range_with_len}
use Rattle.std.proofs.Math.Nat.{mod-lt}
use Rattle.code_terms.specs.Symbols.{symbol_of}
use Rattle.code_terms.specs.Words.{slot_at, readable}
use Rattle.register_terms.specs.Enrolment.{Enrolment, IsValid}
use Rattle.decoder_terms.specs.Decoding.{not_enough}
use Rattle.desk_terms.specs.Roll.{roll_of}
use Rattle.desk_terms.proofs.Rolls.{roll_of-is_roll, roll_of-length, roll_of-message}
use Rattle.coalition_terms.specs.Coalition.{IsCoalition, Explains, IsTraced}
use Rattle.coalition_terms.proofs.Tracing.{traced}
use Rattle.sample_terms.specs.Numbers.{word_number, coalition, first_member, second_member, third_member, turn_of, member_at}
use Rattle.sample_terms.specs.Inputs.{register_with, register_of, licensee}
use Rattle.sample_terms.specs.Copies.{copied_symbol, copied_word, slot_of}
use Rattle.sample_maker.proofs.Copied.{long, thirty}
use Rattle.sample_maker.proofs.Registers.{bits_are, dimension_is}

pub enrolled_are : (count number : ℕ) → length (register_with count number).licensees ≡ count
unfolding register_with
enrolled_are count number = length-map-range_with_len licensee 0 count

low_turn : (a b c turn : ℕ) → a < 1000 → b < 1000 → c < 1000 → turn_of a b c turn < 1000
low_turn a b c zero first second third = first
low_turn a b c (suc zero) first second third = second
low_turn a b c (suc (suc turn)) first second third = third

among : (a b c turn : ℕ) → Contains (a ∷ b ∷ c ∷ []) (turn_of a b c turn)
among a b c zero = (0, omega arith, refl)
among a b c (suc zero) = (1, omega arith, refl)
among a b c (suc (suc turn)) = (2, omega arith, refl)

slot_by : (number place v : ℕ) (b : Bool) → cond b (Some (copied_symbol number place)) None ≡ Some v → copied_symbol number place ≡ v
slot_by number place v true is = cc
slot_by number place v false is = absurd cc

copied_at : (number place v : ℕ) → slot_at (copied_word number) place ≡ Some v → copied_symbol number place ≡ v
unfolding copied_word
copied_at number place v is = elim (cases_lt place 64) [
  | inl lt ↦ slot_by number place v (nat_lt place 30) (sym (get_or-map-range_with_len (slot_of number) 0 64 place place None lt (omega arith)) ∙ is)
  | inr le ↦
      let none : get_or (map (slot_of number) (range_with_len 0 64)) place None ≡ None = get_or-eq_default (map (slot_of number) (range_with_len 0 64)) None {n = place} le in
      absurd (cc (none, is))
]

module _ (number : ℕ) (valid : IsValid (register_of number)) where
  abbrev register : Enrolment
  register = register_of number

  on_roll : (serial : ℕ) → serial < 1000 → serial < length (roll_of register).entries
  on_roll serial low = omega (arith, low, roll_of-length register, enrolled_are 1000 number)

  low : (i : ℕ) → word_number number i % 1000 < 1000
  low i = mod-lt (word_number number i) (omega arith)

  all_low : (a b c : ℕ) → a < 1000 → b < 1000 → c < 1000 → All (λ j. j < length (roll_of register).entries) (a ∷ b ∷ c ∷ [])
  all_low a b c first second third zero d inside = on_roll a first
  all_low a b c first second third (suc zero) d inside = on_roll b second
  all_low a b c first second third (suc (suc zero)) d inside = on_roll c third
  all_low a b c first second third (suc (suc (suc k))) d inside = absurd (omega (arith, inside))

  is_coalition : IsCoalition (roll_of register) 3 (coalition number)
  is_coalition = record { enrolled = all_low (first_member number) (second_member number) (third_member number) (low 2) (low 3) (low 4); few = omega arith }

  explains : Explains (roll_of register) (coalition number) (copied_word number)
  unfolding copied_symbol
  explains place v is =
      let turn : ℕ = word_number number (5 + place) % 3 in
      let serial : ℕ = member_at number place in
      let serial_low : serial < 1000 = low_turn (first_member number) (second_member number) (third_member number) turn (low 2) (low 3) (low 4) in
      let enrolled : serial < length register.licensees = omega (arith, serial_low, enrolled_are 1000 number) in (
        serial,
        among (first_member number) (second_member number) (third_member number) turn,
        ap (λ (u : ℕ). symbol_of register.bits register.dimension u place) (roll_of-message register serial enrolled) ∙ copied_at number place v is,
      )

  short : length (copied_word number) ≤ 2 ^ register.bits
  short = subst (λ (m : ℕ). length (copied_word number) ≤ 2 ^ m) (sym (bits_are 1000 number)) (omega (arith, long number))

  enough : not_enough register.dimension 3 < readable (copied_word number)
  enough = subst (λ (k : ℕ). not_enough k 3 < readable (copied_word number)) (sym (dimension_is 1000 number)) (omega (arith, thirty number))

  pub sample_traced : IsTraced (roll_of register) (copied_word number) 3 (coalition number)
  sample_traced =
      traced (roll_of register) (copied_word number) 3 (coalition number) (roll_of-is_roll register valid) valid.bits_low valid.bits_high short (omega arith) enough is_coalition explains
