-- The roll of a register.
use Rattle.std.proofs.Common.{◌≡◌, ℕ, ◌+◌, ◌*◌, ◌<◌, List, [], length, get_or, true, sym, ap, ◌∙◌, subst, arith}
use Rattle.std.specs.List.{enumerate_from}
use Rattle.std.proofs.Math.Nat.{min-le_right}
use Rattle.std.proofs.lemmas.Nat.{pow_pos, mod_below}
use Rattle.std.proofs.lemmas.List.{length-map, get_or-map}
use Rattle.std.proofs.lemmas.List.FromFn.{length-enumerate_from, get_or-enumerate_from}
use Rattle.text_terms.specs.Names.{is_plain}
use Rattle.register_terms.specs.Enrolment.{Enrolment, IsValid, names_of, message_of, message_count}
use Rattle.register_terms.proofs.Messages.{messages_differ, enrolled-below}
use Rattle.desk_terms.specs.Roll.{Entry, IsRoll, no_entry, entry_of, message_at, roll_of}

-- nobody, with a place
abbrev nobody : ℕ × List ℕ
nobody = (0, [])

pub roll_of-length : (e : Enrolment) → length (roll_of e).entries ≡ length e.licensees
roll_of-length e =
    length-map (enumerate_from 0 (names_of e.licensees)) (entry_of e) ∙ length-enumerate_from 0 (names_of e.licensees) ∙ length-map e.licensees (λ x. x.name)

-- the entry of an enrolled serial
pub roll_of-entry : (e : Enrolment) (serial : ℕ) (d : Entry) → serial < length e.licensees
    → get_or (roll_of e).entries serial d ≡ record { message = message_of e serial; name = get_or (names_of e.licensees) serial [] }
roll_of-entry e serial d enrolled =
    let named : serial < length (names_of e.licensees) = omega (arith, length-map e.licensees (λ x. x.name)) in
    let counted : serial < length (enumerate_from 0 (names_of e.licensees)) = omega (arith, length-enumerate_from 0 (names_of e.licensees)) in
    let same : 0 + serial ≡ serial = omega arith in
    get_or-map (entry_of e) (enumerate_from 0 (names_of e.licensees)) serial nobody d counted
    ∙ ap (entry_of e) (get_or-enumerate_from 0 (names_of e.licensees) serial nobody named)
    ∙ ap (λ (n : ℕ). entry_of e (n, get_or (names_of e.licensees) serial [])) same

pub roll_of-message : (e : Enrolment) (serial : ℕ) → serial < length e.licensees → message_at (roll_of e) serial ≡ message_of e serial
roll_of-message e serial enrolled = ap (λ (x : Entry). x.message) (roll_of-entry e serial no_entry enrolled)

-- a valid register's roll keeps what every roll keeps
pub roll_of-is_roll : (e : Enrolment) → IsValid e → IsRoll (roll_of e)
roll_of-is_roll e valid = record {
  below = λ k d within.
      let enrolled : k < length e.licensees = omega (arith, roll_of-length e) in
      let is : (get_or (roll_of e).entries k d).message ≡ message_of e k = ap (λ (x : Entry). x.message) (roll_of-entry e k d enrolled) in
      subst (λ (u : ℕ). u < message_count e) (sym is) (mod_below (e.multiplier * k + e.shift) (message_count e) (pow_pos (e.bits * e.dimension)));
  apart = λ i j i_in j_in same.
      let here : i < length e.licensees = omega (arith, roll_of-length e) in
      let there : j < length e.licensees = omega (arith, roll_of-length e) in
      messages_differ e valid i j (enrolled-below e valid i here) (enrolled-below e valid j there) (sym (roll_of-message e i here) ∙ same ∙ roll_of-message e j there);
  plain = λ k d within.
      let enrolled : k < length e.licensees = omega (arith, roll_of-length e) in
      let is : (get_or (roll_of e).entries k d).name ≡ get_or (names_of e.licensees) k [] = ap (λ (x : Entry). x.name) (roll_of-entry e k d enrolled) in
      subst (λ (name : List ℕ). is_plain name ≡ true) (sym is) (valid.plain k [] (omega (arith, length-map e.licensees (λ x. x.name))));
  few = omega (arith, roll_of-length e, valid.room, min-le_right (message_count e) 200000);
}
