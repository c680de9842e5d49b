-- A valid register stays one when a licensee is withdrawn.
use Rattle.std.proofs.Common.{◌≡◌, ◌≢◌, ℕ, zero, suc, true, List, [], ◌∷◌, length, refl, sym, ap, subst, arith}
use Rattle.std.specs.List.{All, AllPairs}
use Rattle.text_terms.specs.Names.{is_plain}
use Rattle.register_terms.specs.Enrolment.{Licensee, Enrolment, IsValid, names_of}
use Rattle.register_terms.specs.Rules.{withdrawn_at, with_withdrawn}

pub withdrawn-names : (licensees : List Licensee) (serial : ℕ) → names_of (withdrawn_at licensees serial) ≡ names_of licensees
withdrawn-names [] serial = refl
withdrawn-names (x ∷ licensees) zero = refl
withdrawn-names (x ∷ licensees) (suc serial) = ap (λ (names : List (List ℕ)). x.name ∷ names) (withdrawn-names licensees serial)

pub withdrawn-length : (licensees : List Licensee) (serial : ℕ) → length (withdrawn_at licensees serial) ≡ length licensees
withdrawn-length [] serial = refl
withdrawn-length (x ∷ licensees) zero = refl
withdrawn-length (x ∷ licensees) (suc serial) = ap suc (withdrawn-length licensees serial)

pub with_withdrawn-valid : (e : Enrolment) (serial : ℕ) → IsValid e → IsValid (with_withdrawn e serial)
with_withdrawn-valid e serial valid = record {
  bits_low = valid.bits_low;
  bits_high = valid.bits_high;
  dimension_low = valid.dimension_low;
  dimension_high = valid.dimension_high;
  odd = valid.odd;
  multiplier_below = valid.multiplier_below;
  shift_below = valid.shift_below;
  plain = subst (All (λ name. is_plain name ≡ true)) (sym (withdrawn-names e.licensees serial)) valid.plain;
  distinct = subst (AllPairs (λ a b. a ≢ b)) (sym (withdrawn-names e.licensees serial)) valid.distinct;
  room = omega (arith, withdrawn-length e.licensees serial, valid.room);
}
