-- Demands that are met, and what follows for the report.
use Rattle.std.proofs.Common.{◌≡◌, ℕ, ◌-◌, ◌*◌, ◌^◌, ◌≤◌, Bool, true, false, List, Option, Result, Err, refl, ap, subst, arith}
use Rattle.std.specs.Prelude.{nat_le, ◌&&◌, ◌==◌}
use Rattle.std.proofs.Math.Nat.{mul-le-mul_right}
use Rattle.std.proofs.lemmas.Bool.{and_parts, eqb-true, leb-true, le-leb, ltb-true}
use Rattle.code_terms.specs.Words.{HasSymbolsBelow}
use Rattle.decoding_terms.specs.Parameters.{is_bound, is_light, is_allowed_bound}
use Rattle.register_terms.specs.Enrolment.{Enrolment}
use Rattle.title_terms.specs.Designs.{places, symbols}
use Rattle.title_terms.specs.Titles.{Title, IsTitle}
use Rattle.packaging_terms.specs.Licensees.{fits}
use Rattle.outcome_terms.specs.declared.fault.Fault.TheVariants.{BadBound}
use Rattle.outcome_terms.specs.declared.refusal.Refusal.{Refusal}
use Rattle.outcome_terms.specs.declared.refusal.Refusal.TheVariants as refusal
use Rattle.outcome_terms.specs.Reading.{Reading, Give, Refuse, ◌>>◌, require}
use Rattle.outcome_terms.specs.Stores.{Settles, Follows}
use Rattle.records.specs.Stores.{Store}
use Rattle.outcome_terms.specs.PackageCommand.{mismatch}
use Rattle.outcome_terms.specs.AccuseCommand.{report}
use Rattle.outcome_terms.specs.TraceCommand.{is_served}
use Rattle.outcome_terms.specs.Traces.{Trace, Counted, IsWithin, trace_at}
use Rattle.outcome_terms.proofs.Readings.{settled}
use Rattle.copy_io.specs.Demands.{demanded}

-- nothing stands in the way of this bound
pub record IsAdmitted (t : Title) (e : Enrolment) (c bound : ℕ) : Type 0 where
  pub same_code : fits t e ≡ true
  pub served : is_served t c ≡ true
  pub is : bound ≡ c

given_as : (x y : ℕ) → (let r : Reading ℕ = Give x in r) ≡ Give y → y ≡ x
given_as x y h = cc

pub admitted : (t : Title) (e : Enrolment) (c bound : ℕ) → demanded t e c ≡ Give bound → IsAdmitted t e c bound
unfolding demanded
admitted t e c bound h = by (fits t e) (is_served t c) refl refl h
  where
    by : (same served : Bool) → fits t e ≡ same → is_served t c ≡ served → require same (mismatch t e) >> (require served (BadBound c) >> Give c) ≡ Give bound → IsAdmitted t e c bound
    by true true one two is = record { same_code = one; served = two; is = given_as c bound is }
    by true false one two is = absurd cc
    by false served one two is = absurd cc

-- a demand that is not met ends whatever comes behind both
pub turned_away : {A : Type 0} (next : Reading A) (t : Title) (e : Enrolment) (c : ℕ) (s : Store) (r : Refusal) → Settles {A = ℕ} (Err r) (demanded t e c)
    → Follows (require (fits t e) (mismatch t e) >> (require (is_served t c) (BadBound c) >> next)) s s (Err r)
unfolding demanded
turned_away {A} next t e c s r h = settled (require (fits t e) (mismatch t e) >> (require (is_served t c) (BadBound c) >> next)) s (Err r) (by (fits t e) (is_served t c) r h)
  where
    by : (same served : Bool) (r : Refusal) → Settles {A = ℕ} (Err r) (require same (mismatch t e) >> (require served (BadBound c) >> Give c))
        → Settles {A = A} (Err r) (require same (mismatch t e) >> (require served (BadBound c) >> next))
    by true true (refusal.Content fault) is = absurd cc
    by true false (refusal.Content fault) is = let same : BadBound c ≡ fault = cc in ap (λ f. Refuse f) same
    by false served (refusal.Content fault) is = let same : mismatch t e ≡ fault = cc in ap (λ f. Refuse f) same
    by same served refusal.Memory is = tt
    by same served refusal.BadWords is = is
    by same served (refusal.Missing name) is = is
    by same served (refusal.ReadFault name) is = is
    by same served (refusal.WriteFault name) is = is
    by same served (refusal.TooLong name) is = is

-- ---- what the report needs

both : (x y : Bool) → x ≡ true → y ≡ true → (x && y) ≡ true
both true y one two = two
both false y one two = one

module _ (t : Title) (e : Enrolment) (valid : IsTitle t) (same_code : fits t e ≡ true) where
  same_bits : t.design.bits ≡ e.bits
  same_bits = eqb-true t.design.bits e.bits (and_parts (t.design.bits == e.bits) (t.design.dimension == e.dimension) same_code).0

  same_dimension : t.design.dimension ≡ e.dimension
  same_dimension = eqb-true t.design.dimension e.dimension (and_parts (t.design.bits == e.bits) (t.design.dimension == e.dimension) same_code).1

  pub some_places : (n : ℕ) → n ≡ places t.design → 1 ≤ n
  some_places n is =
      let limit : ℕ = t.design.bound * t.design.bound * (t.design.dimension - 1) in
      omega (arith, is, ltb-true limit (places t.design) valid.design.enough)

  pub not_more : (n : ℕ) → n ≡ places t.design → n ≤ 2 ^ e.bits
  not_more n is =
      let most : places t.design ≤ 2 ^ t.design.bits = leb-true (places t.design) (2 ^ t.design.bits) valid.design.room in
      let room : n ≤ 2 ^ t.design.bits = omega (arith, is, most) in
      subst (λ (m : ℕ). n ≤ 2 ^ m) same_bits room

  pub small_symbols : (word : List (Option ℕ)) → HasSymbolsBelow (symbols t.design) word → HasSymbolsBelow (2 ^ e.bits) word
  small_symbols word small = subst (λ (m : ℕ). HasSymbolsBelow (2 ^ m) word) same_bits small

  pub bound_allowed : (c : ℕ) → is_served t c ≡ true → is_allowed_bound e.dimension c ≡ true
  bound_allowed c served =
      let k : ℕ = t.design.dimension - 1 in
      let asked = and_parts (nat_le 1 c) (nat_le c t.design.bound) served in
      let own = and_parts (nat_le 1 t.design.bound) (nat_le t.design.bound 8) valid.design.bound in
      let below : c ≤ t.design.bound = leb-true c t.design.bound asked.1 in
      let small : c ≤ 8 = omega (arith, below, leb-true t.design.bound 8 own.1) in
      let work : c * k ≤ t.design.bound * k = mul-le-mul_right k below in
      let light : c * k ≤ 12 = omega (arith, work, leb-true (t.design.bound * k) 12 valid.design.light) in
      subst (λ (d : ℕ). is_allowed_bound d c ≡ true) same_dimension (both (is_bound c) (is_light t.design.dimension c) (both (nat_le 1 c) (nat_le c 8) asked.0 (le-leb c 8 small)) (le-leb (c * k) 12 light))

-- ---- a bound by another name

pub report_at : (answer : Result (List ℕ) Refusal) (e : Enrolment) (word : List (Option ℕ)) (b c : ℕ) → b ≡ c → Settles answer (report e word b) → Settles answer (report e word c)
report_at answer e word b c same h = subst (λ (x : ℕ). Settles answer (report e word x)) same h

pub steps_at : (costs : Trace → ℕ → Type 0) (k : ℕ) (word : List (Option ℕ)) (b c : ℕ) (old new : Counted) → b ≡ c → IsWithin costs (trace_at k word b) old new → IsWithin costs (trace_at k word c) old new
steps_at costs k word b c old new same h = subst (λ (x : ℕ). IsWithin costs (trace_at k word x) old new) same h
