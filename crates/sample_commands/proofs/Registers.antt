-- The register of a sample is valid.
use Rattle.std.proofs.Common.{◌≡◌, ◌∙◌, ℕ, zero, suc, ◌+◌, ◌*◌, ◌%◌, ◌^◌, ◌<◌, ◌≤◌, None, Result, refl, ap, subst, arith, nat_lt}
use Rattle.std.specs.Prelude.{◌==◌}
use Rattle.std.specs.Option.{option_map}
use Rattle.std.specs.Result.{result_err}
use Rattle.std.proofs.Math.Nat.{mod-lt}
use Rattle.std.proofs.lemmas.Bool.{and_from, eq-eqb, lt-ltb}
use Rattle.register_terms.specs.declared.refusal.NameRefusal.{NameRefusal}
use Rattle.register_terms.specs.Enrolment.{Enrolment, IsValid}
use Rattle.register_terms.specs.Rules.{kind_of, refusal_of}
use Rattle.register_terms.proofs.Growing.{is_welcome, with_licensee-valid}
use Rattle.register_terms.proofs.HeaderLines.{IsRule, empty_valid}
use Rattle.sample_terms.specs.Numbers.{word_number, multiplier, shift}
use Rattle.sample_terms.specs.Inputs.{licensee, licensee_name, register_of, register_with}
use Rattle.sample_maker.proofs.Registers.{grows, welcomed}

-- ---- before anybody is enrolled

odd : (x : ℕ) → (2 * x + 1) % 2 ≡ 1
odd x = omega arith

low : (x : ℕ) → x < 2 ^ 23 → 2 * x + 1 < 2 ^ (8 * 3)
low x small = omega (arith, small)

rules_kept : (number : ℕ) → IsRule 8 3 (multiplier number) (shift number)
rules_kept number =
    let x = word_number number 0 % 2 ^ 23 in
    record {
      bits = refl;
      dimension = refl;
      multiplier = and_from (multiplier number % 2 == 1) (nat_lt (multiplier number) (2 ^ (8 * 3))) (eq-eqb (multiplier number % 2) 1 (odd x))
          (lt-ltb (multiplier number) (2 ^ (8 * 3)) (low x (mod-lt (word_number number 0) (omega arith))));
      shift = lt-ltb (shift number) (2 ^ (8 * 3)) (mod-lt (word_number number 1) (omega arith));
    }

-- ---- licensee by licensee

none_refused : (serial number : ℕ) → serial < 1000 → refusal_of (register_with serial number) (licensee_name serial) ≡ None
none_refused serial number small = ap (λ (r : Result ℕ NameRefusal). option_map kind_of (result_err r)) (welcomed serial number small)

grown_valid : (number count : ℕ) → count ≤ 1000 → IsValid (register_with count number)
unfolding register_with
grown_valid number zero few = empty_valid 8 3 (multiplier number) (shift number) (rules_kept number)
grown_valid number (suc serial) few =
    let small : serial < 1000 = omega (arith, few) in
    let e : Enrolment = register_with serial number in
    let more : serial + 1 ≡ suc serial = omega arith in
    subst IsValid (grows serial number ∙ ap (λ (count : ℕ). register_with count number) more)
    (with_licensee-valid e (licensee serial) (grown_valid number serial (omega (arith, few))) (is_welcome e (licensee_name serial) (none_refused serial number small)))

pub sample_register : (number : ℕ) → IsValid (register_of number)
sample_register number = grown_valid number 1000 (omega arith)
