-- What withdrawing answers, as the reading of the command has it.
use Rattle.std.proofs.Common.{◌≡◌, ℕ, List, Bool, true, false, cond, Option, Some, None, Result, Ok, Err, refl, ap}
use Rattle.register_terms.specs.Enrolment.{Enrolment, names_of, serial_of}
use Rattle.register_terms.specs.Rules.{is_active, with_withdrawn}
use Rattle.lic_register.specs.declared.errors.WithdrawError.{WithdrawError}
use Rattle.lic_register.specs.declared.errors.WithdrawError.TheVariants as errors
use Rattle.lic_register.specs.Answers.{withdrawal_at, withdrawal_of}
use Rattle.outcome_terms.specs.declared.fault.Fault.TheVariants.{Unknown, Withdrawn}
use Rattle.outcome_terms.specs.Reading.{Reading, Give, Refuse, ◌>>=◌, ◌>>◌, require, found}
use Rattle.outcome_terms.specs.WithdrawCommand.{withdrawn}

after_serial : Enrolment → List ℕ → Option ℕ → Reading Enrolment
after_serial e name place = found (Unknown name) place >>= λ serial. require (is_active e serial) (Withdrawn name) >> Give (with_withdrawn e serial)

active_ok : (e : Enrolment) (name : List ℕ) (active : Bool) (place serial : ℕ) → cond {A = Result ℕ WithdrawError} active (Ok place) (Err (errors.Already place)) ≡ Ok serial → (require active (Withdrawn name) >> Give (with_withdrawn e place)) ≡ Give (with_withdrawn e serial)
active_ok e name true place serial is = let same : place ≡ serial = cc in ap (λ (n : ℕ). Give (with_withdrawn e n)) same
active_ok e name false place serial is = absurd cc

ok_by : (e : Enrolment) (name : List ℕ) (place : Option ℕ) (serial : ℕ) → withdrawal_at e place ≡ Ok serial → after_serial e name place ≡ Give (with_withdrawn e serial)
unfolding after_serial ◌>>=◌
ok_by e name None serial is = absurd cc
ok_by e name (Some place) serial is = active_ok e name (is_active e place) place serial is

pub reads_ok : (e : Enrolment) (name : List ℕ) (serial : ℕ) → withdrawal_of e name ≡ Ok serial → withdrawn e name ≡ Give (with_withdrawn e serial)
unfolding withdrawn after_serial
reads_ok e name serial is = ok_by e name (serial_of (names_of e.licensees) name) serial is

active_known : (e : Enrolment) (name : List ℕ) (active : Bool) (place : ℕ) → cond {A = Result ℕ WithdrawError} active (Ok place) (Err (errors.Already place)) ≡ Err errors.Unknown → (require active (Withdrawn name) >> Give (with_withdrawn e place)) ≡ Refuse (Unknown name)
active_known e name true place is = absurd cc
active_known e name false place is = absurd cc

unknown_by : (e : Enrolment) (name : List ℕ) (place : Option ℕ) → withdrawal_at e place ≡ Err errors.Unknown → after_serial e name place ≡ Refuse (Unknown name)
unfolding after_serial ◌>>=◌
unknown_by e name None is = refl
unknown_by e name (Some place) is = active_known e name (is_active e place) place is

pub reads_unknown : (e : Enrolment) (name : List ℕ) → withdrawal_of e name ≡ Err errors.Unknown → withdrawn e name ≡ Refuse (Unknown name)
unfolding withdrawn after_serial
reads_unknown e name is = unknown_by e name (serial_of (names_of e.licensees) name) is

active_already : (e : Enrolment) (name : List ℕ) (active : Bool) (place serial : ℕ) → cond {A = Result ℕ WithdrawError} active (Ok place) (Err (errors.Already place)) ≡ Err (errors.Already serial) → (require active (Withdrawn name) >> Give (with_withdrawn e place)) ≡ Refuse (Withdrawn name)
active_already e name true place serial is = absurd cc
active_already e name false place serial is = refl

already_by : (e : Enrolment) (name : List ℕ) (place : Option ℕ) (serial : ℕ) → withdrawal_at e place ≡ Err (errors.Already serial) → after_serial e name place ≡ Refuse (Withdrawn name)
unfolding after_serial ◌>>=◌
already_by e name None serial is = absurd cc
already_by e name (Some place) serial is = active_already e name (is_active e place) place serial is

pub reads_already : (e : Enrolment) (name : List ℕ) (serial : ℕ) → withdrawal_of e name ≡ Err (errors.Already serial) → withdrawn e name ≡ Refuse (Withdrawn name)
unfolding withdrawn after_serial
reads_already e name serial is = already_by e name (serial_of (names_of e.licensees) name) serial is
