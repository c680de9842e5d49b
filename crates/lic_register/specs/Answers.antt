-- Which answer each call gives. Want of memory is the one answer that is always free.
use Rattle.std.specs.Prelude.{◌≡◌, ℕ, Option, Some, None, Result, Ok, Err, if◌then◌else◌, List}
use Rattle.text_terms.specs.Answers.{RefusesAs, AnswersAs}
use Rattle.register_terms.specs.Enrolment.{Enrolment, names_of, serial_of}
use Rattle.register_terms.specs.Rules.{is_active}
use Rattle.register_terms.specs.RegisterText.{RegisterFault}
use Rattle.register_terms.specs.declared.refusal.NameRefusal.{NameRefusal}
use Rattle.register_terms.specs.declared.refusal.NameRefusal.TheVariants.{BadName, NameTaken, Full}
use Rattle.lic_register.specs.declared.errors.EnrolError.{EnrolError}
use Rattle.lic_register.specs.declared.errors.EnrolError.TheVariants as enrol_errors
use Rattle.lic_register.specs.declared.errors.WithdrawError.{WithdrawError}
use Rattle.lic_register.specs.declared.errors.WithdrawError.TheVariants.{Unknown, Already}
use Rattle.lic_register.specs.declared.errors.RegisterReadError.{RegisterReadError}
use Rattle.lic_register.specs.declared.errors.RegisterReadError.TheVariants as read_errors

abbrev pub refusal_in : EnrolError → Option NameRefusal
refusal_in enrol_errors.BadName = Some BadName
refusal_in (enrol_errors.NameTaken serial) = Some (NameTaken serial)
refusal_in (enrol_errors.Full licensees) = Some (Full licensees)
refusal_in enrol_errors.Memory = None

-- what was answered is what is wanted, unless memory ran out
abbrev pub EnrolsAs : Result ℕ EnrolError → Result ℕ NameRefusal → Type 0
EnrolsAs result wanted = AnswersAs refusal_in result wanted

-- the serial that is withdrawn, or why none is
abbrev pub withdrawal_at : Enrolment → Option ℕ → Result ℕ WithdrawError
withdrawal_at e None = Err Unknown
withdrawal_at e (Some serial) = if is_active e serial then Ok serial else Err (Already serial)

abbrev pub withdrawal_of : Enrolment → List ℕ → Result ℕ WithdrawError
withdrawal_of e name = withdrawal_at e (serial_of (names_of e.licensees) name)

abbrev pub fault_in : RegisterReadError → Option RegisterFault
fault_in (read_errors.NotRegister fault) = Some fault
fault_in read_errors.Memory = None

-- what was read is what the bytes are, unless memory ran out
abbrev pub IsRefused : RegisterReadError → Result Enrolment RegisterFault → Type 0
IsRefused refusal wanted = RefusesAs (fault_in refusal) wanted

abbrev pub ReadsAs : Result Enrolment RegisterReadError → Result Enrolment RegisterFault → Type 0
ReadsAs result wanted = AnswersAs fault_in result wanted
