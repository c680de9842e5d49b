-- What an answered enrolment is, in the words of the command's reading.
use Rattle.std.proofs.Common.{◌≡◌, ℕ, List, Result, Ok, Err, ap}
use Rattle.register_terms.specs.Enrolment.{Enrolment}
use Rattle.register_terms.specs.Rules.{enrolment_of, with_name}
use Rattle.register_terms.specs.declared.refusal.NameRefusal.{NameRefusal}
use Rattle.outcome_terms.specs.declared.fault.Fault.TheVariants.{NotEnrolled}
use Rattle.outcome_terms.specs.Reading.{Reading, Give, Refuse, ◌>>=◌, understood}
use Rattle.outcome_terms.specs.EnrolCommand.{enrolled}

pub was_enrolled : (e : Enrolment) (name : List ℕ) (serial : ℕ) → enrolment_of e name ≡ Ok serial → enrolled e name ≡ Give (with_name e name)
unfolding enrolled ◌>>=◌
was_enrolled e name serial is = ap (λ (r : Result ℕ NameRefusal). understood NotEnrolled r >>= λ _. Give (with_name e name)) is

pub was_refused : (e : Enrolment) (name : List ℕ) (why : NameRefusal) → enrolment_of e name ≡ Err why → enrolled e name ≡ Refuse (NotEnrolled why)
unfolding enrolled ◌>>=◌
was_refused e name why is = ap (λ (r : Result ℕ NameRefusal). understood NotEnrolled r >>= λ _. Give (with_name e name)) is
