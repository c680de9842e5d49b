-- With which statuses the readings of the commands can refuse.
use Rattle.std.proofs.Common.{◌≡◌, ℕ, List, Bool, true, false, Option, Some, None, Result, Ok, Err, refl}
use Rattle.std.specs.Prelude.{not, nat_lt}
use Rattle.std.specs.Option.{option_map}
use Rattle.std.specs.Str.{bytes_eq}
use Rattle.code_terms.specs.declared.word_fault.WordFault.{WordFault}
use Rattle.code_terms.specs.Words.{readable}
use Rattle.code_terms.specs.WordText.{word_of}
use Rattle.register_terms.specs.Enrolment.{Enrolment, names_of, serial_of}
use Rattle.register_terms.specs.Rules.{is_active, broken_rule, enrolment_of}
use Rattle.register_terms.specs.RegisterText.{RegisterFault, register_of}
use Rattle.register_terms.specs.declared.refusal.NameRefusal.{NameRefusal}
use Rattle.register_terms.specs.declared.refusal.NameRefusal.TheVariants as refusals
use Rattle.decoding_terms.specs.Parameters.{is_allowed_bound}
use Rattle.decoder_terms.specs.Decoding.{not_enough}
use Rattle.outcome_terms.specs.declared.status.Status.{Status}
use Rattle.outcome_terms.specs.declared.fault.Fault.{Fault}
use Rattle.outcome_terms.specs.declared.fault.Fault.TheVariants.{Unknown, Withdrawn, BadRegister, BadBound, TooFew, NotEnrolled, SameName, BadWord, BadParameters}
use Rattle.outcome_terms.specs.Statuses.{fault_line}
use Rattle.outcome_terms.specs.Reading.{Reading, Give, Refuse, Read, ◌>>=◌, ◌>>◌, require, found, blob, understood, AllowsReads, Within}
use Rattle.outcome_terms.specs.Registers.{register_under}
use Rattle.outcome_terms.specs.RegisterCommand.{make, make_statuses}
use Rattle.outcome_terms.specs.EnrolCommand.{enrolled, enrol, enrol_statuses}
use Rattle.outcome_terms.specs.WithdrawCommand.{withdrawn, withdraw, withdraw_statuses}
use Rattle.outcome_terms.specs.AccuseCommand.{allowed, word_under, report, accuse, accuse_statuses}
use Rattle.outcome_terms.specs.SampleCommand.{same_digest, sample, sample_statuses}
use Rattle.sample_terms.specs.Summary.{sampled}
use Rattle.outcome_terms.specs.Commands.{may_end}
use Rattle.outcome_terms.specs.Outcome.{first_refusal}

module _ (may : Status → Bool) where
  pub within_then : {A B : Type 0} (reading : Reading A) (f : A → Reading B) → Within may reading → ((x : A) → Within may (f x)) → Within may (reading >>= f)
  unfolding Within ◌>>=◌
  within_then (Give x) f h next = next x
  within_then (Refuse fault) f h next = h
  within_then (Read name read) f h next = (h.0, λ bytes. within_then (read bytes) f (h.1 bytes) next)

  pub within_give : {A : Type 0} (x : A) → Within may (Give x)
  unfolding Within
  within_give x = tt

  pub within_blob : (name : List ℕ) → AllowsReads may → Within may (blob name)
  unfolding Within
  within_blob name h = (h, λ bytes. tt)

  pub within_understood : {A F : Type 0} (fault : F → Fault) (r : Result A F) → ((f : F) → may (fault_line (fault f)).status ≡ true) → Within may (understood fault r)
  unfolding Within
  within_understood fault (Ok x) h = tt
  within_understood fault (Err f) h = h f

  pub within_met : {A : Type 0} (is_so : Bool) (fault : Fault) (next : Reading A) → may (fault_line fault).status ≡ true → Within may next → Within may (require is_so fault >> next)
  unfolding Within
  within_met true fault next h g = g
  within_met false fault next h g = h

  pub within_none : {A X : Type 0} (fault : X → Fault) (found : Option X) (next : Reading A) → ((x : X) → may (fault_line (fault x)).status ≡ true) → Within may next → Within may (option_map fault found >> next)
  unfolding Within
  within_none fault None next h g = g
  within_none fault (Some x) next h g = h x

  pub within_found : {A : Type 0} (fault : Fault) (o : Option A) → may (fault_line fault).status ≡ true → Within may (found fault o)
  unfolding Within
  within_found fault None h = h
  within_found fault (Some x) h = tt

  -- where the words do not refuse, the demand is met
  pub within_words : {A : Type 0} (is_so : Bool) (fault : Fault) (next : Reading A) → first_refusal (require is_so fault >> next) ≡ None → (first_refusal next ≡ None → Within may next) → Within may (require is_so fault >> next)
  within_words true fault next is h = h is
  within_words false fault next is h = cc

  within_unbroken : {A X : Type 0} (fault : X → Fault) (broken : Option X) (next : Reading A) → first_refusal (option_map fault broken >> next) ≡ None → (first_refusal next ≡ None → Within may next) → Within may (option_map fault broken >> next)
  within_unbroken fault None next is h = h is
  within_unbroken fault (Some x) next is h = cc

  -- where the words do not refuse, there is a value
  within_said : {A F : Type 0} (fault : F → Fault) (r : Result A F) → first_refusal (understood fault r) ≡ None → Within may (understood fault r)
  unfolding Within
  within_said fault (Ok x) is = tt
  within_said fault (Err f) is = cc

  pub register_within : (name : List ℕ) → AllowsReads may → ((f : RegisterFault) → may (fault_line (BadRegister f)).status ≡ true) → Within may (register_under name)
  unfolding register_under
  register_within name reads h = within_then (blob name) (λ bytes. understood BadRegister (register_of bytes)) (within_blob name reads) (λ bytes. within_understood BadRegister (register_of bytes) h)

  word_within : (name : List ℕ) (m : ℕ) → AllowsReads may → ((f : WordFault) → may (fault_line (BadWord f)).status ≡ true) → Within may (word_under name m)
  unfolding word_under
  word_within name m reads h = within_then (blob name) (λ bytes. understood BadWord (word_of m bytes)) (within_blob name reads) (λ bytes. within_understood BadWord (word_of m bytes) h)

-- ---- the commands, where their words do not refuse them

pub make_within : (m k a b : ℕ) → first_refusal (make m k a b) ≡ None → Within (may_end make_statuses) (make m k a b)
unfolding make
make_within m k a b is =
    let may = may_end make_statuses in
    within_unbroken may BadParameters (broken_rule m k a b) _ is (λ is. within_give may _)

enrolled_within : (e : Enrolment) (name : List ℕ) → Within (may_end enrol_statuses) (enrolled e name)
unfolding enrolled
enrolled_within e name =
    let may = may_end enrol_statuses in
    within_then may (understood NotEnrolled (enrolment_of e name)) _ (within_understood may NotEnrolled (enrolment_of e name) may_refuse) (λ serial. within_give may _)
  where
    may_refuse : (why : NameRefusal) → may_end enrol_statuses (fault_line (NotEnrolled why)).status ≡ true
    may_refuse refusals.BadName = refl
    may_refuse (refusals.NameTaken serial) = refl
    may_refuse (refusals.Full licensees) = refl

pub enrol_within : (register name out : List ℕ) → first_refusal (enrol register name out) ≡ None → Within (may_end enrol_statuses) (enrol register name out)
unfolding enrol
enrol_within register name out is =
    let may = may_end enrol_statuses in
    let reads : AllowsReads may = record { missing = refl; failed = refl; long = refl } in
    within_words may (not (bytes_eq out register)) (SameName out) _ is (λ is. within_then may (register_under register) _ (register_within may register reads (λ f. refl))
    (λ e. within_then may (enrolled e name) _ (enrolled_within e name) (λ f. within_give may _)))

withdrawn_within : (e : Enrolment) (name : List ℕ) → Within (may_end withdraw_statuses) (withdrawn e name)
unfolding withdrawn
withdrawn_within e name =
    let may = may_end withdraw_statuses in
    within_then may (found (Unknown name) (serial_of (names_of e.licensees) name)) _ (within_found may (Unknown name) (serial_of (names_of e.licensees) name) refl)
    (λ serial. within_met may (is_active e serial) (Withdrawn name) _ refl (within_give may _))

pub withdraw_within : (register name out : List ℕ) → first_refusal (withdraw register name out) ≡ None → Within (may_end withdraw_statuses) (withdraw register name out)
unfolding withdraw
withdraw_within register name out is =
    let may = may_end withdraw_statuses in
    let reads : AllowsReads may = record { missing = refl; failed = refl; long = refl } in
    within_words may (not (bytes_eq out register)) (SameName out) _ is (λ is. within_then may (register_under register) _ (register_within may register reads (λ f. refl))
    (λ e. within_then may (withdrawn e name) _ (withdrawn_within e name) (λ f. within_give may _)))

allowed_within : (k c : ℕ) → Within (may_end accuse_statuses) (allowed k c)
unfolding allowed
allowed_within k c = within_met (may_end accuse_statuses) (is_allowed_bound k c) (BadBound c) _ refl (within_give (may_end accuse_statuses) c)

report_within : (e : Enrolment) (word : List (Option ℕ)) (c : ℕ) → Within (may_end accuse_statuses) (report e word c)
unfolding report
report_within e word c =
    within_met (may_end accuse_statuses) (nat_lt (not_enough e.dimension c) (readable word)) (TooFew (readable word) (not_enough e.dimension c)) _ refl (within_give (may_end accuse_statuses) _)

pub accuse_within : (register word : List ℕ) (c : ℕ) → Within (may_end accuse_statuses) (accuse register word c)
unfolding accuse
accuse_within register word c =
    let may = may_end accuse_statuses in
    let reads : AllowsReads may = record { missing = refl; failed = refl; long = refl } in
    within_then may (register_under register) _ (register_within may register reads (λ f. refl)) (λ e.
    within_then may (allowed e.dimension c) _ (allowed_within e.dimension c) (λ bound.
    within_then may (word_under word e.bits) _ (word_within may word e.bits reads (λ f. refl)) (λ slots. report_within e slots bound)))

pub sample_within : (number : ℕ) → first_refusal (sample number) ≡ None → Within (may_end sample_statuses) (sample number)
unfolding sample
sample_within number is = within_said (may_end sample_statuses) same_digest (sampled number) is
