-- What a done command says, from what its reading gave.
use Rattle.std.proofs.Common.{◌≡◌, ◌≢◌, ◌∙◌, ℕ, ◌<◌, List, true, Option, Some, None, Result, Ok, Err, refl, sym, ap, subst, arith}
use Rattle.std.specs.Prelude.{not, nat_lt, length}
use Rattle.std.specs.Option.{option_map}
use Rattle.std.specs.Result.{result_err}
use Rattle.std.specs.Str.{bytes_eq}
use Rattle.std.specs.FinMap.{insert}
use Rattle.std.proofs.lemmas.Bool.Decides.{nat_tests}
use Rattle.text_terms.specs.Names.{is_plain}
use Rattle.shelf_terms.specs.Blobs.{Blobs}
use Rattle.code_terms.specs.Words.{readable}
use Rattle.code_terms.specs.WordText.{word_of}
use Rattle.register_terms.specs.Enrolment.{Enrolment, names_of, capacity, serial_of}
use Rattle.register_terms.specs.Rules.{empty_register, with_name, with_withdrawn, is_active, broken_rule, enrolment_of, kind_of}
use Rattle.register_terms.specs.RegisterText.{register_of, register_text}
use Rattle.register_terms.specs.declared.refusal.NameRefusal.{NameRefusal}
use Rattle.register_terms.proofs.Serials.{bytes_eq-own}
use Rattle.register_terms.proofs.Growing.{is_welcome}
use Rattle.register_terms.proofs.HeaderLines.{rule_of}
use Rattle.decoding_terms.specs.Parameters.{is_allowed_bound}
use Rattle.decoder_terms.specs.Decoding.{not_enough}
use Rattle.desk_terms.specs.Findings.{findings}
use Rattle.desk_terms.specs.Roll.{roll_of}
use Rattle.desk_terms.specs.Report.{report_text}
use Rattle.outcome_terms.specs.declared.refusal.Refusal.{Refusal}
use Rattle.outcome_terms.specs.declared.fault.Fault.{Fault}
use Rattle.outcome_terms.specs.declared.fault.Fault.TheVariants.{Unknown, Withdrawn, BadRegister, BadBound, TooFew, NotEnrolled, SameName, BadWord, BadParameters}
use Rattle.outcome_terms.specs.Reading.{found, blob, understood, given}
use Rattle.outcome_terms.specs.Stores.{Writing, Exactly, IsWriting}
use Rattle.outcome_terms.specs.Registers.{register_under}
use Rattle.outcome_terms.specs.RegisterCommand.{make}
use Rattle.outcome_terms.specs.EnrolCommand.{enrolled, enrol}
use Rattle.outcome_terms.specs.WithdrawCommand.{withdrawn, withdraw}
use Rattle.outcome_terms.specs.AccuseCommand.{allowed, word_under, report, accuse}
use Rattle.outcome_terms.specs.Outcome.{HasWritten, puts, writes}
use Rattle.records.specs.Stores.{Output}
use Rattle.outcome_terms.specs.Call.{HasEffect, TellsWhole}
use Rattle.outcome_terms.specs.Reports.{HoldsRegister, HoldsWord, MakesRegister, EnrolsName, WithdrawsName, IsReport, TellsReport}
use Rattle.outcome_terms.proofs.Givens.{took, met, not_found, was_given, was_understood, was_held}

pub register_held : (blobs : Blobs) (name : List ℕ) (e : Enrolment) → given blobs (register_under name) ≡ Ok e → HoldsRegister blobs name e
unfolding register_under
register_held blobs name e h =
    let t = took blobs (blob name) (λ bytes. understood BadRegister (register_of bytes)) e h in
    record { bytes = t.value; held = was_held blobs name t.value t.first; read = was_understood blobs BadRegister (register_of t.value) e t.then }

word_held : (blobs : Blobs) (name : List ℕ) (m : ℕ) (word : List (Option ℕ)) → given blobs (word_under name m) ≡ Ok word → HoldsWord blobs name m word
unfolding word_under
word_held blobs name m word h =
    let t = took blobs (blob name) (λ bytes. understood BadWord (word_of m bytes)) word h in
    record { bytes = t.value; held = was_held blobs name t.value t.first; read = was_understood blobs BadWord (word_of m t.value) word t.then }

-- ---- a text that was written

record Written (blobs : Blobs) (out : List ℕ) (wanted : Result Writing Refusal) (told : Option Blobs) : Type 0 where
  writing : Writing
  is : wanted ≡ Ok writing
  has : HasWritten blobs out writing told

written : (blobs : Blobs) (out : List ℕ) (wanted : Result Writing Refusal) (told : Option Blobs) (before after : Output) → HasEffect (writes out wanted) blobs told before after → Written blobs out wanted told
written blobs out (Ok writing) told before after h = record { writing = writing; is = refl; has = h.0 }
written blobs out (Err e) told before after h = absurd h

exactly : (blobs : Blobs) (out text : List ℕ) (writing : Writing) (told : Option Blobs) → Exactly text ≡ writing → HasWritten blobs out writing told → told ≡ Some (insert blobs out text)
exactly blobs out text writing told is h = h.after ∙ ap (λ t. Some (insert blobs out t)) (subst (λ w. IsWriting w h.text) (sym is) h.is_writing)

pub register_made : (blobs : Blobs) (m k a b : ℕ) (out : List ℕ) (told : Option Blobs) (before after : Output) → HasEffect (writes out (given blobs (make m k a b))) blobs told before after → MakesRegister blobs m k a b out told
unfolding make
register_made blobs m k a b out told before after h =
    let w = written blobs out (given blobs (make m k a b)) told before after h in
    let unbroken = not_found blobs BadParameters (broken_rule m k a b) _ w.writing w.is in
    let rule = rule_of m k a b unbroken.none in
    record {
      bits = rule.bits;
      dimension = rule.dimension;
      multiplier = rule.multiplier;
      shift = rule.shift;
      after = exactly blobs out (register_text (empty_register m k a b)) w.writing told (was_given blobs _ w.writing unbroken.then) w.has;
    }

record Joined (e : Enrolment) (name : List ℕ) (f : Enrolment) : Type 0 where
  plain : is_plain name ≡ true
  new_name : serial_of (names_of e.licensees) name ≡ None
  room : length e.licensees < capacity e
  is : with_name e name ≡ f

joined : (blobs : Blobs) (e : Enrolment) (name : List ℕ) (f : Enrolment) → given blobs (enrolled e name) ≡ Ok f → Joined e name f
unfolding enrolled
joined blobs e name f h =
    let first = took blobs (understood NotEnrolled (enrolment_of e name)) _ f h in
    let gets = was_understood blobs NotEnrolled (enrolment_of e name) first.value first.first in
    let welcome = is_welcome e name (ap (λ (r : Result ℕ NameRefusal). option_map kind_of (result_err r)) gets) in
    record { plain = welcome.plain; new_name = welcome.new; room = welcome.room; is = was_given blobs (with_name e name) f first.then }

record Left (e : Enrolment) (name : List ℕ) (f : Enrolment) : Type 0 where
  serial : ℕ
  enrolled : serial_of (names_of e.licensees) name ≡ Some serial
  active : is_active e serial ≡ true
  is : with_withdrawn e serial ≡ f

pub was_found : {A : Type 0} (blobs : Blobs) (fault : Fault) (o : Option A) (x : A) → given blobs (found fault o) ≡ Ok x → o ≡ Some x
unfolding given
was_found blobs fault (Some y) x h = ap Some (was_given blobs y x h)
was_found blobs fault None x h = cc

left : (blobs : Blobs) (e : Enrolment) (name : List ℕ) (f : Enrolment) → given blobs (withdrawn e name) ≡ Ok f → Left e name f
unfolding withdrawn
left blobs e name f h =
    let first = took blobs (found (Unknown name) (serial_of (names_of e.licensees) name)) _ f h in
    let active = met blobs (is_active e first.value) (Withdrawn name) _ f first.then in
    record { serial = first.value; enrolled = was_found blobs (Unknown name) (serial_of (names_of e.licensees) name) first.value first.first; active = active.so; is = was_given blobs (with_withdrawn e first.value) f active.then }

pub differs : (x y : List ℕ) → not (bytes_eq x y) ≡ true → x ≢ y
differs x y h same =
    let own : bytes_eq x y ≡ true = ap (λ z. bytes_eq x z) (sym same) ∙ bytes_eq-own x in
    let no : not true ≡ true = sym (ap not own) ∙ h in cc

pub name_enrolled : (blobs : Blobs) (register name out : List ℕ) (told : Option Blobs) (before after : Output) → HasEffect (writes out (given blobs (enrol register name out))) blobs told before after → EnrolsName blobs register name out told
unfolding enrol
name_enrolled blobs register name out told before after h =
    let w = written blobs out (given blobs (enrol register name out)) told before after h in
    let other = met blobs (not (bytes_eq out register)) (SameName out) _ w.writing w.is in
    let first = took blobs (register_under register) _ w.writing other.then in
    let second = took blobs (enrolled first.value name) _ w.writing first.then in
    let j = joined blobs first.value name second.value second.first in
    record {
      enrolment = first.value;
      holds_register = register_held blobs register first.value first.first;
      other = differs out register other.so;
      plain = j.plain;
      new_name = j.new_name;
      room = j.room;
      after = exactly blobs out (register_text (with_name first.value name)) w.writing told (ap (λ f. Exactly (register_text f)) j.is ∙ was_given blobs _ w.writing second.then) w.has;
    }

-- ---- a report that was put out

record Allowed (k c bound : ℕ) : Type 0 where
  allowed : is_allowed_bound k c ≡ true
  same : c ≡ bound

was_allowed : (blobs : Blobs) (k c bound : ℕ) → given blobs (allowed k c) ≡ Ok bound → Allowed k c bound
unfolding allowed
was_allowed blobs k c bound h =
    let so = met blobs (is_allowed_bound k c) (BadBound c) _ bound h in
    record { allowed = so.so; same = was_given blobs c bound so.then }

pub record Reported (e : Enrolment) (word : List (Option ℕ)) (c : ℕ) (text : List ℕ) : Type 0 where
  pub enough : not_enough e.dimension c < readable word
  pub is : report_text (findings (roll_of e) word c) ≡ text

pub reported : (blobs : Blobs) (e : Enrolment) (word : List (Option ℕ)) (c : ℕ) (text : List ℕ) → given blobs (report e word c) ≡ Ok text → Reported e word c text
unfolding report
reported blobs e word c text h =
    let m = met blobs (nat_lt (not_enough e.dimension c) (readable word)) (TooFew (readable word) (not_enough e.dimension c)) _ text h in
    record { enough = (let so = m.so in grind (arith, nat_tests)); is = was_given blobs (report_text (findings (roll_of e) word c)) text m.then }

pub accuse_report : (blobs : Blobs) (register word : List ℕ) (c : ℕ) (text : List ℕ) → given blobs (accuse register word c) ≡ Ok text → IsReport blobs register word c text
unfolding accuse
accuse_report blobs register word c text h =
    let first = took blobs (register_under register) _ text h in
    let second = took blobs (allowed first.value.dimension c) _ text first.then in
    let third = took blobs (word_under word first.value.bits) _ text second.then in
    let bound = was_allowed blobs first.value.dimension c second.value second.first in
    let last = reported blobs first.value third.value c text (ap (λ bound. given blobs (report first.value third.value bound)) bound.same ∙ third.then) in
    record {
      register = first.value;
      word = third.value;
      holds_register = register_held blobs register first.value first.first;
      bound_allowed = bound.allowed;
      holds_word = word_held blobs word first.value.bits third.value third.first;
      enough = last.enough;
      report = sym last.is;
    }

-- the report of a done command, whatever the output tells
pub record HasReport (blobs : Blobs) (register word : List ℕ) (c : ℕ) (before after : Option (List ℕ)) : Type 0 where
  pub text : List ℕ
  pub is_report : IsReport blobs register word c text
  pub put : TellsWhole text before after

pub report_put : (blobs : Blobs) (register word : List ℕ) (c : ℕ) (told : Option Blobs) (before after : Output) → HasEffect (puts (given blobs (accuse register word c))) blobs told before after
    → HasReport blobs register word c before.written after.written
report_put blobs register word c told before after h = go (given blobs (accuse register word c)) refl h
  where
    go : (wanted : Result (List ℕ) Refusal) → given blobs (accuse register word c) ≡ wanted → HasEffect (puts wanted) blobs told before after → HasReport blobs register word c before.written after.written
    go (Ok text) is h = record { text = text; is_report = accuse_report blobs register word c text is; put = h.1 }
    go (Err e) is h = absurd h

pub report_told : (blobs : Blobs) (register word : List ℕ) (c : ℕ) (before after : Option (List ℕ)) → HasReport blobs register word c before after → TellsReport (Some blobs) register word c before after
report_told blobs register word c (Some before) (Some after) h = record { text = h.text; is_report = h.is_report; put = h.put }
report_told blobs register word c (Some before) None h = h.put
report_told blobs register word c None after h = tt

pub name_withdrawn : (blobs : Blobs) (register name out : List ℕ) (told : Option Blobs) (before after : Output) → HasEffect (writes out (given blobs (withdraw register name out))) blobs told before after → WithdrawsName blobs register name out told
unfolding withdraw
name_withdrawn blobs register name out told before after h =
    let w = written blobs out (given blobs (withdraw register name out)) told before after h in
    let other = met blobs (not (bytes_eq out register)) (SameName out) _ w.writing w.is in
    let first = took blobs (register_under register) _ w.writing other.then in
    let second = took blobs (withdrawn first.value name) _ w.writing first.then in
    let l = left blobs first.value name second.value second.first in
    record {
      enrolment = first.value;
      serial = l.serial;
      holds_register = register_held blobs register first.value first.first;
      other = differs out register other.so;
      enrolled = l.enrolled;
      active = l.active;
      after = exactly blobs out (register_text (with_withdrawn first.value l.serial)) w.writing told (ap (λ f. Exactly (register_text f)) l.is ∙ was_given blobs _ w.writing second.then) w.has;
    }
