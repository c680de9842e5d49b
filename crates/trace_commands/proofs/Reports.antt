-- What the command answers, from what the desk answered.
use Rattle.std.proofs.Common.{◌≡◌, ℕ, List, Bool, true, false, Option, Ok, Err, ap, subst}
use Rattle.std.specs.Prelude.{nat_lt, if◌then◌else◌}
use Rattle.code_terms.specs.Words.{readable}
use Rattle.decoding_terms.specs.Parameters.{is_allowed_bound}
use Rattle.decoder_terms.specs.Decoding.{not_enough}
use Rattle.register_terms.specs.Enrolment.{Enrolment, IsValid}
use Rattle.desk_terms.specs.declared.findings.Findings.{Findings}
use Rattle.desk_terms.specs.Findings.{findings}
use Rattle.desk_terms.specs.Report.{report_text}
use Rattle.desk_terms.specs.Roll.{roll_of}
use Rattle.desk_terms.proofs.Rolls.{roll_of-is_roll}
use Rattle.trace_desk.specs.declared.desk_error.DeskError.{DeskError}
use Rattle.trace_desk.specs.declared.desk_error.DeskError.TheVariants.{BadBound, TooFew, Memory}
use Rattle.trace_desk.specs.Answers.{tracing, TracesAs}
use Rattle.outcome_terms.specs.declared.fault.Fault.{Fault}
use Rattle.outcome_terms.specs.declared.fault.Fault.TheVariants as fault
use Rattle.outcome_terms.specs.Reading.{Give, Refuse, ◌>>◌, require}
use Rattle.outcome_terms.specs.Stores.{Settles}
use Rattle.outcome_terms.specs.AccuseCommand.{report}
use Rattle.report_terms.specs.Values.{HasPlainNames}
use Rattle.report_terms.proofs.DeskFindings.{findings_plain}
use Rattle.trace_commands.specs.Refusals.{refused_as}

found_by : (allowed enough : Bool) (found f : Findings) (few : DeskError) (why : Fault) → allowed ≡ true → (if allowed then (if enough then Ok found else Err few) else Err BadBound) ≡ Ok f
    → (require enough why >> Give (report_text found)) ≡ Give (report_text f)
found_by true true found f few why is h = let same : found ≡ f = cc in ap (λ (x : Findings). Give (report_text x)) same
found_by true false found f few why is h = cc
found_by false enough found f few why is h = cc

pub report_found : (e : Enrolment) (word : List (Option ℕ)) (c : ℕ) (f : Findings) → is_allowed_bound e.dimension c ≡ true → tracing (roll_of e) word c ≡ Ok f → report e word c ≡ Give (report_text f)
unfolding report
report_found e word c f allowed h =
    found_by (is_allowed_bound e.dimension c) (nat_lt (not_enough e.dimension c) (readable word)) (findings (roll_of e) word c) f (TooFew (readable word))
    (fault.TooFew (readable word) (not_enough e.dimension c)) allowed h

refused_by : (allowed enough : Bool) (found : Findings) (r k c : ℕ) (error : DeskError) → allowed ≡ true → TracesAs (Err error) (if allowed then (if enough then Ok found else Err (TooFew r)) else Err BadBound)
    → Settles (Err (refused_as k c error)) (require enough (fault.TooFew r (not_enough k c)) >> Give (report_text found))
refused_by allowed enough found r k c Memory is h = tt
refused_by true true found r k c BadBound is h = cc
refused_by true false found r k c BadBound is h = cc
refused_by false enough found r k c BadBound is h = cc
refused_by true true found r k c (TooFew s) is h = cc
refused_by true false found r k c (TooFew s) is h = let same : r ≡ s = cc in ap (λ n. Refuse (fault.TooFew n (not_enough k c))) same
refused_by false enough found r k c (TooFew s) is h = cc

pub report_refused : (e : Enrolment) (word : List (Option ℕ)) (c : ℕ) (error : DeskError) → is_allowed_bound e.dimension c ≡ true → TracesAs (Err error) (tracing (roll_of e) word c)
    → Settles (Err (refused_as e.dimension c error)) (report e word c)
unfolding report
report_refused e word c error allowed h =
    refused_by (is_allowed_bound e.dimension c) (nat_lt (not_enough e.dimension c) (readable word)) (findings (roll_of e) word c) (readable word) e.dimension c error allowed h

found_plain : (allowed enough : Bool) (found f : Findings) (few : DeskError) → HasPlainNames found → (if allowed then (if enough then Ok found else Err few) else Err BadBound) ≡ Ok f → HasPlainNames f
found_plain true true found f few plain h = let same : found ≡ f = cc in subst HasPlainNames same plain
found_plain true false found f few plain h = cc
found_plain false enough found f few plain h = cc

-- the names of a register are plain, and so are those that the desk finds in it
pub report_plain : (e : Enrolment) (word : List (Option ℕ)) (c : ℕ) (f : Findings) → IsValid e → tracing (roll_of e) word c ≡ Ok f → HasPlainNames f
report_plain e word c f valid h =
    found_plain (is_allowed_bound e.dimension c) (nat_lt (not_enough e.dimension c) (readable word)) (findings (roll_of e) word c) f (TooFew (readable word))
    (findings_plain (roll_of e) word c (roll_of-is_roll e valid)) h
