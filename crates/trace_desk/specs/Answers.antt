-- What the desk answers. This project's own.
use Rattle.std.specs.Prelude.{ℕ, nat_lt, if◌then◌else◌, List, Option, Some, None, Result, Ok, Err, length}
use Rattle.text_terms.specs.Answers.{AnswersAs}
use Rattle.code_terms.specs.Words.{readable}
use Rattle.decoding_terms.specs.Parameters.{is_allowed_bound}
use Rattle.decoder_terms.specs.Decoding.{not_enough}
use Rattle.desk_terms.specs.declared.findings.Findings.{Findings}
use Rattle.desk_terms.specs.Findings.{findings}
use Rattle.desk_terms.specs.Roll.{Roll}
use Rattle.pair_terms.specs.Pairs.{Pair}
use Rattle.merge_terms.specs.Merged.{accused_by}
use Rattle.desk_terms.specs.declared.findings.Accused.{Accused}
use Rattle.trace_desk.specs.declared.desk_error.DeskError.{DeskError}
use Rattle.trace_desk.specs.declared.desk_error.DeskError.TheVariants.{BadBound, TooFew, Memory}

-- those who are accused over some pairs; refused are first a bound that codes of this dimension don't allow, and then too few pairs
abbrev pub accusing : Roll → List Pair → ℕ → Result (List Accused) DeskError
accusing roll pairs c =
    if is_allowed_bound roll.dimension c then (if nat_lt (not_enough roll.dimension c) (length pairs) then Ok (accused_by roll pairs c) else Err (TooFew (length pairs))) else Err BadBound

-- the findings; refused are first a bound that codes of this dimension don't allow, and then too few readable places
abbrev pub tracing : Roll → List (Option ℕ) → ℕ → Result Findings DeskError
tracing roll word c =
    if is_allowed_bound roll.dimension c then (if nat_lt (not_enough roll.dimension c) (readable word) then Ok (findings roll word c) else Err (TooFew (readable word))) else Err BadBound

abbrev pub refusal_in : DeskError → Option DeskError
refusal_in BadBound = Some BadBound
refusal_in (TooFew readable) = Some (TooFew readable)
refusal_in Memory = None

-- what is wanted is answered; only want of memory may come in place of it
abbrev pub TracesAs : Result Findings DeskError → Result Findings DeskError → Type 0
TracesAs result wanted = AnswersAs refusal_in result wanted

abbrev pub AccusesAs : Result (List Accused) DeskError → Result (List Accused) DeskError → Type 0
AccusesAs result wanted = AnswersAs refusal_in result wanted
