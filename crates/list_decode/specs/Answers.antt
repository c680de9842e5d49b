-- What a decoder answers.
-- Source: this project's own.
use Rattle.std.specs.Prelude.{◌≡◌, ℕ, ◌-◌, ◌≤◌, nat_lt, if◌then◌else◌, List, Option, Some, None, Result, Ok, Err, length}
use Rattle.text_terms.specs.Answers.{AnswersAs}
use Rattle.code_terms.specs.Words.{readable}
use Rattle.decoding_terms.specs.Parameters.{AreEnough, AreParameters, is_allowed_bound}
use Rattle.decoder_terms.specs.Decoding.{decoded, not_enough}
use Rattle.pair_terms.specs.Pairs.{Pair}
use Rattle.pair_terms.specs.Recovery.{recovered}
use Rattle.gs_params.specs.declared.parameters.Params.{Params}
use Rattle.list_decode.specs.declared.decode_error.DecodeError.{DecodeError}
use Rattle.list_decode.specs.declared.decode_error.DecodeError.TheVariants.{BadBound, TooFew, Memory}

-- the messages that fit enough pairs; refused are first a bound that codes of this dimension don't allow, and then too few pairs
abbrev pub recovering : (m k : ℕ) → List Pair → ℕ → Result (List ℕ) DecodeError
recovering m k pairs c =
    if is_allowed_bound k c then (if nat_lt (not_enough k c) (length pairs) then Ok (recovered m k pairs c) else Err (TooFew (length pairs))) else Err BadBound

-- the messages that meet the threshold; refused are first a bound that codes of this dimension don't allow, and then too few readable places
abbrev pub decoding : (m k : ℕ) → List (Option ℕ) → ℕ → Result (List ℕ) DecodeError
decoding m k word c =
    if is_allowed_bound k c then (if nat_lt (not_enough k c) (readable word) then Ok (decoded m k word c) else Err (TooFew (readable word))) else Err BadBound

abbrev pub refusal_in : DecodeError → Option DecodeError
refusal_in BadBound = Some BadBound
refusal_in (TooFew readable) = Some (TooFew readable)
refusal_in Memory = None

-- what is wanted is answered; only want of memory may come in place of it
abbrev pub DecodesAs : Result (List ℕ) DecodeError → Result (List ℕ) DecodeError → Type 0
DecodesAs result wanted = AnswersAs refusal_in result wanted

-- a curve through r points, where those are enough, costs at most so many products with the parameters that are chosen for it
abbrev pub CostsAtMost : (Params → ℕ) → (k c r most : ℕ) → Type 0
CostsAtMost cost k c r most = AreEnough (k - 1) c r → (p : Params) → p.w ≡ k - 1 → p.r ≡ r → AreParameters (k - 1) c r p.t p.s p.e → cost p ≤ most
