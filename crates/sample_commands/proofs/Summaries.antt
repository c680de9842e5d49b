-- What the reading of a sample settles.
use Rattle.std.proofs.Common.{◌≡◌, ◌∙◌, ℕ, ◌+◌, ◌*◌, ◌/◌, ◌%◌, ◌<◌, List, Vec, Ok, Err, ap, ap₂, arith}
use Rattle.sample_terms.specs.Summary.{sampled}
use Rattle.text_terms.specs.Answers.{RefusesAs}
use Rattle.sample_maker.specs.Answers.{SamplesAs, twins_in}
use Rattle.sample_maker.specs.declared.error.SampleError.{SampleError}
use Rattle.sample_maker.specs.declared.error.SampleError.TheVariants.{Duplicate, Memory}
use Rattle.outcome_terms.specs.declared.fault.Fault.{Fault}
use Rattle.outcome_terms.specs.declared.fault.Fault.TheVariants as fault
use Rattle.outcome_terms.specs.Reading.{Refuse, understood}
use Rattle.outcome_terms.specs.SampleCommand.{same_digest, sample}
use Rattle.outcome_terms.specs.Stores.{Settles}
use Rattle.sample_commands.specs.Refusals.{HasSymbols, refused_as}

-- a place and a symbol from the number of a variant
place_of : (place symbol : ℕ) → symbol < 256 → (place * 256 + symbol) / 256 ≡ place
place_of place symbol small = omega (arith, small)

symbol_of : (place symbol : ℕ) → symbol < 256 → (place * 256 + symbol) % 256 ≡ symbol
symbol_of place symbol small = omega (arith, small)

same_again : (place symbol again_place again_symbol : ℕ) → symbol < 256 → again_symbol < 256
    → same_digest (place * 256 + symbol, again_place * 256 + again_symbol) ≡ fault.Duplicate place symbol again_place again_symbol
same_again place symbol again_place again_symbol small again_small =
    let one = place_of place symbol small in
    let two = symbol_of place symbol small in
    let three = place_of again_place again_symbol again_small in
    let four = symbol_of again_place again_symbol again_small in
    ap₂ (λ (a b : ℕ). fault.Duplicate a b ((again_place * 256 + again_symbol) / 256) ((again_place * 256 + again_symbol) % 256)) one two
    ∙ ap₂ (λ (a b : ℕ). fault.Duplicate place symbol a b) three four

pub summed_up : {Z : Type 0} (number : ℕ) (text : Vec ℕ Z) → SamplesAs (Ok text) (sampled number) → Settles (Ok text.items) (sample number)
unfolding sample
summed_up number text is = ap (understood same_digest) is

pub not_summed_up : (number : ℕ) (error : SampleError) → HasSymbols error → RefusesAs (twins_in error) (sampled number) → Settles {A = List ℕ} (Err (refused_as error)) (sample number)
unfolding sample
not_summed_up number Memory symbols is = tt
not_summed_up number (Duplicate place symbol again_place again_symbol) symbols is =
    ap (understood same_digest) is ∙ ap (λ (f : Fault). Refuse f) (same_again place symbol again_place again_symbol symbols.0 symbols.1)
