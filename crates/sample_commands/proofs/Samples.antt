-- What a done `sample` says.
use Rattle.std.proofs.Common.{◌≡◌, ℕ, List, Option, Some, None, Result, Ok, Err, refl, sym, subst}
use Rattle.desk_terms.specs.Roll.{roll_of}
use Rattle.coalition_terms.specs.Coalition.{IsTraced}
use Rattle.sample_terms.specs.Numbers.{coalition}
use Rattle.sample_terms.specs.Inputs.{register_of, twins, variants}
use Rattle.sample_terms.specs.Summary.{sampled, summary_of, unless_twins}
use Rattle.sample_terms.proofs.Reading.{word_is}
use Rattle.sample_maker.proofs.Traced.{sample_traced}
use Rattle.outcome_terms.specs.declared.status.Status.{Status}
use Rattle.outcome_terms.specs.declared.status.Status.TheVariants as status
use Rattle.outcome_terms.specs.declared.refusal.Refusal.{Refusal}
use Rattle.outcome_terms.specs.Reading.{understood}
use Rattle.outcome_terms.specs.Stores.{Follows, gave}
use Rattle.records.specs.Stores.{Store, Output}
use Rattle.outcome_terms.specs.SampleCommand.{same_digest, sample}
use Rattle.outcome_terms.specs.Commands.{Put}
use Rattle.outcome_terms.specs.Outcome.{Performs, made, not_made}
use Rattle.outcome_terms.specs.Output.{Delivers, PutFailed}
use Rattle.outcome_terms.specs.Call.{TellsWhole}
use Rattle.outcome_terms.proofs.Calls.{ends_with, refusal_not_done, whole_told}
use Rattle.sample_commands.specs.Samples.{SumsUp}
use Rattle.sample_commands.proofs.Registers.{sample_register}

-- what a settled reading gave is what was understood
gave_text : {s t : Store} {text : List ℕ} (r : Result (List ℕ) (ℕ × ℕ)) → Follows (understood same_digest r) s t (Ok text) → r ≡ Ok text
gave_text (Ok text) gave = refl
gave_text (Err pair) p = elim p [ ]

record IsAlone (number : ℕ) (text : List ℕ) : Type 0 where
  alone : twins number variants ≡ None
  is_text : text ≡ summary_of number

alone_by : (number : ℕ) (text : List ℕ) (pair : Option (ℕ × ℕ)) → twins number variants ≡ pair → unless_twins pair (summary_of number) ≡ Ok text → IsAlone number text
alone_by number text None is h = let same : summary_of number ≡ text = cc in record { alone = is; is_text = sym same }
alone_by number text (Some pair) is h = absurd cc

summed : (number : ℕ) (text : List ℕ) → sampled number ≡ Ok text → IsAlone number text
unfolding sampled
summed number text h = alone_by number text (twins number variants) refl h

sums_up_by : (number : ℕ) (text : List ℕ) (before after : Option (List ℕ)) → IsAlone number text → TellsWhole text before after → SumsUp number before after
sums_up_by number text before after h put = record {
  alone = h.alone;
  put = subst (λ (t : List ℕ). TellsWhole t before after) h.is_text put;
  traced = subst (λ (word : List (Option ℕ)). IsTraced (roll_of (register_of number)) word 3 (coalition number)) (sym (word_is number h.alone)) (sample_traced number (sample_register number));
}

pub sums_up : (number : ℕ) {old new : Store} {answer : Result (Option (List ℕ)) Refusal} (s : Status) (before after : Output)
    → Performs (Put (sample number)) old new answer → Delivers answer s before after → s ≡ status.Ok → SumsUp number before.written after.written
unfolding sample
sums_up number s before after (made {text = text} p) delivered ok =
    sums_up_by number text before.written after.written (summed number text (gave_text (sampled number) p)) (whole_told s text before.written after.written ok delivered.out)
sums_up number s before after (not_made {e = e} p) delivered ok = refusal_not_done e s (PutFailed before after) (ends_with (Err e) s before after delivered) ok
