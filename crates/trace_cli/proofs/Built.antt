-- How many products a trace takes whose curve is built point by point.
use Rattle.std.proofs.Common.{◌≡◌, ℕ, ◌≤◌, List, length, Option, Some, None, IfSome, Result, Ok, Err, refl, sym, subst, arith}
use Rattle.shelf_terms.specs.Blobs.{Blobs}
use Rattle.code_terms.specs.Words.{readable}
use Rattle.code_terms.proofs.PlaceLaws.{readable-few}
use Rattle.gs_params.specs.declared.parameters.Params.{Params}
use Rattle.trace_desk.proofs.CurveCosts.{iterative_cost}
use Rattle.outcome_terms.specs.declared.refusal.Refusal.{Refusal}
use Rattle.outcome_terms.specs.Request.{Request, Trace as Traces, Accuse, Sample}
use Rattle.outcome_terms.specs.Reading.{Give, given}
use Rattle.outcome_terms.specs.Registers.{register_under}
use Rattle.outcome_terms.specs.AccuseCommand.{allowed, word_under, accuse_trace}
use Rattle.outcome_terms.specs.SampleCommand.{sample_trace}
use Rattle.outcome_terms.specs.Traces.{Trace, Counted, IsWithin, trace_at}
use Rattle.outcome_terms.specs.Spending.{TakesGiven, TakesAtMost, trace_made}
use Rattle.outcome_terms.specs.PackageCommand.{title_under, mismatch}
use Rattle.outcome_terms.specs.TraceCommand.{is_served, word_shown, trace_trace}
use Rattle.outcome_terms.specs.declared.fault.Fault.TheVariants.{BadBound}
use Rattle.packaging_terms.specs.Licensees.{fits}
use Rattle.outcome_terms.proofs.Givens.{took, met, was_given}
use Rattle.trace_costs.specs.Costs.{IsBuilt, built_costs, curve_costs}

-- no more places are readable than there are
few_readable : (blobs : Blobs) (register word : List ℕ) (c : ℕ) (trace : Trace) → given blobs (accuse_trace register word c) ≡ Ok trace → trace.readable ≤ trace.places
unfolding accuse_trace
few_readable blobs register word c trace is =
    let first = took blobs (register_under register) _ trace is in
    let second = took blobs (allowed first.value.dimension c) _ trace first.then in
    let third = took blobs (word_under word first.value.bits) _ trace second.then in
    subst (λ (t : Trace). t.readable ≤ t.places) (was_given blobs (trace_at first.value.dimension third.value second.value) trace third.then) (readable-few third.value)

-- the same of a copy's word
few_shown : (blobs : Blobs) (title register copy : List ℕ) (c : ℕ) (trace : Trace) → given blobs (trace_trace title register copy c) ≡ Ok trace → trace.readable ≤ trace.places
unfolding trace_trace
few_shown blobs title register copy c trace is =
    let t = took blobs (title_under title) _ trace is in
    let e = took blobs (register_under register) _ trace t.then in
    let same = met blobs (fits t.value e.value) (mismatch t.value e.value) _ trace e.then in
    let served = met blobs (is_served t.value c) (BadBound c) _ trace same.then in
    let word = took blobs (word_shown t.value copy) _ trace served.then in
    subst (λ (t : Trace). t.readable ≤ t.places) (was_given blobs (trace_at e.value.dimension word.value c) trace word.then) (readable-few word.value)

-- and of a sample's
few_sampled : (blobs : Blobs) (trace : Trace) → given blobs (Give sample_trace) ≡ Ok trace → trace.readable ≤ trace.places
few_sampled blobs trace is = subst (λ (t : Trace). t.readable ≤ t.places) (was_given blobs sample_trace trace is) (omega arith)

module _ (cost : Params → ℕ) (built : IsBuilt cost) where
  within_built : (trace : Trace) (old new : Counted) → trace.readable ≤ trace.places → IsWithin (curve_costs cost) trace old new → IsWithin built_costs trace old new
  within_built trace old new few within = record {
    products = λ curve is. within.products curve (subst (curve_costs cost trace) (sym is) (iterative_cost cost built trace.places trace.dimension trace.bound trace.readable few));
    looks = within.looks;
  }

  given_built : (wanted : Result Trace Refusal) (old new : Counted) → ((trace : Trace) → wanted ≡ Ok trace → trace.readable ≤ trace.places) → TakesGiven (curve_costs cost) wanted old new → TakesGiven built_costs wanted old new
  given_built (Ok trace) old new few taken = within_built trace old new (few trace refl) taken
  given_built (Err e) old new few taken = taken

  pub takes_built : (request : Option Request) (blobs : Blobs) (old new : Counted) → TakesAtMost (curve_costs cost) (trace_made request) blobs old new → TakesAtMost built_costs (trace_made request) blobs old new
  takes_built (Some (Traces title register copy c)) blobs old new taken =
      given_built (given blobs (trace_trace title register copy c)) old new (λ trace is. few_shown blobs title register copy c trace is) taken
  takes_built (Some (Accuse register word c)) blobs old new taken =
      given_built (given blobs (accuse_trace register word c)) old new (λ trace is. few_readable blobs register word c trace is) taken
  takes_built (Some (Sample number)) blobs old new taken = given_built (given blobs (Give sample_trace)) old new (λ trace is. few_sampled blobs trace is) taken
  takes_built _ blobs old new taken = tt

pub where_told : {X : Type 0} (o : Option X) (P Q : X → Type 0) → ((x : X) → P x → Q x) → IfSome o P → IfSome o Q
where_told None P Q leads h = tt
where_told (Some x) P Q leads h = leads x h
