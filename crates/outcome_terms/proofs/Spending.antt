-- What a call takes over blobs that are told.
use Rattle.std.proofs.Common.{◌≡◌, ℕ, ◌+◌, ◌≤◌, List, length, Option, Some, None, Result, Ok, Err, sym, ap, subst, arith}
use Rattle.std.specs.Option.{IfSome}
use Rattle.shelf_terms.specs.Blobs.{Blobs}
use Rattle.outcome_terms.specs.declared.refusal.Refusal.{Refusal}
use Rattle.outcome_terms.specs.Reading.{Reading, given}
use Rattle.records.specs.Stores.{Store}
use Rattle.records.specs.Agreement.{AgreesBetween, supposing}
use Rattle.desk_terms.specs.Bounds.{look_bound, tracing_bound}
use Rattle.outcome_terms.specs.Traces.{Trace, Counted, IsWithin, trace_at}
use Rattle.outcome_terms.specs.Spending.{Spends, nothing, traced, SpendsAtMost, TakesGiven, TakesAtMost}
use Rattle.outcome_terms.proofs.Following.{decided, over_told}
use Rattle.outcome_terms.proofs.Supposed.{follows_supposed}

module _ (costs : Trace → ℕ → Type 0) (old new : Counted) where
  -- a trace with nothing beside it
  pub alone : (k : ℕ) (word : List (Option ℕ)) (c : ℕ) → ((curve : ℕ) → costs (trace_at k word c) curve → new.products ≤ old.products + tracing_bound curve (length word) k c)
      → new.looks ≤ old.looks + look_bound (length word) c → IsWithin costs (trace_at k word c) old new
  alone k word c products looks = record { products = λ curve most. omega (arith, products curve most); looks = omega (arith, looks) }

  -- where nothing is taken, no bound is passed
  nothing_within : new ≡ old → (trace : Trace) → IsWithin costs trace old new
  nothing_within same trace =
      let products = ap (λ (c : Counted). c.products) same in
      let looks = ap (λ (c : Counted). c.looks) same in
      record { products = λ curve most. omega (arith, products); looks = omega (arith, looks) }

  nothing_given : new ≡ old → (wanted : Result Trace Refusal) → TakesGiven costs wanted old new
  nothing_given same (Ok trace) = nothing_within same trace
  nothing_given same (Err e) = same

  spends_given : {reading : Reading Trace} {s t : Store} → Spends costs reading s t old new → (blobs : Blobs) → s.told ≡ Some blobs → TakesGiven costs (given blobs reading) old new
  spends_given {reading} (nothing same) blobs told = nothing_given same (given blobs reading)
  spends_given (traced {trace = trace} follows within) blobs told = subst (λ wanted. TakesGiven costs wanted old new) (sym (decided blobs told follows)) within

  spends_at_most : (trace : Option (Reading Trace)) (s t : Store) → SpendsAtMost costs trace s t old new → (blobs : Blobs) → s.told ≡ Some blobs → TakesAtMost costs trace blobs old new
  spends_at_most None s t spends blobs told = tt
  spends_at_most (Some reading) s t spends blobs told = spends_given spends blobs told

  -- over every store, and so where its blobs are told
  pub takes_at_most : (trace : Option (Reading Trace)) (s t : Store) → SpendsAtMost costs trace s t old new → IfSome s.told (λ blobs. TakesAtMost costs trace blobs old new)
  takes_at_most trace s t spends = over_told s.told (λ blobs told. spends_at_most trace s t spends blobs told)

  -- over blobs that agree with what was read
  spends_supposed : (trace : Option (Reading Trace)) (s t : Store) → SpendsAtMost costs trace s t old new → (blobs left : Blobs) → AgreesBetween blobs left s t → SpendsAtMost costs trace (supposing blobs s) (supposing left t) old new
  spends_supposed None s t spends blobs left agrees = tt
  spends_supposed (Some reading) s t (nothing same) blobs left agrees = nothing same
  spends_supposed (Some reading) s t (traced follows within) blobs left agrees = traced (follows_supposed follows blobs left agrees) within

  pub takes_supposed : (trace : Option (Reading Trace)) (s t : Store) → SpendsAtMost costs trace s t old new → (blobs left : Blobs) → AgreesBetween blobs left s t → TakesAtMost costs trace blobs old new
  takes_supposed trace s t spends blobs left agrees = takes_at_most trace (supposing blobs s) (supposing left t) (spends_supposed trace s t spends blobs left agrees)

pub ruleset spending_rules = (nothing, traced)
