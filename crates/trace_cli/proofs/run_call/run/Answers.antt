use Rattle.outcome_terms.specs.Call.{Ends}
use Rattle.outcome_terms.proofs.Calls.{ends_bad_words, ends_row, ends_words, ends_decided, ends_complete, ends_causes, ends_so_far, ends_effect, ends_blobs, ends_output}
use Rattle.outcome_terms.proofs.Spending.{takes_at_most, takes_supposed}
use Rattle.outcome_terms.proofs.Supposed.{ends_supposed}
use Rattle.outcome_terms.proofs.Exact.{ends_exact}
use Rattle.trace_cli.proofs.Built.{takes_built, where_told}
use Rattle.trace_cli.proofs.Promises.{ends_headline}
use Rattle.trace_cli.proofs.run_call.run.Goals as goal

pub returns : goal.returns
returns g c =
    let steps = takes_at_most _ _ _ _ _ _ c.perform-answer.ensures.steps in
    let steps_supposed = takes_supposed _ _ _ _ _ _ c.perform-answer.ensures.steps in
    let ends : Ends _ _ _ _ _ _ = record { answer = _; performed = c.perform-answer.ensures.performs; delivered = c.put_out.ensures } in
    record {
      headline = ends_headline ends;
      refused = ends_words ends;
      row = ends_row ends;
      bad_words = ends_bad_words ends;
      decided = ends_decided ends;
      complete = ends_complete ends;
      causes = ends_causes ends;
      so_far = ends_so_far ends;
      effect = ends_effect ends;
      blobs = ends_blobs ends;
      output = ends_output ends;
      steps = steps;
      products_built = λ built. where_told (g.S.Shelf.store c.args.shelf.now).told _ _ (λ blobs. takes_built g.I.Interpolate.cost built _ blobs _ _) steps;
      steps_untold = c.perform-answer.ensures.steps;
      headline_supposed = λ blobs left h. ends_headline (ends_supposed ends blobs left h);
      decided_supposed = λ blobs left h. ends_decided (ends_supposed ends blobs left h);
      complete_supposed = λ r w o blobs left h. ends_complete (ends_supposed ends blobs left h) r w o;
      so_far_supposed = λ blobs left h. ends_so_far (ends_supposed ends blobs left h);
      effect_supposed = λ ok blobs left h. ends_effect (ends_supposed ends blobs left h) ok;
      blobs_supposed = λ blobs left h. ends_blobs (ends_supposed ends blobs left h);
      steps_supposed = steps_supposed;
      products_built_supposed = λ built blobs left h. takes_built g.I.Interpolate.cost built _ blobs _ _ (steps_supposed blobs left h);
      exact = ends_exact ends;
      ends = ends;
    }
