use Rattle.std.proofs.Common.{◌≡◌, ◌∙◌, Option, Some, Ok, map, refl, sym, ap, subst}
use Rattle.std.specs.String.{string_bytes}
use Rattle.cli_words.specs.Requests.{request}
use Rattle.outcome_terms.specs.Request.{Request, Make, Trace, Accuse, Sample}
use Rattle.outcome_terms.specs.RegisterCommand.{make}
use Rattle.outcome_terms.specs.SampleCommand.{sample}
use Rattle.outcome_terms.specs.Stores.{Exactly, gave}
use Rattle.outcome_terms.specs.Commands.{deed, request_of}
use Rattle.outcome_terms.specs.Outcome.{Performs, made}
use Rattle.outcome_terms.specs.Spending.{SpendsAtMost, trace_made, traced}
use Rattle.trace_costs.specs.Costs.{curve_costs}
use Rattle.outcome_terms.proofs.Readings.{settled}
use Rattle.command_io.specs.Answers.{left_text}
use Rattle.trace_cli.proofs.run_call.perform.Goals as goal

pub returns-in_ok-text-in-Register : goal.returns-in_ok-text-in-Register
returns-in_ok-text-in-Register g c =
    let old = g.S.Shelf.store c.args.shelf.now in
    let new = g.S.Shelf.store c.write_text.new.shelf in
    let asked : Some (Make c.in-Register.m c.in-Register.k c.in-Register.a c.in-Register.b c.in-Register.out.now) ≡ request_of (map string_bytes c.args.words.now) =
    ap (λ command. Some (request command)) (sym c.in-Register.is) ∙ c.in-Some.ensures.asked in
    let reading = make c.in-Register.m c.in-Register.k c.in-Register.a c.in-Register.b in
    let text = c.in_ok-text-in-Register.text.items in
    record {
      performs = subst (λ (asked : Option Request). Performs (deed asked) old new (left_text c.write_text.result)) asked
          (c.write_text.ensures reading (Exactly text) old (settled reading old (Ok (Exactly text)) c.in_ok-text-in-Register.ensures) refl);
      steps = subst (λ (asked : Option Request). SpendsAtMost (curve_costs g.I.Interpolate.cost) (trace_made asked) old new (record { products = c.args.prods.now; looks = c.args.looks.now })
          (record { products = c.args.prods.now; looks = c.register_text.new.looks })) asked tt;
    }

pub returns-in_err-text-in-Accuse-clause-steps : goal.returns-in_err-text-in-Accuse-clause-steps
returns-in_err-text-in-Accuse-clause-steps g c =
    let asked : Some (Accuse c.in-Accuse.reg.now c.in-Accuse.word.now c.in-Accuse.c) ≡ request_of (map string_bytes c.args.words.now) =
    ap (λ command. Some (request command)) (sym c.in-Accuse.is) ∙ c.in-Some.ensures.asked in
    subst (λ (asked : Option Request). SpendsAtMost (curve_costs g.I.Interpolate.cost) (trace_made asked) (g.S.Shelf.store c.args.shelf.now) (g.S.Shelf.store c.accuse.new.shelf)
    (record { products = c.args.prods.now; looks = c.args.looks.now }) (record { products = c.accuse.new.prods; looks = c.accuse.new.looks })) asked c.accuse.ensures.steps

pub returns-in_ok-text-in-Accuse-clause-steps : goal.returns-in_ok-text-in-Accuse-clause-steps
returns-in_ok-text-in-Accuse-clause-steps g c =
    let asked : Some (Accuse c.in-Accuse.reg.now c.in-Accuse.word.now c.in-Accuse.c) ≡ request_of (map string_bytes c.args.words.now) =
    ap (λ command. Some (request command)) (sym c.in-Accuse.is) ∙ c.in-Some.ensures.asked in
    subst (λ (asked : Option Request). SpendsAtMost (curve_costs g.I.Interpolate.cost) (trace_made asked) (g.S.Shelf.store c.args.shelf.now) (g.S.Shelf.store c.accuse.new.shelf)
    (record { products = c.args.prods.now; looks = c.args.looks.now }) (record { products = c.accuse.new.prods; looks = c.accuse.new.looks })) asked c.accuse.ensures.steps

pub returns-in_err-text-in-Trace-clause-steps : goal.returns-in_err-text-in-Trace-clause-steps
returns-in_err-text-in-Trace-clause-steps g c =
    let asked : Some (Trace c.in-Trace.title.now c.in-Trace.reg.now c.in-Trace.copy.now c.in-Trace.c) ≡ request_of (map string_bytes c.args.words.now) =
    ap (λ command. Some (request command)) (sym c.in-Trace.is) ∙ c.in-Some.ensures.asked in
    subst (λ (asked : Option Request). SpendsAtMost (curve_costs g.I.Interpolate.cost) (trace_made asked) (g.S.Shelf.store c.args.shelf.now) (g.S.Shelf.store c.trace.new.shelf)
    (record { products = c.args.prods.now; looks = c.args.looks.now }) (record { products = c.trace.new.prods; looks = c.trace.new.looks })) asked c.trace.ensures.steps

pub returns-in_ok-text-in-Trace-clause-steps : goal.returns-in_ok-text-in-Trace-clause-steps
returns-in_ok-text-in-Trace-clause-steps g c =
    let asked : Some (Trace c.in-Trace.title.now c.in-Trace.reg.now c.in-Trace.copy.now c.in-Trace.c) ≡ request_of (map string_bytes c.args.words.now) =
    ap (λ command. Some (request command)) (sym c.in-Trace.is) ∙ c.in-Some.ensures.asked in
    subst (λ (asked : Option Request). SpendsAtMost (curve_costs g.I.Interpolate.cost) (trace_made asked) (g.S.Shelf.store c.args.shelf.now) (g.S.Shelf.store c.trace.new.shelf)
    (record { products = c.args.prods.now; looks = c.args.looks.now }) (record { products = c.trace.new.prods; looks = c.trace.new.looks })) asked c.trace.ensures.steps

pub returns-in_ok-text-in-Sample : goal.returns-in_ok-text-in-Sample
returns-in_ok-text-in-Sample g c =
    let s = g.S.Shelf.store c.args.shelf.now in
    let asked : Some (Sample c.in-Sample.number) ≡ request_of (map string_bytes c.args.words.now) =
    ap (λ command. Some (request command)) (sym c.in-Sample.is) ∙ c.in-Some.ensures.asked in
    record {
      performs = subst (λ (asked : Option Request). Performs (deed asked) s s (Ok (Some c.in_ok-text-in-Sample.text.items))) asked
          (made (settled (sample c.in-Sample.number) s (Ok c.in_ok-text-in-Sample.text.items) c.in_ok-text-in-Sample.ensures.summary));
      steps = subst (λ (asked : Option Request). SpendsAtMost (curve_costs g.I.Interpolate.cost) (trace_made asked) s s (record { products = c.args.prods.now; looks = c.args.looks.now })
          (record { products = c.sample_text.new.prods; looks = c.sample_text.new.looks })) asked (traced gave c.sample_text.ensures.steps);
    }

pub returns-in_err-text-in-Sample-clause-steps : goal.returns-in_err-text-in-Sample-clause-steps
returns-in_err-text-in-Sample-clause-steps g c =
    let s = g.S.Shelf.store c.args.shelf.now in
    let asked : Some (Sample c.in-Sample.number) ≡ request_of (map string_bytes c.args.words.now) =
    ap (λ command. Some (request command)) (sym c.in-Sample.is) ∙ c.in-Some.ensures.asked in
    subst (λ (asked : Option Request). SpendsAtMost (curve_costs g.I.Interpolate.cost) (trace_made asked) s s (record { products = c.args.prods.now; looks = c.args.looks.now })
    (record { products = c.sample_text.new.prods; looks = c.sample_text.new.looks })) asked (traced gave c.sample_text.ensures.steps)
