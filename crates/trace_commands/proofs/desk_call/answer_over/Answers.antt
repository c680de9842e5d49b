use Rattle.std.proofs.Common.{rules, ◌≡◌, ℕ, ◌+◌, ◌≤◌, length, subst}
use Rattle.code_terms.specs.Words.{readable}
use Rattle.desk_terms.specs.Bounds.{look_bound, tracing_bound}
use Rattle.list_decode.specs.Answers.{CostsAtMost}
use Rattle.outcome_terms.proofs.Spending.{alone}
use Rattle.trace_costs.specs.Costs.{curve_costs}
use Rattle.trace_commands.proofs.desk_call.answer_over.Goals as goal

pub returns-clause-steps : goal.returns-clause-steps
returns-clause-steps g c =
    let cost = g.I.Interpolate.cost in
    let word = c.args.word.now in
    let bound = c.args.bound in
    let dimension : c.unwrap-code.result.dimension ≡ c.args.register.now.dimension = search rules in
    let places : c.unwrap-code.result.places ≡ length word = search rules in
    alone (curve_costs cost) (record { products = c.args.prods.now; looks = c.args.looks.now }) (record { products = c.accuse.new.prods; looks = c.accuse.new.looks }) c.args.register.now.dimension word bound
    (subst (λ k. (curve : ℕ) → CostsAtMost cost k bound (readable word) curve → c.accuse.new.prods ≤ c.args.prods.now + tracing_bound curve (length word) k bound) dimension
    (subst (λ n. (curve : ℕ) → CostsAtMost cost c.unwrap-code.result.dimension bound (readable word) curve
    → c.accuse.new.prods ≤ c.args.prods.now + tracing_bound curve n c.unwrap-code.result.dimension bound) places c.accuse.ensures.products))
    (subst (λ n. c.accuse.new.looks ≤ c.args.looks.now + look_bound n bound) places c.accuse.ensures.looks)
