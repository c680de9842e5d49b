use Rattle.std.proofs.Common.{◌≡◌, ◌+◌, ◌-◌, ◌*◌, ◌/◌, refl, ◌∙◌, ap}
use Rattle.decoding_terms.specs.Parameters.{equation_count, term_count}
use Rattle.gs_koetter.proofs.costs.koetter_cost.Goals as goal

pub returns-clause-cost : goal.returns-clause-cost
returns-clause-cost c = λ p. refl

pub returns-clause-nineteen_places : goal.returns-clause-nineteen_places
returns-clause-nineteen_places c = λ p weight points times below.
    let rows : p.rows ≡ 114 = p.equations ∙ ap (λ t. equation_count t p.s) points ∙ ap (λ t. equation_count 19 t) times in
    let cols : p.cols ≡ 121 = p.terms ∙ ap (λ t. term_count t p.e) weight ∙ ap (λ t. term_count 2 t) below in
    ap (λ t. 8 * t * ((p.e - 1) / p.w + 1) * p.cols) rows ∙ ap (λ t. 8 * 114 * ((t - 1) / p.w + 1) * p.cols) below
    ∙ ap (λ t. 8 * 114 * ((21 - 1) / t + 1) * p.cols) weight ∙ ap (λ t. 8 * 114 * ((21 - 1) / 2 + 1) * t) cols
