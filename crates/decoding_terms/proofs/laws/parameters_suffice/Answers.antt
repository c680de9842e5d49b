use Rattle.decoding_terms.proofs.Sizes.{few_times, light, low, not_many, small_system, square, weight_few}
use Rattle.decoding_terms.proofs.laws.parameters_suffice.Goals as goal

pub returns-clause-agreement : goal.returns-clause-agreement
returns-clause-agreement c = λ w b r t s e enough are. square w b r enough t are.agreement.holds

pub returns-clause-multiplicity : goal.returns-clause-multiplicity
returns-clause-multiplicity c = λ w b r t s e enough are. few_times w b r enough t s are.agreement are.multiplicity

pub returns-clause-weight : goal.returns-clause-weight
returns-clause-weight c = λ w b r t s e enough are. light w b r enough t s are.agreement are.multiplicity e are.weight

pub returns-clause-unknowns : goal.returns-clause-unknowns
returns-clause-unknowns c = λ w b r t s e enough are. are.weight.holds

pub returns-clause-not_many : goal.returns-clause-not_many
returns-clause-not_many c = λ w b r t s e enough are. not_many w _ e enough.some_weight are.weight

pub returns-clause-equations : goal.returns-clause-equations
returns-clause-equations c = λ w b r t s e enough few_b few_w few_r are. small_system w b r enough t s are.agreement are.multiplicity few_b few_w few_r

pub returns-clause-low : goal.returns-clause-low
returns-clause-low c = λ w b r t s e enough few_b few_w few_r are.
    low w _ e enough.some_weight are.weight (weight_few w b r enough few_w) (small_system w b r enough t s are.agreement are.multiplicity few_b few_w few_r)
