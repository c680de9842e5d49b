use Rattle.std.proofs.Common.{refl}
use Rattle.std.specs.Fmt.{digits}
use Rattle.gf_terms.specs.Arithmetic.{carryless, reduced, reduction, product, power}
use Rattle.code_terms.specs.Symbols.{symbol_of}
use Rattle.code_terms.specs.Words.{places_of, agreement_of}
use Rattle.desk_terms.specs.Findings.{findings}
use Rattle.desk_terms.specs.Report.{accused_text, report_text}
use Rattle.desk_terms.proofs.laws.worked_examples.Goals as goal

pub returns-clause-three_colluders : goal.returns-clause-three_colluders
unfolding findings report_text accused_text agreement_of places_of symbol_of power product reduction reduced carryless digits
returns-clause-three_colluders c = refl

pub returns-clause-too_few : goal.returns-clause-too_few
unfolding findings report_text accused_text agreement_of places_of symbol_of power product reduction reduced carryless digits
returns-clause-too_few c = refl

pub returns-clause-nine_not_enough : goal.returns-clause-nine_not_enough
unfolding findings report_text accused_text agreement_of places_of symbol_of power product reduction reduced carryless digits
returns-clause-nine_not_enough c = refl

pub returns-clause-nobody : goal.returns-clause-nobody
unfolding findings report_text accused_text agreement_of places_of symbol_of power product reduction reduced carryless digits
returns-clause-nobody c = refl

pub returns-clause-met_exactly : goal.returns-clause-met_exactly
unfolding findings report_text accused_text agreement_of places_of symbol_of power product reduction reduced carryless digits
returns-clause-met_exactly c = refl

pub returns-clause-not_enrolled : goal.returns-clause-not_enrolled
unfolding findings report_text accused_text agreement_of places_of symbol_of power product reduction reduced carryless digits
returns-clause-not_enrolled c = refl

pub returns-clause-lost_place : goal.returns-clause-lost_place
unfolding findings report_text accused_text agreement_of places_of symbol_of power product reduction reduced carryless digits
returns-clause-lost_place c = refl

pub returns-clause-allowed : goal.returns-clause-allowed
returns-clause-allowed c = refl

pub returns-clause-allowed_of_eight : goal.returns-clause-allowed_of_eight
returns-clause-allowed_of_eight c = refl

pub returns-clause-most_allowed : goal.returns-clause-most_allowed
returns-clause-most_allowed c = refl

pub returns-clause-whole_copy : goal.returns-clause-whole_copy
unfolding findings report_text accused_text agreement_of places_of symbol_of power product reduction reduced carryless digits
returns-clause-whole_copy c = refl

pub returns-clause-no_rule : goal.returns-clause-no_rule
unfolding findings report_text accused_text agreement_of places_of symbol_of power product reduction reduced carryless digits
returns-clause-no_rule c = refl
