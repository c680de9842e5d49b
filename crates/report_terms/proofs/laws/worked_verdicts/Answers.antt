use Rattle.std.proofs.Common.{refl}
use Rattle.std.specs.Fmt.{digits}
use Rattle.gf_terms.specs.Arithmetic.{carryless, reduced, reduction, product, power}
use Rattle.code_terms.specs.Symbols.{symbol_of}
use Rattle.code_terms.specs.Words.{places_of, agreement_of}
use Rattle.report_terms.specs.Verdicts.{fault_of, first_fault, first_missed, verdict}
use Rattle.report_terms.proofs.laws.worked_verdicts.Goals as goal

pub returns-clause-right : goal.returns-clause-right
unfolding verdict first_missed first_fault fault_of agreement_of places_of symbol_of power product reduction reduced carryless digits
returns-clause-right c = refl

pub returns-clause-too_few : goal.returns-clause-too_few
unfolding verdict first_missed first_fault fault_of agreement_of places_of symbol_of power product reduction reduced carryless digits
returns-clause-too_few c = refl

pub returns-clause-readable : goal.returns-clause-readable
unfolding verdict first_missed first_fault fault_of agreement_of places_of symbol_of power product reduction reduced carryless digits
returns-clause-readable c = refl

pub returns-clause-nobody : goal.returns-clause-nobody
unfolding verdict first_missed first_fault fault_of agreement_of places_of symbol_of power product reduction reduced carryless digits
returns-clause-nobody c = refl

pub returns-clause-name : goal.returns-clause-name
unfolding verdict first_missed first_fault fault_of agreement_of places_of symbol_of power product reduction reduced carryless digits
returns-clause-name c = refl

pub returns-clause-order : goal.returns-clause-order
unfolding verdict first_missed first_fault fault_of agreement_of places_of symbol_of power product reduction reduced carryless digits
returns-clause-order c = refl

pub returns-clause-places : goal.returns-clause-places
unfolding verdict first_missed first_fault fault_of agreement_of places_of symbol_of power product reduction reduced carryless digits
returns-clause-places c = refl

pub returns-clause-below : goal.returns-clause-below
unfolding verdict first_missed first_fault fault_of agreement_of places_of symbol_of power product reduction reduced carryless digits
returns-clause-below c = refl

pub returns-clause-absent : goal.returns-clause-absent
unfolding verdict first_missed first_fault fault_of agreement_of places_of symbol_of power product reduction reduced carryless digits
returns-clause-absent c = refl
