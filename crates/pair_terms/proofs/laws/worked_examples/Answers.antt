-- The lists by computing both sides.
use Rattle.std.proofs.Common.{refl, arith}
use Rattle.gf_terms.specs.Arithmetic.{carryless, reduced, reduction, product, power}
use Rattle.code_terms.specs.Symbols.{symbol_of}
use Rattle.pair_terms.specs.Pairs.{fitting_places, fitting_count}
use Rattle.pair_terms.specs.Recovery.{recovered}
use Rattle.pair_terms.proofs.Told.{two_in_order}
use Rattle.pair_terms.proofs.laws.worked_examples.Goals as goal

pub returns-clause-pairs : goal.returns-clause-pairs
returns-clause-pairs c = two_in_order 0 3 5 (omega arith)

pub returns-clause-recovered : goal.returns-clause-recovered
unfolding recovered fitting_count symbol_of power product reduction reduced carryless
returns-clause-recovered c = refl

pub returns-clause-places : goal.returns-clause-places
unfolding fitting_places symbol_of power product reduction reduced carryless
returns-clause-places c = refl

pub returns-clause-one_of_two : goal.returns-clause-one_of_two
unfolding fitting_count symbol_of power product reduction reduced carryless
returns-clause-one_of_two c = refl
