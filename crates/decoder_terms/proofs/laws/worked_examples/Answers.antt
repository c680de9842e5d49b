-- Each by computing both sides.
use Rattle.std.proofs.Common.{refl}
use Rattle.gf_terms.specs.Arithmetic.{carryless, reduced, reduction, product, power}
use Rattle.code_terms.specs.Symbols.{symbol_of}
use Rattle.code_terms.specs.Words.{places_of, agreement_of}
use Rattle.decoder_terms.specs.Decoding.{decoded}
use Rattle.decoder_terms.proofs.laws.worked_examples.Goals as goal

pub returns-clause-three : goal.returns-clause-three
unfolding decoded agreement_of places_of symbol_of power product reduction reduced carryless
returns-clause-three c = refl

pub returns-clause-one : goal.returns-clause-one
unfolding decoded agreement_of places_of symbol_of power product reduction reduced carryless
returns-clause-one c = refl
