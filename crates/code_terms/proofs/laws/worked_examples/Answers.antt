-- Each by computing both sides.
use Rattle.std.proofs.Common.{refl}
use Rattle.gf_terms.specs.Arithmetic.{carryless, reduced, reduction, product, power}
use Rattle.code_terms.specs.Symbols.{symbol_of}
use Rattle.code_terms.specs.Words.{places_of, codeword_of}
use Rattle.code_terms.specs.WordText.{slot_of, slots_from, word_of}
use Rattle.code_terms.proofs.laws.worked_examples.Goals as goal

pub returns-clause-codeword : goal.returns-clause-codeword
unfolding carryless reduced reduction product power symbol_of codeword_of
returns-clause-codeword c = refl

pub returns-clause-places_0 : goal.returns-clause-places_0
unfolding carryless reduced reduction product power symbol_of places_of
returns-clause-places_0 c = refl

pub returns-clause-places_1 : goal.returns-clause-places_1
unfolding carryless reduced reduction product power symbol_of places_of
returns-clause-places_1 c = refl

pub returns-clause-places_16 : goal.returns-clause-places_16
unfolding carryless reduced reduction product power symbol_of places_of
returns-clause-places_16 c = refl

pub returns-clause-text : goal.returns-clause-text
unfolding slot_of slots_from word_of
returns-clause-text c = refl

pub returns-clause-pair : goal.returns-clause-pair
unfolding slot_of slots_from word_of
returns-clause-pair c = refl

pub returns-clause-erasure : goal.returns-clause-erasure
unfolding slot_of slots_from word_of
returns-clause-erasure c = refl

pub returns-clause-too_great : goal.returns-clause-too_great
unfolding slot_of slots_from word_of
returns-clause-too_great c = refl

pub returns-clause-empty : goal.returns-clause-empty
unfolding slot_of slots_from word_of
returns-clause-empty c = refl

pub returns-clause-too_long : goal.returns-clause-too_long
unfolding slot_of slots_from word_of
returns-clause-too_long c = refl
