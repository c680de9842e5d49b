use Rattle.pair_terms.proofs.WordPairs.{are_pairs, have_symbols, count_of, slot_of_pair, places_fit, agreement_fits, same_messages}
use Rattle.pair_terms.proofs.laws.words_are_pairs.Goals as goal
use Rattle.std.proofs.Common.{length}

pub returns-clause-pairs : goal.returns-clause-pairs
returns-clause-pairs c = λ word. are_pairs word

pub returns-clause-symbols : goal.returns-clause-symbols
returns-clause-symbols c = λ word limit low. have_symbols word limit low

pub returns-clause-count : goal.returns-clause-count
returns-clause-count c = λ word. count_of word

pub returns-clause-slots : goal.returns-clause-slots
returns-clause-slots c = λ word i v at. slot_of_pair word (length word) i v at

pub returns-clause-places : goal.returns-clause-places
returns-clause-places c = λ m k u word. places_fit word m k u

pub returns-clause-agreement : goal.returns-clause-agreement
returns-clause-agreement c = λ m k u word. agreement_fits word m k u

pub returns-clause-decoded : goal.returns-clause-decoded
returns-clause-decoded c = λ m k c word. same_messages word m k c
