use Rattle.std.proofs.Common.{ℕ, sym, subst}
use Rattle.pair_terms.specs.Pairs.{ArePairs, HaveSymbolsBelow, pairs_of}
use Rattle.decoder_tests.proofs.pairs.their_pairs.Goals as goal

pub returns-clause-pairs : goal.returns-clause-pairs
returns-clause-pairs c =
    let word = c.in_ok-word.word in
    subst (λ pairs. ArePairs 10 pairs) (sym c.in_ok-pairs.ensures) (subst (λ (n : ℕ). ArePairs n (pairs_of word)) c.in_ok-word.ensures.length (c.words_are_pairs.ensures.pairs word))

pub returns-clause-symbols : goal.returns-clause-symbols
returns-clause-symbols c =
    let word = c.in_ok-word.word in
    subst (λ pairs. HaveSymbolsBelow 16 pairs) (sym c.in_ok-pairs.ensures) (c.words_are_pairs.ensures.symbols word 16 c.in_ok-word.ensures.symbols)
