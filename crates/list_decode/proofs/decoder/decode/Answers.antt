use Rattle.std.proofs.Common.{◌≡◌, ◌+◌, List, length, sym, ◌∙◌, ap, subst, arith}
use Rattle.code_terms.specs.Words.{readable}
use Rattle.code_terms.proofs.PlaceLaws.{readable-few}
use Rattle.rr_roots.proofs.Nodes.{few_elements}
use Rattle.pair_terms.specs.Pairs.{Pair, ArePairs, HaveSymbolsBelow, pairs_of}
use Rattle.pair_terms.proofs.WordPairs.{are_pairs, have_symbols, count_of}
use Rattle.list_decode.specs.Answers.{CostsAtMost, DecodesAs, recovering}
use Rattle.list_decode.proofs.Bounds.{fewer_within, few_more}
use Rattle.list_decode.proofs.Refusals.{word_answer}
use Rattle.list_decode.proofs.decoder.decode.Goals as goal

pub recover-requires-clause-pairs : goal.recover-requires-clause-pairs
recover-requires-clause-pairs g c =
    subst (ArePairs c.args.code.now.places) (sym (c.as_slice.ensures.value ∙ c.in_ok-pairs.ensures))
    (subst (λ n. ArePairs n (pairs_of c.args.word.now)) c.requires.length (are_pairs c.args.word.now))

pub recover-requires-clause-symbols : goal.recover-requires-clause-symbols
recover-requires-clause-symbols g c =
    subst (HaveSymbolsBelow g.F.Field.Q) (sym (c.as_slice.ensures.value ∙ c.in_ok-pairs.ensures)) (have_symbols c.args.word.now g.F.Field.Q c.requires.symbols)

pub recover-requires-clause-few : goal.recover-requires-clause-few
recover-requires-clause-few g c =
    let met = g.met.F.Field in
    omega (arith, ap length (c.as_slice.ensures.value ∙ c.in_ok-pairs.ensures), count_of c.args.word.now, readable-few c.args.word.now, c.requires.length, c.n-places.ensures.value, c.n-places.ensures.range.1, few_elements g.F.Field.Q g.F.Field.BITS met.size met.most_bits)

pub returns-clause-decoded : goal.returns-clause-decoded
returns-clause-decoded g c =
    subst (DecodesAs c.recover.result)
    (ap (λ (ps : List Pair). recovering g.F.Field.BITS c.args.code.now.dimension ps c.args.c) (c.as_slice.ensures.value ∙ c.in_ok-pairs.ensures) ∙ word_answer g.F.Field.BITS c.args.code.now.dimension c.args.c c.args.word.now)
    c.recover.ensures.recovered

pub returns-clause-few : goal.returns-clause-few
returns-clause-few g c =
    few_more c.recover.result (length c.as_slice.result.now + c.args.c) (c.args.code.now.places + c.args.c)
    (omega (arith, ap length (c.as_slice.ensures.value ∙ c.in_ok-pairs.ensures), count_of c.args.word.now, readable-few c.args.word.now, c.requires.length)) c.recover.ensures.few

pub returns-clause-products : goal.returns-clause-products
returns-clause-products g c curve most =
    let count : length c.as_slice.result.now ≡ readable c.args.word.now = ap length (c.as_slice.ensures.value ∙ c.in_ok-pairs.ensures) ∙ count_of c.args.word.now in
    let cost = c.recover.ensures.products curve (subst (λ r. CostsAtMost g.I.Interpolate.cost c.args.code.now.dimension c.args.c r curve) (sym count) most) in
    let less = fewer_within curve (length c.as_slice.result.now) c.args.code.now.places c.args.code.now.dimension c.args.c (omega (arith, count, readable-few c.args.word.now, c.requires.length)) in
    omega arith
