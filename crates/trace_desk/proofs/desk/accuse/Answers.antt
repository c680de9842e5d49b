use Rattle.std.proofs.Common.{◌≡◌, length, sym, ap, ◌∙◌, subst, arith}
use Rattle.code_terms.specs.Words.{readable}
use Rattle.code_terms.proofs.PlaceLaws.{readable-few}
use Rattle.pair_terms.specs.Pairs.{ArePairs, HaveSymbolsBelow, pairs_of}
use Rattle.pair_terms.proofs.WordPairs.{are_pairs, have_symbols, count_of}
use Rattle.list_decode.specs.Answers.{CostsAtMost}
use Rattle.shown_pairs.proofs.Walking.{few_elements}
use Rattle.trace_desk.proofs.Tracing.{word_found, word_error, fewer_enough}
use Rattle.trace_desk.proofs.desk.accuse.Goals as goal

pub accused_by-requires-clause-pairs : goal.accused_by-requires-clause-pairs
accused_by-requires-clause-pairs g c =
    subst (ArePairs c.args.code.now.places) (sym (c.as_slice.ensures.value ∙ c.in_ok-pairs.ensures))
    (subst (λ n. ArePairs n (pairs_of c.args.word.now)) c.requires.length (are_pairs c.args.word.now))

pub accused_by-requires-clause-symbols : goal.accused_by-requires-clause-symbols
accused_by-requires-clause-symbols g c =
    subst (HaveSymbolsBelow g.F.Field.Q) (sym (c.as_slice.ensures.value ∙ c.in_ok-pairs.ensures)) (have_symbols c.args.word.now g.F.Field.Q c.requires.symbols)

pub accused_by-requires-clause-few : goal.accused_by-requires-clause-few
accused_by-requires-clause-few g c =
    let met = g.met.F.Field in
    omega (arith, ap length (c.as_slice.ensures.value ∙ c.in_ok-pairs.ensures), count_of c.args.word.now, readable-few c.args.word.now, c.requires.length, c.n-places.ensures.value, c.n-places.ensures.range.1, few_elements g.F.Field.Q g.F.Field.BITS met.size met.most_bits)

pub returns-clause-findings : goal.returns-clause-findings
returns-clause-findings g c =
    word_error (g.B.Book.roll c.args.book.now) c.args.word.now c.as_slice.result.now c.args.c c.in-Err.error (c.as_slice.ensures.value ∙ c.in_ok-pairs.ensures) c.in-Err.ensures.accused

pub returns-clause-products : goal.returns-clause-products
returns-clause-products g c curve most =
    let count : length c.as_slice.result.now ≡ readable c.args.word.now = ap length (c.as_slice.ensures.value ∙ c.in_ok-pairs.ensures) ∙ count_of c.args.word.now in
    let cost = c.accused_by.ensures.products curve (subst (λ r. CostsAtMost g.I.Interpolate.cost c.args.code.now.dimension c.args.c r curve) (sym count) most) in
    let less = fewer_enough curve (length c.as_slice.result.now) c.args.code.now.places c.args.code.now.dimension c.args.c (omega (arith, count, readable-few c.args.word.now, c.requires.length)) in
    omega arith

pub returns-clause-looks : goal.returns-clause-looks
returns-clause-looks g c =
    let count : length c.as_slice.result.now ≡ readable c.args.word.now = ap length (c.as_slice.ensures.value ∙ c.in_ok-pairs.ensures) ∙ count_of c.args.word.now in
    omega (arith, c.accused_by.ensures.looks, count, readable-few c.args.word.now, c.requires.length)

pub returns-in-Ok-clause-findings : goal.returns-in-Ok-clause-findings
returns-in-Ok-clause-findings g c =
    word_found (g.B.Book.roll c.args.book.now) c.args.word.now c.as_slice.result.now c.args.c c.readable.result c.in-Ok.list (c.as_slice.ensures.value ∙ c.in_ok-pairs.ensures) c.readable.ensures c.in-Ok.ensures.accused

pub returns-in-Ok-clause-products : goal.returns-in-Ok-clause-products
returns-in-Ok-clause-products g c curve most =
    let count : length c.as_slice.result.now ≡ readable c.args.word.now = ap length (c.as_slice.ensures.value ∙ c.in_ok-pairs.ensures) ∙ count_of c.args.word.now in
    let cost = c.accused_by.ensures.products curve (subst (λ r. CostsAtMost g.I.Interpolate.cost c.args.code.now.dimension c.args.c r curve) (sym count) most) in
    let less = fewer_enough curve (length c.as_slice.result.now) c.args.code.now.places c.args.code.now.dimension c.args.c (omega (arith, count, readable-few c.args.word.now, c.requires.length)) in
    omega arith

pub returns-in-Ok-clause-looks : goal.returns-in-Ok-clause-looks
returns-in-Ok-clause-looks g c =
    let count : length c.as_slice.result.now ≡ readable c.args.word.now = ap length (c.as_slice.ensures.value ∙ c.in_ok-pairs.ensures) ∙ count_of c.args.word.now in
    omega (arith, c.accused_by.ensures.looks, count, readable-few c.args.word.now, c.requires.length)
