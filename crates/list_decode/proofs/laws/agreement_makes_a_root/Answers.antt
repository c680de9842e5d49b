use Rattle.std.proofs.Common.{length, map, refl, ◌∙◌}
use Rattle.code_terms.specs.Symbols.{packed}
use Rattle.pair_terms.specs.Pairs.{pairs_of}
use Rattle.pair_terms.proofs.WordPairs.{are_pairs, same_test}
use Rattle.list_decode.proofs.Completeness.{is_y_root}
use Rattle.list_decode.proofs.laws.agreement_makes_a_root.Goals as goal

pub returns-clause-pairs : goal.returns-clause-pairs
returns-clause-pairs g c = λ n k bound pairs q list order curve len fit.
    let met = g.met.F.Field in
    is_y_root g.F.Field.ring met.field g.F.Field.number g.F.Field.BITS g.F.Field.Q met.size met.below met.number_plus met.number_times met.number_nil met.number_unit met.same met.every k bound
    curve.some n pairs order curve.points curve.are q curve.s curve.t curve.e curve.light curve.enough curve.agreement curve.zeros (packed g.F.Field.BITS (map g.F.Field.number list)) list len refl fit

pub returns-clause-word : goal.returns-clause-word
returns-clause-word g c = λ k bound word q list curve len fit.
    let met = g.met.F.Field in
    is_y_root g.F.Field.ring met.field g.F.Field.number g.F.Field.BITS g.F.Field.Q met.size met.below met.number_plus met.number_times met.number_nil met.number_unit met.same met.every k bound
    curve.some (length word) (pairs_of word) (are_pairs word) curve.points curve.are q curve.s curve.t curve.e curve.light curve.enough curve.agreement curve.zeros (packed g.F.Field.BITS (map g.F.Field.number list)) list len refl
    (same_test word g.F.Field.BITS k bound (packed g.F.Field.BITS (map g.F.Field.number list)) ∙ fit)
