use Rattle.std.proofs.Common.{◌++◌, ap, sym, ◌∙◌}
use Rattle.pair_terms.specs.Pairs.{pair_at, pairs_below}
use Rattle.pair_terms.proofs.WordPairs.{pairs_none, pairs_more}
use Rattle.shown_pairs.proofs.word_pairs.pairs_of.Goals as goal

pub places-init : goal.places-init
places-init c = c.new-pairs.ensures.items ∙ sym (pairs_none c.args.word.now)

pub places-preserved : goal.places-preserved
places-preserved c =
    c.in_ok-add_slot.ensures
    ∙ ap (λ t. t ++ pair_at c.places.place c.get.result) c.places.invariant
    ∙ ap (λ s. pairs_below c.args.word.now c.places.place ++ pair_at c.places.place s) c.get.ensures
    ∙ sym (pairs_more c.args.word.now c.places.place)
