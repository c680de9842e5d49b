use Rattle.std.proofs.Common.{◌≡◌, ◌∙◌, Ok, ap, length}
use Rattle.std.specs.Vec.Iter.{into_iter_items, into_iter_len}
use Rattle.std.proofs.lemmas.Iterator.{items_from_collect}
use Rattle.std.proofs.lemmas.Iterator.Adapters.{YieldsList-from_skip, YieldsList-from_vec}
use Rattle.trace_cli.proofs.after_first.Goals as goal

pub returns-in-Ok-clause-words : goal.returns-in-Ok-clause-words
returns-in-Ok-clause-words c =
    let given = c.args.arguments in
    let len : into_iter_len given ≡ length (into_iter_items given) = given.rest.ok.0 in
    let all = YieldsList-from_vec (into_iter_items given) (ap into_iter_items c.skip.ensures.source) (ap into_iter_len c.skip.ensures.source ∙ len) in
    items_from_collect {E = Unit {0}} (Ok c.in-Ok.words) c.in-Ok.ensures.ran (YieldsList-from_skip {s = c.skip.result} 1 all c.skip.ensures.count)
