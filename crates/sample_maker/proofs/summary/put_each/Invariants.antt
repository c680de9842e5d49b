use Rattle.std.proofs.Common.{◌≡◌, ◌++◌, take, map}
use Rattle.std.specs.List.{flat_map}
use Rattle.sample_terms.specs.Summary.{spaced}
use Rattle.sample_maker.proofs.summary.put_each.Given as goal

abbrev pub invariant-accused : goal.invariant-accused
invariant-accused l = l.text.items ≡ l.fn.text.items ++ flat_map spaced (map (λ one. one.serial) (take l.one-index l.accused))
