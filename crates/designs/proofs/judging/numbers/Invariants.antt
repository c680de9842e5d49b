use Rattle.std.proofs.Common.{◌≡◌, take, map, Some}
use Rattle.designs.proofs.judging.numbers.Given as goal

abbrev pub invariant-numbers : goal.invariant-numbers
invariant-numbers l = l.all.items ≡ map Some (take l.segment-index l.marked)
