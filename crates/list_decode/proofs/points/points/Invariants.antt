use Rattle.std.proofs.Common.{◌≡◌, map, take}
use Rattle.list_decode.specs.Points.{numbers_of}
use Rattle.list_decode.proofs.points.points.Given as goal

-- The points of the first pairs.
abbrev pub invariant-pairs : goal.invariant-pairs
invariant-pairs g l = map (numbers_of g.F.Field.number) l.points.items ≡ take l.i l.pairs
