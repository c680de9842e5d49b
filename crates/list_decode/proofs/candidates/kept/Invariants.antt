use Rattle.std.proofs.Common.{◌≡◌, ◌+◌, ◌*◌, ◌≤◌, List, filter, map, take}
use Rattle.code_terms.specs.Symbols.{packed}
use Rattle.pair_terms.specs.Recovery.{fits_enough}
use Rattle.list_decode.proofs.candidates.kept.Given as goal

-- The messages of the first i roots, of which those stay that meet the threshold.
abbrev pub invariant-roots : goal.invariant-roots
invariant-roots g l = record {
  value : l.messages.items ≡ filter (fits_enough g.F.Field.BITS l.code.dimension l.pairs l.c) (map (λ (root : List g.row.F.Denot). packed g.F.Field.BITS (map g.F.Field.number root)) (take l.i l.roots));
  products : l.prods ≤ l.fn.prods + l.i * (l.code.places * l.code.dimension);
}
