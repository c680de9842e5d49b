use Rattle.std.proofs.Common.{◌≡◌, ◌≤◌, ◌*◌}
use Rattle.gf2m.specs.Elements.{with_multiple}
use Rattle.gf2m.specs.Slices.{zipped_below}
use Rattle.gf2m.proofs.slices.add_groups.Given as goal

abbrev pub invariant-loop-group : goal.invariant-loop-group
invariant-loop-group g l =
    (low : 4 ≤ g.row.M) (high : g.row.M ≤ 8) → l.target ≡ zipped_below (with_multiple g.row.M low high l.fn.factor) (16 * l.group) l.fn.target l.source
