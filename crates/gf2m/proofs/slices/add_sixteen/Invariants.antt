use Rattle.std.proofs.Common.{◌≡◌, ◌+◌, ◌≤◌, List, length}
use Rattle.gf2m.specs.Elements.{with_multiple}
use Rattle.gf2m.specs.Slices.{zipped_below}
use Rattle.gf2m.specs.declared.gf.Gf.{Gf}
use Rattle.gf2m.proofs.slices.add_sixteen.Given as goal

abbrev pub invariant-loop-k : goal.invariant-loop-k
invariant-loop-k g l =
    (low : 4 ≤ g.row.M) (high : g.row.M ≤ 8) (xs : List (Gf g.row.M)) → length xs ≡ length l.source
    → l.fn.target ≡ zipped_below (with_multiple g.row.M low high l.fn.factor) l.start xs l.source
    → l.target ≡ zipped_below (with_multiple g.row.M low high l.fn.factor) (l.start + l.k) xs l.source
