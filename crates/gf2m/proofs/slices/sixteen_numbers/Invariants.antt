use Rattle.std.proofs.Common.{◌≡◌, ℕ, ◌+◌, ◌<◌, get_or}
use Rattle.gf2m.specs.declared.gf.Gf.{Gf}
use Rattle.gf2m.proofs.slices.sixteen_numbers.Given as goal

abbrev pub invariant-loop-k : goal.invariant-loop-k
invariant-loop-k g l = (k : ℕ) (x : Gf g.row.M) → k < l.k → get_or l.number-items k 0 ≡ (get_or l.source (l.start + k) x).value
