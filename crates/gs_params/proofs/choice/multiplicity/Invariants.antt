use Rattle.std.proofs.Common.{ℕ, ◌*◌, ◌-◌, ◌<◌, ◌≤◌}
use Rattle.gs_params.proofs.choice.multiplicity.Given as goal

-- No multiplicity below s does.
abbrev pub invariant-s : goal.invariant-s
invariant-s l = record {
  some : 1 ≤ l.s;
  few : l.s ≤ l.fn.c * l.fn.w;
  lesser : (k : ℕ) → 1 ≤ k → k < l.s → k * l.room ≤ l.gap;
}

abbrev pub decreases-s : goal.decreases-s
decreases-s l = l.fn.c * l.fn.w - l.s
