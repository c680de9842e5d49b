use Rattle.std.proofs.Common.{◌≡◌, ℕ, ◌+◌, ◌-◌, ◌*◌, ◌<◌, ◌≤◌}
use Rattle.decoding_terms.specs.Parameters.{term_count}
use Rattle.gs_params.proofs.choice.weight.Given as goal

-- The terms below e are counted, and no weight below e has enough.
abbrev pub invariant-cols : goal.invariant-cols
invariant-cols l = record {
  counted : l.cols ≡ term_count l.w l.e;
  many : l.e ≤ l.cols;
  few : l.cols ≤ 2 * l.rows + 1;
  lesser : (k : ℕ) → k < l.e → term_count l.w k ≤ l.rows;
}

abbrev pub decreases-cols : goal.decreases-cols
decreases-cols l = l.rows + 1 - l.cols
