use Rattle.std.proofs.Common.{◌≡◌, ℕ, ◌<◌, ◌≤◌, bit_xor, get_or}
use Rattle.report_check.proofs.rows.add.Given as goal

-- the places below this one are done
abbrev pub invariant-loop-place : goal.invariant-loop-place
invariant-loop-place l = record {
  done : (p : ℕ) → p < l.place → get_or l.symbols p 0 ≡ bit_xor (get_or l.fn.symbols p 0) (get_or l.row p 0);
  rest : (p : ℕ) → l.place ≤ p → get_or l.symbols p 0 ≡ get_or l.fn.symbols p 0;
}
