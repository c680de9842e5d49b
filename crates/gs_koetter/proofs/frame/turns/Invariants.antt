use Rattle.std.proofs.Common.{◌≡◌, ℕ, ◌+◌, ◌*◌, ◌/◌, ◌%◌, ◌<◌, length, get_or}
use Rattle.gs_koetter.proofs.frame.turns.Given as goal

-- The first places.
abbrev pub invariant-places : goal.invariant-places
invariant-places l = record {
  count : length l.turns.items ≡ l.k;
  each : (n : ℕ) → n < l.k → get_or l.turns.items n 0 ≡ n % l.side * l.width + n / l.side;
}
