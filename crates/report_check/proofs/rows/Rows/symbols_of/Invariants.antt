use Rattle.std.proofs.Common.{ℕ, ◌<◌, ◌≤◌, ◌^◌, ◌*◌, ◌%◌}
use Rattle.report_check.specs.Shown.{AreRows, HasSymbols}
use Rattle.report_check.proofs.rows.Rows.symbols_of.Given as goal

-- the symbols of the last digits
abbrev pub invariant-loop-zeros : goal.invariant-loop-zeros
invariant-loop-zeros l = (m k n : ℕ) → AreRows m k n l.self.digits l.self.rows → n ≤ 256 → l.number < 2 ^ (m * k) → HasSymbols m k (l.number % 2 ^ (4 * l.zeros)) n l.symbols
