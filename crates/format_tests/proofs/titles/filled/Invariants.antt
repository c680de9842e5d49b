use Rattle.std.proofs.Common.{◌≡◌}
use Rattle.format_tests.proofs.titles.filled.Given as goal

abbrev pub invariant-symbols : goal.invariant-symbols
invariant-symbols l = l.builder.design ≡ l.fn.design

abbrev pub invariant-places : goal.invariant-places
invariant-places l = l.builder.design ≡ l.fn.design
