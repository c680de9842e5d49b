use Rattle.std.proofs.Common.{◌≡◌, drop, map}
use Rattle.code_terms.specs.Symbols.{packed}
use Rattle.rs_code.proofs.code.packed_number.Given as goal

-- The message of the coefficients from j on.
abbrev pub invariant-coefficients : goal.invariant-coefficients
invariant-coefficients g l = l.number ≡ packed g.F.Field.BITS (drop l.j (map g.F.Field.number l.coefs))
