use Rattle.std.proofs.Common.{◌^◌}
use Rattle.lic_register.proofs.Quotients.{IsDivided}
use Rattle.lic_register.proofs.finding.quotient.Given as goal

abbrev pub invariant-bits : goal.invariant-bits
invariant-bits l = IsDivided l.multiplier (2 ^ l.bits) l.rest (2 ^ l.bit) l.quotient l.left
