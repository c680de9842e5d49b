use Rattle.std.proofs.Common.{◌≡◌, ◌+◌, length}
use Rattle.register_terms.specs.RegisterText.{register_of}
use Rattle.lic_register.specs.Parts.{register_at}
use Rattle.lic_register.proofs.reading.register_in.Given as goal

abbrev pub invariant-loop-lines : goal.invariant-loop-lines
invariant-loop-lines l = (register_at l.edition l.register l.lines ≡ register_of l.bytes) × (l.lines.number ≡ 5 + length l.register.licensees)

abbrev pub decreases-loop-lines : goal.decreases-loop-lines
decreases-loop-lines l = length l.lines.lines
