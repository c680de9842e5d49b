-- How the entries of an index from names to states stand for licensees: the place of an entry is the serial.
use Rattle.std.specs.Prelude.{ℕ, Bool, List, map}
use Rattle.std.specs.declared.string.String.{String}
use Rattle.std.specs.String.{string_bytes}
use Rattle.lic_register.specs.declared.licensee.Licensee.{Licensee}
use Rattle.lic_register.specs.declared.rule.Rule.{Rule}
use Rattle.register_terms.specs.Enrolment.{Enrolment}
use Rattle.register_terms.specs.Enrolment as terms

-- the licensee that an entry stands for
abbrev pub entry_licensee : {Y : Type 0} → String Y × Bool → terms.Licensee
entry_licensee entry = record { name = string_bytes entry.0; active = entry.1 }

abbrev pub entry_licensees : {Y : Type 0} → List (String Y × Bool) → List terms.Licensee
entry_licensees entries = map entry_licensee entries

-- the licensee that is shown
abbrev pub shown : Licensee → terms.Licensee
shown x = record { name = x.name.now; active = x.active }

-- the register of these numbers and licensees
abbrev pub register_with : Rule → List terms.Licensee → Enrolment
register_with rule licensees = record { bits = rule.bits; dimension = rule.dimension; multiplier = rule.multiplier; shift = rule.shift; licensees = licensees }
