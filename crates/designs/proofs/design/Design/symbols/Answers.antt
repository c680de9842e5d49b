use Rattle.std.proofs.lemmas.Bool.{and_parts, leb-true}
use Rattle.std.specs.Prelude.{nat_le}
use Rattle.designs.proofs.Sizes.{symbol_count-low}
use Rattle.designs.proofs.design.Design.symbols.Goals as goal

pub returns-clause-low : goal.returns-clause-low
returns-clause-low c =
    let both = and_parts (nat_le 4 c.self.inside.bits) (nat_le c.self.inside.bits 8) c.self.invariant.bits in
    symbol_count-low c.self.inside.bits (leb-true 4 c.self.inside.bits both.0) (leb-true c.self.inside.bits 8 both.1)
