use Rattle.std.proofs.Common.{refl}
use Rattle.std.specs.Fmt.{digits}
use Rattle.hex.specs.Hex.{encode_with}
use Rattle.gf_terms.specs.Arithmetic.{carryless, reduced, reduction, product, power}
use Rattle.code_terms.specs.Symbols.{symbol_of}
use Rattle.packaging_terms.proofs.laws.worked_film.Goals as goal

pub returns : goal.returns
unfolding symbol_of encode_with carryless reduced reduction product power digits
returns c = record { message = refl; variants = refl; target = refl; last_marked = refl; lines = refl }
