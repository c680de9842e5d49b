use Rattle.std.proofs.Common.{refl}
use Rattle.std.specs.Fmt.{digits}
use Rattle.hex.specs.Hex.{encode_with}
use Rattle.gf_terms.specs.Arithmetic.{carryless, reduced, reduction, product, power}
use Rattle.code_terms.specs.Symbols.{symbol_of}
use Rattle.packaging_terms.specs.Licensees.{licensed_list}
use Rattle.packaging_terms.proofs.laws.worked_examples.Goals as goal

pub returns : goal.returns
unfolding licensed_list symbol_of encode_with carryless reduced reduction product power digits
returns c = record { lic16 = refl; lic17 = refl; text = refl; half = refl; below_half = refl; raised = refl; not_raised = refl; version = refl; later_version = refl }
