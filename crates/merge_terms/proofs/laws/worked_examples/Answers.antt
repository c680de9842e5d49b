-- Each by computing both sides.
use Rattle.std.proofs.Common.{refl}
use Rattle.std.specs.Fmt.{digits}
use Rattle.gf_terms.specs.Arithmetic.{carryless, reduced, reduction, product, power}
use Rattle.code_terms.specs.Symbols.{symbol_of}
use Rattle.pair_terms.specs.Pairs.{fitting_places, fitting_count}
use Rattle.merge_terms.specs.Merged.{accused_by}
use Rattle.merge_terms.proofs.laws.worked_examples.Goals as goal

pub returns-clause-second_symbol : goal.returns-clause-second_symbol
unfolding accused_by fitting_places fitting_count symbol_of power product reduction reduced carryless digits
returns-clause-second_symbol c = refl
