use Rattle.std.proofs.Common.{refl}
use Rattle.std.specs.Fmt.{digits}
use Rattle.outcome_terms.proofs.laws.worked_details.Goals as goal

pub returns : goal.returns
unfolding digits
returns c = record { weak = refl; missing = refl; wrong_type = refl; marked = refl; uri = refl; target = refl; form = refl; mismatch = refl; duplicate = refl; report = refl; readable = refl; places = refl; absent = refl; segment = refl }
