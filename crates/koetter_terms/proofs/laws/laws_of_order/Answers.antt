use Rattle.koetter_terms.proofs.Places.{place_same, place_up}
use Rattle.koetter_terms.proofs.laws.laws_of_order.Goals as goal

pub returns-clause-different : goal.returns-clause-different
returns-clause-different c w some i j a b same = place_same w some i j a b same

pub returns-clause-kept : goal.returns-clause-kept
returns-clause-kept c w some i j a b l = place_up w some i j a b l
