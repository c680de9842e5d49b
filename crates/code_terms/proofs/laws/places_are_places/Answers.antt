use Rattle.code_terms.proofs.PlaceLaws.{places_of-within, places_of-ascending, agreement_of-few, readable-few}
use Rattle.code_terms.proofs.laws.places_are_places.Goals as goal

pub returns : goal.returns
returns c = record { within = places_of-within; ascending = places_of-ascending; readable = agreement_of-few; few = readable-few }
