use Rattle.playlist_terms.proofs.Allowed.{read_allowed}
use Rattle.playlist_terms.proofs.laws.read_lists_are_allowed.Goals as goal

pub returns : goal.returns
returns c = read_allowed
