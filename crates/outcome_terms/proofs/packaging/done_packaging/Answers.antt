use Rattle.outcome_terms.proofs.PackagingHeadlines.{title_done, playlist_done}
use Rattle.outcome_terms.proofs.packaging.done_packaging.Goals as goal

pub returns : goal.returns
returns c = record { title = title_done; playlist = playlist_done }
