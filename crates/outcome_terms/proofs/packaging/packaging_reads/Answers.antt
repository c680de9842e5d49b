use Rattle.outcome_terms.proofs.PackagingNames.{title_names, playlist_names}
use Rattle.outcome_terms.proofs.packaging.packaging_reads.Goals as goal

pub returns : goal.returns
returns c = record { title = title_names; playlist = playlist_names }
