use Rattle.std.proofs.Common.{ℕ, List, Ok, Err}
use Rattle.playlist_terms.specs.Reading.{playlist_of}
use Rattle.outcome_terms.specs.declared.fault.Fault.TheVariants.{BadPlaylist}
use Rattle.outcome_terms.specs.Reading.{understood}
use Rattle.outcome_terms.specs.TitleCommand.{playlist_under}
use Rattle.outcome_terms.proofs.Readings.{goes_on, stops, settled, read_follows}
use Rattle.title_io.proofs.playlist.playlist_under.Goals as goal

pub returns-in-Ok : goal.returns-in-Ok
unfolding playlist_under
returns-in-Ok g c =
    let h = c.in-Ok.ensures in
    goes_on (λ (bytes : List ℕ). understood BadPlaylist (playlist_of bytes)) (read_follows (Ok h.bytes) h.read)
    (settled (understood BadPlaylist (playlist_of h.bytes)) _ c.finished.result (c.finished.ensures h.bytes h.stands_for))

pub returns-in-Err : goal.returns-in-Err
unfolding playlist_under
returns-in-Err g c = stops (λ (bytes : List ℕ). understood BadPlaylist (playlist_of bytes)) (read_follows (Err c.in-Err.refusal) c.in-Err.ensures)
