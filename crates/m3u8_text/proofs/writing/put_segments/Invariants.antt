use Rattle.std.proofs.Common.{◌≡◌, ◌++◌, take}
use Rattle.std.specs.List.{flat_map}
use Rattle.playlist_terms.specs.Lines.{fed}
use Rattle.playlist_terms.specs.Playlists.{segment_lines}
use Rattle.m3u8_text.proofs.writing.put_segments.Given as goal

abbrev pub invariant-loop-segment : goal.invariant-loop-segment
invariant-loop-segment l = l.out.items ≡ l.fn.out.items ++ flat_map fed (flat_map segment_lines (take l.segment-index l.segments))
