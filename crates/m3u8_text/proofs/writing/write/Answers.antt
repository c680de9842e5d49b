use Rattle.std.proofs.Common.{◌++◌, ◌∙◌, ap, codes}
use Rattle.std.specs.List.{flat_map}
use Rattle.playlist_terms.specs.Lines.{fed}
use Rattle.playlist_terms.specs.Playlists.{head_lines, segment_lines}
use Rattle.playlist_terms.specs.Reading.{playlist_of}
use Rattle.playlist_terms.proofs.Written.{written_is_read}
use Rattle.m3u8_text.proofs.Written.{whole_text}
use Rattle.m3u8_text.proofs.writing.write.Goals as goal

pub returns-clause-text : goal.returns-clause-text
returns-clause-text c =
    let list = c.args.list.now in
    let head = c.in_ok-put_head.ensures ∙ ap (λ front. front ++ flat_map fed (head_lines list)) c.new-out.ensures.items in
    let body = c.in_ok-put_segments.ensures ∙ (λ i. head i ++ flat_map fed (flat_map segment_lines (c.segments.ensures.items i))) in
    c.in_ok-put_line.ensures ∙ ap (λ front. front ++ fed (codes "#EXT-X-ENDLIST")) body ∙ whole_text list

pub returns-clause-again : goal.returns-clause-again
returns-clause-again c = ap playlist_of (returns-clause-text c) ∙ written_is_read c.args.list.now c.segments.ensures.allowed
