use Rattle.std.proofs.Common.{◌≡◌, ◌∙◌, ap, ◌<◌, length, get_or, arith, List}
use Rattle.playlist_terms.specs.Playlists.{PlaylistSegment, Playlist}
use Rattle.packager.proofs.Segments.{list_more, list_all}
use Rattle.packager.proofs.marking.marked_list.Goals as goal

pub segments-preserved : goal.segments-preserved
segments-preserved c =
    let t = c.args.title.now in
    let items : c.segments-segments.result.now ≡ t.list.segments = c.segments-segments.ensures.items ∙ ap (λ (l : Playlist). l.segments) c.list.ensures in
    let inside : c.segments.i < length t.list.segments = omega (arith, c.segments-test.true, ap length items) in
    let source : c.index-segments-i.result ≡ get_or t.list.segments c.segments.i c.index-segments-i.result =
    c.index-segments-i.is ∙ ap (λ (xs : List PlaylistSegment). get_or xs c.segments.i c.index-segments-i.result) items in
    record {
      made = list_more t c.args.word.now c.segments.i c.segments.list c.put.new.list c.index-segments-i.result c.in_ok-segment.segment c.place_at-place.result
          inside source c.place_at-place.ensures.place c.in_ok-segment.ensures c.segments.invariant.made c.in_ok-put.ensures;
      next = c.place_at-place.ensures.next;
    }

pub returns : goal.returns
returns c =
    let t = c.args.title.now in
    let items : c.segments-segments.result.now ≡ t.list.segments = c.segments-segments.ensures.items ∙ ap (λ (l : Playlist). l.segments) c.list.ensures in
    list_all t c.args.word.now c.segments.i c.segments.list (omega (arith, c.segments-test.false, c.segments.auto.i-end, ap length items)) c.segments.invariant.made
