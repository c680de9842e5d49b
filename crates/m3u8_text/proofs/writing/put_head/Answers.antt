use Rattle.std.proofs.Common.{◌≡◌, ◌++◌, ◌∙◌, ap, codes}
use Rattle.std.specs.Fmt.{decimal}
use Rattle.std.proofs.lemmas.Result.{on_ok_weaker}
use Rattle.playlist_terms.specs.Lines.{fed}
use Rattle.m3u8_text.proofs.Written.{five_lines}
use Rattle.m3u8_text.proofs.writing.put_head.Goals as goal

pub returns : goal.returns
returns c =
    let list = c.args.list.now in
    let out = c.args.out.now.items in
    let first : c.put_line.new.out.items ≡ out ++ fed (codes "#EXTM3U") = c.in_ok-put_line.ensures in
    let version : c.from.result ≡ list.version = c.from.ensures ∙ c.version.ensures in
    let second : c.put_number_line.new.out.items ≡ (out ++ fed (codes "#EXTM3U")) ++ fed (codes "#EXT-X-VERSION:" ++ decimal list.version) =
    c.in_ok-put_number_line.ensures ∙ (λ i. first i ++ fed (codes "#EXT-X-VERSION:" ++ decimal (version i))) in
    let third : c.put_number_line-2.new.out.items ≡ ((out ++ fed (codes "#EXTM3U")) ++ fed (codes "#EXT-X-VERSION:" ++ decimal list.version)) ++ fed (codes "#EXT-X-TARGETDURATION:" ++ decimal list.target) =
    c.in_ok-put_number_line-2.ensures ∙ (λ i. second i ++ fed (codes "#EXT-X-TARGETDURATION:" ++ decimal (c.target.ensures i))) in
    let fourth = c.in_ok-put_number_line-3.ensures ∙ (λ i. third i ++ fed (codes "#EXT-X-MEDIA-SEQUENCE:" ++ decimal (c.sequence.ensures i))) in
    on_ok_weaker c.put_line-2.result (λ last. last
    ∙ ap (λ front. front ++ fed (codes "#EXT-X-PLAYLIST-TYPE:VOD")) fourth
    ∙ five_lines out (codes "#EXTM3U") (codes "#EXT-X-VERSION:" ++ decimal list.version) (codes "#EXT-X-TARGETDURATION:" ++ decimal list.target) (codes "#EXT-X-MEDIA-SEQUENCE:" ++ decimal list.sequence) (codes "#EXT-X-PLAYLIST-TYPE:VOD")) c.put_line-2.ensures
