-- The text of a playlist is read as that playlist.
use Rattle.std.proofs.Common.{◌≡◌, ◌∙◌, ap, ℕ, ◌^◌, ◌/◌, ◌%◌, ◌<◌, Bool, true, false, not, ◌==◌, nat_le, List, [], ◌∷◌, ◌++◌, map, reverse, codes, All, Ok, refl, arith}
use Rattle.std.specs.Fmt.{decimal}
use Rattle.std.specs.List.{list_all, flat_map}
use Rattle.std.proofs.lemmas.Str.{is_utf8-from_IsUtf8}
use Rattle.std.proofs.lemmas.List.{map-append}
use Rattle.std.proofs.lemmas.List.Elements.{All-head, All-tail}
use Rattle.text_terms.specs.Names.{is_printable, is_name}
use Rattle.text_terms.proofs.NameLaws.{name_form}
use Rattle.playlist_terms.specs.Lines.{stands_as_uri}
use Rattle.playlist_terms.specs.MediaLines.{End, media_line}
use Rattle.playlist_terms.specs.Playlists.{PlaylistSegment, Playlist, IsSegment, IsPlaylist, is_segment_uri, duration_line, cut_lines, segment_lines, head_lines, playlist_lines, playlist_text}
use Rattle.playlist_terms.specs.Durations.{duration_text, low_digits}
use Rattle.playlist_terms.specs.Reading.{playlist_among, playlist_of}
use Rattle.playlist_terms.proofs.Cutting.{IsPlainLine, ArePlainLines, lines_again}
use Rattle.playlist_terms.proofs.Digits.{both, joins, decimal_digits}
use Rattle.playlist_terms.proofs.Growing.{cut_said, segment_said, head_said, playlist_said, AreNamed, lines_make}
use Rattle.playlist_terms.proofs.WrittenDurations.{from_append, digits_from, low_digits_are}
use Rattle.playlist_terms.proofs.WrittenLines.{version_line, target_line, sequence_line, duration_said_again, start_line, kind_line, cut_line, end_line, uri_line}

-- each segment is allowed
abbrev pub AreSegments : List PlaylistSegment → Type 0
AreSegments [] = Unit {0}
AreSegments (s ∷ more) = IsSegment s × AreSegments more

are_segments : (ss : List PlaylistSegment) → All IsSegment ss → AreSegments ss
are_segments [] all = tt
are_segments (s ∷ ss) all = (All-head IsSegment s ss all, are_segments ss (All-tail IsSegment s ss all))

are_named : (ss : List PlaylistSegment) → AreSegments ss → AreNamed ss
are_named [] all = tt
are_named (s ∷ ss) all = ((both (is_name s.uri) (stands_as_uri s.uri) all.0.uri).0, are_named ss all.1)

-- ---- the lines are plain

plain_append : (a b : List (List ℕ)) → ArePlainLines a → ArePlainLines b → ArePlainLines (a ++ b)
plain_append [] b first second = second
plain_append (text ∷ a) b first second = (first.0, plain_append a b first.1 second)

plain_printable : (text : List ℕ) → list_all is_printable text ≡ true → IsPlainLine text
plain_printable [] is = refl
plain_printable (b ∷ bs) is =
    let parts = both (is_printable b) (list_all is_printable bs) is in
    joins (nat_le 32 b) (list_all (λ b. nat_le 32 b) bs) (both (nat_le 32 b) (not (b == 127)) parts.0).0 (plain_printable bs parts.1)

plain_uri : (uri : List ℕ) → is_segment_uri uri ≡ true → IsPlainLine uri
plain_uri uri is = plain_printable uri (name_form uri (both (is_name uri) (stands_as_uri uri) is).0).printable

plain_number : (tag : List ℕ) (n : ℕ) → IsPlainLine tag → n < 2 ^ 64 → IsPlainLine (tag ++ decimal n)
plain_number tag n plain small = from_append 32 tag (decimal n) plain (digits_from 32 (decimal n) (omega arith) (decimal_digits n (omega arith)))

plain_duration : (micros : ℕ) → micros < 10 ^ 16 → IsPlainLine (duration_line micros)
plain_duration micros small =
    let six : List ℕ = low_digits 6 (micros % 1000000) in
    from_append 32 (codes "#EXTINF:") (duration_text micros ++ codes ",") refl
    (from_append 32 (duration_text micros) (codes ",")
    (from_append 32 (decimal (micros / 1000000)) (codes "." ++ six) (digits_from 32 (decimal (micros / 1000000)) (omega arith) (decimal_digits (micros / 1000000) (omega arith)))
    (from_append 32 (codes ".") six refl (digits_from 32 six (omega arith) (low_digits_are 6 (micros % 1000000)))))
    refl)

plain_cut : (cut : Bool) → ArePlainLines (cut_lines cut)
plain_cut true = (refl, tt)
plain_cut false = tt

plain_segments : (ss : List PlaylistSegment) → AreSegments ss → ArePlainLines (flat_map segment_lines ss)
plain_segments [] all = tt
plain_segments (s ∷ ss) all =
    plain_append (segment_lines s) (flat_map segment_lines ss)
    (plain_append (cut_lines s.cut) (duration_line s.micros ∷ s.uri ∷ []) (plain_cut s.cut) (plain_duration s.micros all.0.micros, (plain_uri s.uri all.0.uri, tt)))
    (plain_segments ss all.1)

plain_lines : (p : Playlist) → IsPlaylist p → ArePlainLines (playlist_lines p)
plain_lines p is =
    plain_append (head_lines p) (flat_map segment_lines p.segments ++ codes "#EXT-X-ENDLIST" ∷ [])
    (refl, (plain_number (codes "#EXT-X-VERSION:") p.version refl (omega (arith, is.version_high)), (plain_number (codes "#EXT-X-TARGETDURATION:") p.target refl is.target, (plain_number (codes "#EXT-X-MEDIA-SEQUENCE:") p.sequence refl is.sequence, (refl, tt)))))
    (plain_append (flat_map segment_lines p.segments) (codes "#EXT-X-ENDLIST" ∷ []) (plain_segments p.segments (are_segments p.segments is.segments)) (refl, tt))

-- ---- what the lines say

cut_again : (cut : Bool) → map media_line (cut_lines cut) ≡ cut_said cut
cut_again true = ap (λ line. line ∷ []) cut_line
cut_again false = refl

segment_again : (s : PlaylistSegment) → IsSegment s → map media_line (segment_lines s) ≡ segment_said s
segment_again s is =
    let duration = duration_said_again s.micros is.micros in
    let uri = uri_line s.uri is.uri (is_utf8-from_IsUtf8 s.uri is.utf8) in
    map-append media_line (cut_lines s.cut) (duration_line s.micros ∷ s.uri ∷ []) ∙ (λ i. cut_again s.cut i ++ (duration i ∷ uri i ∷ []))

segments_again : (ss : List PlaylistSegment) → AreSegments ss → map media_line (flat_map segment_lines ss) ≡ flat_map segment_said ss
segments_again [] all = refl
segments_again (s ∷ ss) all =
    map-append media_line (segment_lines s) (flat_map segment_lines ss) ∙ (λ i. segment_again s all.0 i ++ segments_again ss all.1 i)

head_again : (p : Playlist) → IsPlaylist p → map media_line (head_lines p) ≡ head_said p
head_again p is =
    let version = version_line p.version is.version_low is.version_high in
    let target = target_line p.target is.target in
    let sequence = sequence_line p.sequence is.sequence in
    λ i. start_line i ∷ version i ∷ target i ∷ sequence i ∷ kind_line i ∷ []

lines_said : (p : Playlist) → IsPlaylist p → map media_line (playlist_lines p) ≡ playlist_said p
lines_said p is =
    let segments = segments_again p.segments (are_segments p.segments is.segments) in
    let end : map media_line (codes "#EXT-X-ENDLIST" ∷ []) ≡ End ∷ [] = ap (λ line. line ∷ []) end_line in
    let behind : map media_line (flat_map segment_lines p.segments ++ codes "#EXT-X-ENDLIST" ∷ []) ≡ flat_map segment_said p.segments ++ End ∷ [] =
    map-append media_line (flat_map segment_lines p.segments) (codes "#EXT-X-ENDLIST" ∷ []) ∙ (λ i. segments i ++ end i) in
    map-append media_line (head_lines p) (flat_map segment_lines p.segments ++ codes "#EXT-X-ENDLIST" ∷ []) ∙ (λ i. head_again p is i ++ behind i)

pub written_is_read : (p : Playlist) → IsPlaylist p → playlist_of (playlist_text p) ≡ Ok p
written_is_read p is =
    ap (λ lines. playlist_among (reverse (map media_line lines))) (lines_again (playlist_lines p) (plain_lines p is))
    ∙ ap (λ said. playlist_among (reverse said)) (lines_said p is)
    ∙ lines_make p (are_named p.segments (are_segments p.segments is.segments)) is.room
