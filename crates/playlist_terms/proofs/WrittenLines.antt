-- What each written line says.
use Rattle.std.proofs.Common.{◌≡◌, ◌∙◌, ap, ℕ, zero, suc, ◌/◌, ◌%◌, ◌^◌, ◌<◌, ◌≤◌, Bool, true, false, not, eqb, Some, List, [], ◌∷◌, ◌++◌, get_or, codes, refl, arith}
use Rattle.std.specs.Prelude.{nat_lt}
use Rattle.std.specs.Char.{is_ascii_digit}
use Rattle.std.specs.Fmt.{decimal}
use Rattle.std.specs.List.{list_all}
use Rattle.std.specs.Str.{is_utf8, IsUtf8, all_ascii_digits}
use Rattle.std.proofs.lemmas.Bool.{leb-true}
use Rattle.std.proofs.lemmas.Bool.Decides.{nat_tests}
use Rattle.std.proofs.lemmas.Str.{IsUtf8-append, IsUtf8-from_ascii, is_utf8-from_IsUtf8}
use Rattle.text_terms.specs.Names.{is_name}
use Rattle.playlist_terms.specs.Lines.{line_of, is_spaces, stands_as_uri}
use Rattle.playlist_terms.specs.TagValues.{whole_number_of, as_version}
use Rattle.playlist_terms.specs.Durations.{duration_of, duration_text, low_digits}
use Rattle.playlist_terms.specs.MediaLines.{Uri, Start, Version, Target, Sequence, Duration, Kind, End, Cut, media_tag, media_line}
use Rattle.playlist_terms.specs.Playlists.{is_segment_uri, duration_line}
use Rattle.playlist_terms.proofs.Digits.{both, joins, decimal_utf8, number_again, version_again}
use Rattle.playlist_terms.proofs.WrittenDurations.{duration_again, low_digits_are}

-- ---- UTF-8

-- each byte is ASCII
abbrev pub is_low : List ℕ → Bool
is_low text = list_all (λ b. nat_lt b 128) text

low_at : (text : List ℕ) (i : ℕ) → is_low text ≡ true → get_or text i 0 < 128
low_at [] i low = omega arith
low_at (b ∷ bs) zero low = leb-true (suc b) 128 (both (nat_lt b 128) (is_low bs) low).0
low_at (b ∷ bs) (suc i) low = low_at bs i (both (nat_lt b 128) (is_low bs) low).1

pub low_utf8 : (text : List ℕ) → is_low text ≡ true → IsUtf8 text
low_utf8 text low = IsUtf8-from_ascii text (λ i. low_at text i low)

-- an ASCII front and a text
pub utf8_behind : (front text : List ℕ) → is_low front ≡ true → IsUtf8 text → is_utf8 (front ++ text) ≡ true
utf8_behind front text low utf8 = is_utf8-from_IsUtf8 (front ++ text) (IsUtf8-append front text (low_utf8 front low) utf8)

low_digit : (c : ℕ) → is_ascii_digit c ≡ true → nat_lt c 128 ≡ true
low_digit c is = grind (arith, nat_tests)

low_of_digits : (ds : List ℕ) → all_ascii_digits ds ≡ true → is_low ds ≡ true
low_of_digits [] is = refl
low_of_digits (c ∷ cs) is =
    let parts = both (is_ascii_digit c) (all_ascii_digits cs) is in
    joins (nat_lt c 128) (is_low cs) (low_digit c parts.0) (low_of_digits cs parts.1)

-- ---- tags

version_tag : (value : List ℕ) → is_utf8 (codes "#EXT-X-VERSION:" ++ value) ≡ true → media_line (codes "#EXT-X-VERSION:" ++ value) ≡ Version (as_version (whole_number_of value))
unfolding media_line line_of media_tag
version_tag value utf8 = rw utf8 refl

target_tag : (value : List ℕ) → is_utf8 (codes "#EXT-X-TARGETDURATION:" ++ value) ≡ true → media_line (codes "#EXT-X-TARGETDURATION:" ++ value) ≡ Target (whole_number_of value)
unfolding media_line line_of media_tag
target_tag value utf8 = rw utf8 refl

sequence_tag : (value : List ℕ) → is_utf8 (codes "#EXT-X-MEDIA-SEQUENCE:" ++ value) ≡ true → media_line (codes "#EXT-X-MEDIA-SEQUENCE:" ++ value) ≡ Sequence (whole_number_of value)
unfolding media_line line_of media_tag
sequence_tag value utf8 = rw utf8 refl

duration_tag : (value : List ℕ) → is_utf8 (codes "#EXTINF:" ++ value) ≡ true → media_line (codes "#EXTINF:" ++ value) ≡ Duration (duration_of value)
unfolding media_line line_of media_tag
duration_tag value utf8 = rw utf8 refl

pub version_line : (n : ℕ) → 1 ≤ n → n ≤ 65535 → media_line (codes "#EXT-X-VERSION:" ++ decimal n) ≡ Version (Some n)
version_line n low high =
    version_tag (decimal n) (utf8_behind (codes "#EXT-X-VERSION:") (decimal n) refl (decimal_utf8 n (omega arith)))
    ∙ ap (λ value. Version (as_version value)) (number_again n (omega arith)) ∙ ap Version (version_again n low high)

pub target_line : (n : ℕ) → n < 2 ^ 64 → media_line (codes "#EXT-X-TARGETDURATION:" ++ decimal n) ≡ Target (Some n)
target_line n small =
    target_tag (decimal n) (utf8_behind (codes "#EXT-X-TARGETDURATION:") (decimal n) refl (decimal_utf8 n (omega arith))) ∙ ap Target (number_again n small)

pub sequence_line : (n : ℕ) → n < 2 ^ 64 → media_line (codes "#EXT-X-MEDIA-SEQUENCE:" ++ decimal n) ≡ Sequence (Some n)
sequence_line n small =
    sequence_tag (decimal n) (utf8_behind (codes "#EXT-X-MEDIA-SEQUENCE:") (decimal n) refl (decimal_utf8 n (omega arith))) ∙ ap Sequence (number_again n small)

duration_utf8 : (micros : ℕ) → micros < 10 ^ 16 → IsUtf8 (duration_text micros ++ codes ",")
duration_utf8 micros small =
    let seconds = decimal_utf8 (micros / 1000000) (omega arith) in
    let six : List ℕ = low_digits 6 (micros % 1000000) in
    IsUtf8-append (duration_text micros) (codes ",")
    (IsUtf8-append (decimal (micros / 1000000)) (codes "." ++ six) seconds (IsUtf8-append (codes ".") six (low_utf8 (codes ".") refl) (low_utf8 six (low_of_digits six (low_digits_are 6 (micros % 1000000))))))
    (low_utf8 (codes ",") refl)

pub duration_said_again : (micros : ℕ) → micros < 10 ^ 16 → media_line (duration_line micros) ≡ Duration (Some micros)
duration_said_again micros small =
    duration_tag (duration_text micros ++ codes ",") (utf8_behind (codes "#EXTINF:") (duration_text micros ++ codes ",") refl (duration_utf8 micros small)) ∙ ap Duration (duration_again micros small)

-- ---- lines that are always the same

pub start_line : media_line (codes "#EXTM3U") ≡ Start
unfolding media_line
start_line = refl

fixed : (text : List ℕ) → is_low text ≡ true → is_utf8 text ≡ true
fixed text low = is_utf8-from_IsUtf8 text (low_utf8 text low)

kind_of : is_utf8 (codes "#EXT-X-PLAYLIST-TYPE:VOD") ≡ true → media_line (codes "#EXT-X-PLAYLIST-TYPE:VOD") ≡ Kind true
unfolding media_line line_of media_tag
kind_of utf8 = rw utf8 refl

pub kind_line : media_line (codes "#EXT-X-PLAYLIST-TYPE:VOD") ≡ Kind true
kind_line = kind_of (fixed (codes "#EXT-X-PLAYLIST-TYPE:VOD") refl)

cut_of : is_utf8 (codes "#EXT-X-DISCONTINUITY") ≡ true → media_line (codes "#EXT-X-DISCONTINUITY") ≡ Cut
unfolding media_line line_of media_tag
cut_of utf8 = rw utf8 refl

pub cut_line : media_line (codes "#EXT-X-DISCONTINUITY") ≡ Cut
cut_line = cut_of (fixed (codes "#EXT-X-DISCONTINUITY") refl)

end_of : is_utf8 (codes "#EXT-X-ENDLIST") ≡ true → media_line (codes "#EXT-X-ENDLIST") ≡ End
unfolding media_line line_of media_tag
end_of utf8 = rw utf8 refl

pub end_line : media_line (codes "#EXT-X-ENDLIST") ≡ End
end_line = end_of (fixed (codes "#EXT-X-ENDLIST") refl)

-- ---- URIs

flips : (b : Bool) → not b ≡ true → b ≡ false
flips true is = cc
flips false is = refl

other_way : (b : ℕ) → eqb b 35 ≡ false → eqb 35 b ≡ false
other_way b differs = grind (arith, nat_tests)

uri_at : (b : ℕ) (bs : List ℕ) → eqb b 35 ≡ false → eqb 35 b ≡ false → is_spaces (b ∷ bs) ≡ false → is_utf8 (b ∷ bs) ≡ true → media_line (b ∷ bs) ≡ Uri (b ∷ bs)
unfolding media_line line_of
uri_at b bs differs other spaces utf8 = rw (utf8, spaces, differs, other) refl

pub uri_line : (uri : List ℕ) → is_segment_uri uri ≡ true → is_utf8 uri ≡ true → media_line uri ≡ Uri uri
uri_line [] is utf8 = cc
uri_line (b ∷ bs) is utf8 =
    let stands = both (not (eqb b 35)) (not (is_spaces (b ∷ bs))) (both (is_name (b ∷ bs)) (stands_as_uri (b ∷ bs)) is).1 in
    let differs = flips (eqb b 35) stands.0 in
    uri_at b bs differs (other_way b differs) (flips (is_spaces (b ∷ bs)) stands.1) utf8
