-- What every line of a text keeps.
use Rattle.std.proofs.Common.{◌≡◌, ℕ, ◌^◌, ◌<◌, ◌≤◌, Bool, true, false, cond, not, ◌&&◌, eqb, nat_le, Option, Some, None, List, [], ◌∷◌, ◌++◌, length, get_or, codes, refl, arith, lit<}
use Rattle.std.specs.List.{before_first, after_first}
use Rattle.std.specs.Str.{bytes_eq, is_utf8, all_ascii_digits}
use Rattle.std.specs.Str.Parse.{digits_value}
use Rattle.std.proofs.lemmas.Bool.{leb-true}
use Rattle.std.proofs.lemmas.Bool.Decides.{nat_tests}
use Rattle.std.proofs.lemmas.Int.Digits.{digits_value-lt}
use Rattle.std.proofs.lemmas.List.{length-take}
use Rattle.std.proofs.Math.Nat.{pow-le-pow_right}
use Rattle.playlist_terms.specs.Lines.{Line, is_colon, line_of, is_spaces, begins_with, stands_as_uri}
use Rattle.playlist_terms.specs.Lines as lines
use Rattle.playlist_terms.specs.TagValues.{are_digits, whole_number_of, as_version}
use Rattle.playlist_terms.specs.Durations.{first_six, seconds_to_micros, micros_of_parts, duration_of}
use Rattle.playlist_terms.specs.MediaLines.{MediaLine, NotText, Silent, Uri, Start, StartTag, Version, Target, Sequence, Duration, Kind, End, Cut, Key, Outside, said_by, media_tag, media_line, is_outside, is_no_key}
use Rattle.playlist_terms.specs.Reading.{IsSaid}
use Rattle.playlist_terms.proofs.Digits.{both, texts, has_digits, six_are_digits}

-- a number that is kept under a test
kept : (b : Bool) (v n : ℕ) → cond b (Some v) None ≡ Some n → (b ≡ true) × (v ≡ n)
kept true v n is = (refl, cc)
kept false v n is = cc

version_within : (o : Option ℕ) (n : ℕ) → as_version o ≡ Some n → (1 ≤ n) × (n ≤ 65535)
version_within None n is = absurd cc
version_within (Some m) n is =
    let found = kept (nat_le 1 m && nat_le m 65535) m n is in
    let parts = both (nat_le 1 m) (nat_le m 65535) found.0 in
    (omega (arith, leb-true 1 m parts.0, found.1), omega (arith, leb-true m 65535 parts.1, found.1))

value_below : (text : List ℕ) (most : ℕ) → all_ascii_digits text ≡ true → length text ≤ most → digits_value 10 text < 10 ^ most
value_below text most is few = omega (arith, digits_value-lt 10 text (texts.to text is), pow-le-pow_right {n = 10} (lit< tt) {i = length text} {j = most} few)

duration_within : (seconds fraction : List ℕ) (n : ℕ) → micros_of_parts seconds fraction ≡ Some n → n < 10 ^ 16
duration_within seconds fraction n is =
    let found = kept (are_digits 10 seconds && all_ascii_digits fraction) (seconds_to_micros seconds fraction) n is in
    let parts = both (are_digits 10 seconds) (all_ascii_digits fraction) found.0 in
    let digits = has_digits 10 seconds parts.0 in
    omega (arith, value_below seconds 10 digits.digits digits.few, value_below (first_six fraction) 6 (six_are_digits fraction parts.1) (omega (arith, length-take 6 (fraction ++ codes "000000"))), found.1)

record Keeps (line : MediaLine) : Type 0 where
  kept : IsSaid line

choice : (b : Bool) (x y : MediaLine) → (b ≡ true → Keeps x) → (b ≡ false → Keeps y) → Keeps (cond b x y)
choice true x y first second = first refl
choice false x y first second = second refl

plain : (line : MediaLine) → IsSaid line → Keeps line
plain line is = record { kept = is }

tag_keeps : (name value : List ℕ) → Keeps (media_tag name value)
unfolding media_tag
tag_keeps name value =
    let number = before_first (λ b. eqb b 44) value in
    let last : MediaLine = cond (is_outside name) Outside Silent in
    let rest1 : MediaLine = cond (bytes_eq name (codes "#EXTM3U")) StartTag last in
    let rest2 : MediaLine = cond (bytes_eq name (codes "#EXT-X-KEY")) (Key (is_no_key value)) rest1 in
    let rest3 : MediaLine = cond (bytes_eq name (codes "#EXT-X-ENDLIST")) End rest2 in
    let rest4 : MediaLine = cond (bytes_eq name (codes "#EXT-X-PLAYLIST-TYPE")) (Kind (bytes_eq value (codes "VOD"))) rest3 in
    let rest5 : MediaLine = cond (bytes_eq name (codes "#EXT-X-MEDIA-SEQUENCE")) (Sequence (whole_number_of value)) rest4 in
    let rest6 : MediaLine = cond (bytes_eq name (codes "#EXT-X-TARGETDURATION")) (Target (whole_number_of value)) rest5 in
    let rest7 : MediaLine = cond (bytes_eq name (codes "#EXT-X-VERSION")) (Version (as_version (whole_number_of value))) rest6 in
    let rest8 : MediaLine = cond (bytes_eq name (codes "#EXT-X-DISCONTINUITY")) Cut rest7 in
    choice (bytes_eq name (codes "#EXTINF")) (Duration (duration_of value)) rest8 (λ _. plain (Duration (duration_of value)) (duration_within (before_first (λ b. eqb b 46) number) (after_first (λ b. eqb b 46) number))) (λ _.
    choice (bytes_eq name (codes "#EXT-X-DISCONTINUITY")) Cut rest7 (λ _. plain Cut tt) (λ _.
    choice (bytes_eq name (codes "#EXT-X-VERSION")) (Version (as_version (whole_number_of value))) rest6 (λ _. plain (Version (as_version (whole_number_of value))) (version_within (whole_number_of value))) (λ _.
    choice (bytes_eq name (codes "#EXT-X-TARGETDURATION")) (Target (whole_number_of value)) rest5 (λ _. plain (Target (whole_number_of value)) tt) (λ _.
    choice (bytes_eq name (codes "#EXT-X-MEDIA-SEQUENCE")) (Sequence (whole_number_of value)) rest4 (λ _. plain (Sequence (whole_number_of value)) tt) (λ _.
    choice (bytes_eq name (codes "#EXT-X-PLAYLIST-TYPE")) (Kind (bytes_eq value (codes "VOD"))) rest3 (λ _. plain (Kind (bytes_eq value (codes "VOD"))) tt) (λ _.
    choice (bytes_eq name (codes "#EXT-X-ENDLIST")) End rest2 (λ _. plain End tt) (λ _.
    choice (bytes_eq name (codes "#EXT-X-KEY")) (Key (is_no_key value)) rest1 (λ _. plain (Key (is_no_key value)) tt) (λ _.
    choice (bytes_eq name (codes "#EXTM3U")) StartTag last (λ _. plain StartTag tt) (λ _.
    choice (is_outside name) Outside Silent (λ _. plain Outside tt) (λ _. plain Silent tt))))))))))

other_first : (b : ℕ) → (eqb 35 b && true) ≡ false → eqb b 35 ≡ false
other_first b is = grind (arith, nat_tests)

no_comment : (text : List ℕ) → begins_with (codes "#") text ≡ false → eqb (get_or text 0 0) 35 ≡ false
no_comment [] is = refl
no_comment (b ∷ bs) is = other_first b is

line_choice : (b : Bool) (x y : Line) → (b ≡ true → Keeps (said_by x)) → (b ≡ false → Keeps (said_by y)) → Keeps (said_by (cond b x y))
line_choice true x y first second = first refl
line_choice false x y first second = second refl

line_keeps : (text : List ℕ) → Keeps (said_by (line_of text))
unfolding line_of
line_keeps text =
    let uri : Line = lines.Uri text in
    let comment : Line = cond (begins_with (codes "#") text) lines.Silent uri in
    let tag : Line = cond (begins_with (codes "#EXT") text) (lines.Tag (before_first is_colon text) (after_first is_colon text)) comment in
    let blank : Line = cond (is_spaces text) lines.Silent tag in
    line_choice (not (is_utf8 text)) lines.NotText blank (λ _. plain NotText tt) (λ _.
    line_choice (is_spaces text) lines.Silent tag (λ _. plain Silent tt) (λ spaces.
    line_choice (begins_with (codes "#EXT") text) (lines.Tag (before_first is_colon text) (after_first is_colon text)) comment (λ _. tag_keeps (before_first is_colon text) (after_first is_colon text)) (λ _.
    line_choice (begins_with (codes "#") text) lines.Silent uri (λ _. plain Silent tt) (λ hash. plain (Uri text) (rw (no_comment text hash, spaces) refl)))))

media_line_keeps : (text : List ℕ) → Keeps (media_line text)
unfolding media_line
media_line_keeps text = choice (bytes_eq text (codes "#EXTM3U")) Start (said_by (line_of text)) (λ _. plain Start tt) (λ _. line_keeps text)

-- each line of a text
pub media_line_said : (text : List ℕ) → IsSaid (media_line text)
media_line_said text = (media_line_keeps text).kept
