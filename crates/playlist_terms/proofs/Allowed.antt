-- A list that is read is one that is allowed.
use Rattle.std.proofs.Common.{◌≡◌, sym, subst, ℕ, suc, ◌-◌, ◌^◌, ◌<◌, ◌≤◌, Bool, true, false, cond, not, ◌&&◌, nat_le, Option, Some, None, Ok, List, [], ◌∷◌, length, length-append, map, reverse, codes, All, refl, arith}
use Rattle.std.specs.Prelude.{nat_lt}
use Rattle.std.specs.List.{before_first, after_first}
use Rattle.std.specs.Option.{is_none, option_map, unwrap_or, ForSome}
use Rattle.std.specs.Str.{bytes_eq, is_utf8}
use Rattle.std.specs.Str.Parse.{digits_value}
use Rattle.std.proofs.lemmas.Bool.{and_parts, and_from, ltb-true, leb-false, not-false}
use Rattle.std.proofs.lemmas.List.{get_or-reverse, length-reverse}
use Rattle.std.proofs.lemmas.List.Elements.{All-nil, All-cons, All-map, All-push}
use Rattle.std.proofs.lemmas.Str.{IsUtf8-from_is_utf8}
use Rattle.text_terms.specs.Names.{is_name}
use Rattle.playlist_terms.specs.Lines.{Line, is_colon, line_of, lines_of, is_spaces, begins_with, stands_as_uri}
use Rattle.playlist_terms.specs.Lines as lines
use Rattle.playlist_terms.specs.TagValues.{are_digits, whole_number_of, as_version}
use Rattle.playlist_terms.specs.Durations.{duration_of}
use Rattle.playlist_terms.specs.MediaLines.{MediaLine, NotText, Silent, Uri, Start, StartTag, Version, Target, Sequence, Duration, Kind, End, Cut, Key, Outside, said_by, media_tag, media_line, is_outside, is_no_key}
use Rattle.playlist_terms.specs.Playlists.{PlaylistSegment, Playlist, IsSegment, IsPlaylist}
use Rattle.playlist_terms.specs.Faults.{is_uri, version_said, target_said, sequence_said, duration_said, first_of_two, last_said, since_uri, pending, segment_of, segments, fault_after, unless}
use Rattle.playlist_terms.specs.Reading.{IsSaid, at_line, first_fault, end_fault, listed, unless_faulty, media_lines_of, playlist_of}
use Rattle.playlist_terms.specs.declared.fault.PlaylistFault.{PlaylistFault}
use Rattle.playlist_terms.specs.declared.fault.PlaylistFault.TheVariants.{NoDuration, BadUri, TooMany}
use Rattle.playlist_terms.specs.declared.fault.LineFault.{LineFault}
use Rattle.playlist_terms.proofs.Said.{media_line_said}

-- ---- what each line of a text keeps besides

abbrev Told : MediaLine → Type 0
Told (Uri uri) = is_utf8 uri ≡ true
Told (Target value) = ForSome value (λ n. n < 2 ^ 64)
Told (Sequence value) = ForSome value (λ n. n < 2 ^ 64)
Told other = Unit {0}

record Tells (line : MediaLine) : Type 0 where
  told : Told line

plain : (line : MediaLine) → Told line → Tells line
plain line is = record { told = is }

kept : (b : Bool) (v n : ℕ) → cond b (Some v) None ≡ Some n → (b ≡ true) × (v ≡ n)
kept true v n is = (refl, cc)
kept false v n is = absurd cc

number_within : (text : List ℕ) (n : ℕ) → whole_number_of text ≡ Some n → n < 2 ^ 64
number_within text n is =
    let found = kept (are_digits 20 text && nat_lt (digits_value 10 text) (2 ^ 64)) (digits_value 10 text) n is in
    let below = ltb-true (digits_value 10 text) (2 ^ 64) (and_parts (are_digits 20 text) (nat_lt (digits_value 10 text) (2 ^ 64)) found.0).1 in
    omega (arith, below, found.1)

pick : (b : Bool) (x y : MediaLine) → Tells x → Tells y → Tells (cond b x y)
pick true x y first second = first
pick false x y first second = second

tag_tells : (name value : List ℕ) → Tells (media_tag name value)
unfolding media_tag
tag_tells name value =
    let last : MediaLine = cond (is_outside name) Outside Silent in
    let rest1 : MediaLine = cond (bytes_eq name (codes "#EXTM3U")) StartTag last in
    let rest2 : MediaLine = cond (bytes_eq name (codes "#EXT-X-KEY")) (Key (is_no_key value)) rest1 in
    let rest3 : MediaLine = cond (bytes_eq name (codes "#EXT-X-ENDLIST")) End rest2 in
    let rest4 : MediaLine = cond (bytes_eq name (codes "#EXT-X-PLAYLIST-TYPE")) (Kind (bytes_eq value (codes "VOD"))) rest3 in
    let rest5 : MediaLine = cond (bytes_eq name (codes "#EXT-X-MEDIA-SEQUENCE")) (Sequence (whole_number_of value)) rest4 in
    let rest6 : MediaLine = cond (bytes_eq name (codes "#EXT-X-TARGETDURATION")) (Target (whole_number_of value)) rest5 in
    let rest7 : MediaLine = cond (bytes_eq name (codes "#EXT-X-VERSION")) (Version (as_version (whole_number_of value))) rest6 in
    let rest8 : MediaLine = cond (bytes_eq name (codes "#EXT-X-DISCONTINUITY")) Cut rest7 in
    pick (bytes_eq name (codes "#EXTINF")) (Duration (duration_of value)) rest8 (plain (Duration (duration_of value)) tt)
    (pick (bytes_eq name (codes "#EXT-X-DISCONTINUITY")) Cut rest7 (plain Cut tt)
    (pick (bytes_eq name (codes "#EXT-X-VERSION")) (Version (as_version (whole_number_of value))) rest6 (plain (Version (as_version (whole_number_of value))) tt)
    (pick (bytes_eq name (codes "#EXT-X-TARGETDURATION")) (Target (whole_number_of value)) rest5 (plain (Target (whole_number_of value)) (number_within value))
    (pick (bytes_eq name (codes "#EXT-X-MEDIA-SEQUENCE")) (Sequence (whole_number_of value)) rest4 (plain (Sequence (whole_number_of value)) (number_within value))
    (pick (bytes_eq name (codes "#EXT-X-PLAYLIST-TYPE")) (Kind (bytes_eq value (codes "VOD"))) rest3 (plain (Kind (bytes_eq value (codes "VOD"))) tt)
    (pick (bytes_eq name (codes "#EXT-X-ENDLIST")) End rest2 (plain End tt)
    (pick (bytes_eq name (codes "#EXT-X-KEY")) (Key (is_no_key value)) rest1 (plain (Key (is_no_key value)) tt)
    (pick (bytes_eq name (codes "#EXTM3U")) StartTag last (plain StartTag tt)
    (pick (is_outside name) Outside Silent (plain Outside tt) (plain Silent tt))))))))))

line_choice : (b : Bool) (x y : Line) → (b ≡ true → Tells (said_by x)) → (b ≡ false → Tells (said_by y)) → Tells (said_by (cond b x y))
line_choice true x y first second = first refl
line_choice false x y first second = second refl

line_tells : (text : List ℕ) → Tells (said_by (line_of text))
unfolding line_of
line_tells text =
    let uri : Line = lines.Uri text in
    let comment : Line = cond (begins_with (codes "#") text) lines.Silent uri in
    let tag : Line = cond (begins_with (codes "#EXT") text) (lines.Tag (before_first is_colon text) (after_first is_colon text)) comment in
    let blank : Line = cond (is_spaces text) lines.Silent tag in
    line_choice (not (is_utf8 text)) lines.NotText blank (λ _. plain NotText tt) (λ text_is.
    line_choice (is_spaces text) lines.Silent tag (λ _. plain Silent tt) (λ _.
    line_choice (begins_with (codes "#EXT") text) (lines.Tag (before_first is_colon text) (after_first is_colon text)) comment (λ _. tag_tells (before_first is_colon text) (after_first is_colon text)) (λ _.
    line_choice (begins_with (codes "#") text) lines.Silent uri (λ _. plain Silent tt) (λ _. plain (Uri text) (not-false (is_utf8 text) text_is)))))

media_line_tells : (text : List ℕ) → Tells (media_line text)
unfolding media_line
media_line_tells text = pick (bytes_eq text (codes "#EXTM3U")) Start (said_by (line_of text)) (plain Start tt) (line_tells text)

record IsLine (line : MediaLine) : Type 0 where
  said : IsSaid line
  told : Told line

line_is : (text : List ℕ) → IsLine (media_line text)
line_is text = record { said = media_line_said text; told = (media_line_tells text).told }

-- ---- what the last of them says

first_or : {P : ℕ → Type 0} (a b : Option ℕ) → ForSome a P → ForSome b P → ForSome (first_of_two a b) P
first_or None b first second = second
first_or (Some x) b first second = first

last_keeps : (said : MediaLine → Option ℕ) (P : ℕ → Type 0) → ((line : MediaLine) → IsLine line → ForSome (said line) P) → (before : List MediaLine) → All IsLine before → ForSome (last_said said before) P
last_keeps said P each [] all = λ n is. absurd cc
last_keeps said P each (line ∷ before) all =
    first_or {P = P} (said line) (last_said said before) (each line (all 0 line (omega arith))) (last_keeps said P each before (λ k d lt. all (suc k) d (omega (arith, lt))))

or_default : (P : ℕ → Type 0) (o : Option ℕ) (d : ℕ) → P d → ForSome o P → P (unwrap_or o d)
or_default P None d default some = default
or_default P (Some x) d default some = some x refl

version_each : (line : MediaLine) → IsLine line → ForSome (version_said line) (λ n. (1 ≤ n) × (n ≤ 65535))
version_each (Version value) is = is.said
version_each other is = λ n none. absurd cc

target_each : (line : MediaLine) → IsLine line → ForSome (target_said line) (λ n. n < 2 ^ 64)
target_each (Target value) is = is.told
target_each other is = λ n none. absurd cc

sequence_each : (line : MediaLine) → IsLine line → ForSome (sequence_said line) (λ n. n < 2 ^ 64)
sequence_each (Sequence value) is = is.told
sequence_each other is = λ n none. absurd cc

duration_each : (line : MediaLine) → IsLine line → ForSome (duration_said line) (λ n. n < 10 ^ 16)
duration_each (Duration value) is = is.said
duration_each other is = λ n none. absurd cc

-- ---- the segments

since_all : (before : List MediaLine) → All IsLine before → All IsLine (since_uri before)
since_all [] all = all
since_all (line ∷ before) all = by (is_uri line) (since_all before (λ k d lt. all (suc k) d (omega (arith, lt))))
  where
    by : (uri : Bool) → All IsLine (since_uri before) → All IsLine (cond uri [] (line ∷ since_uri before))
    by true later = All-nil IsLine
    by false later = All-cons IsLine line (since_uri before) (all 0 line (omega arith)) later

pending_within : (before : List MediaLine) → All IsLine before → unwrap_or (pending before) 0 < 10 ^ 16
pending_within before all = or_default (λ n. n < 10 ^ 16) (pending before) 0 (omega arith) (last_keeps duration_said (λ n. n < 10 ^ 16) duration_each (since_uri before) (since_all before all))

both_none : {A : Type 0} (a b : Option A) → first_of_two a b ≡ None → (a ≡ None) × (b ≡ None)
both_none None b is = (refl, is)
both_none (Some x) b is = absurd cc

no_fault : (number : ℕ) (o : Option PlaylistFault) → option_map (at_line number) o ≡ None → o ≡ None
no_fault number None is = refl
no_fault number (Some fault) is = absurd cc

record IsUriFine (before : List MediaLine) (uri : List ℕ) : Type 0 where
  name : is_name uri ≡ true
  room : length (segments before) < 100000

uri_by : (before : List MediaLine) (uri : List ℕ) (lone named full : Bool) → is_name uri ≡ named → nat_le 100000 (length (segments before)) ≡ full
    → cond {A = Option PlaylistFault} lone (Some NoDuration) (cond (not named) (Some BadUri) (unless (not full) TooMany)) ≡ None → IsUriFine before uri
uri_by before uri true named full is more fine = absurd cc
uri_by before uri false false full is more fine = absurd cc
uri_by before uri false true true is more fine = absurd cc
uri_by before uri false true false is more fine = record { name = is; room = leb-false 100000 (length (segments before)) more }

uri_is : (before : List MediaLine) (uri : List ℕ) → fault_after before (Uri uri) ≡ None → IsUriFine before uri
uri_is [] uri is = absurd cc
uri_is (last ∷ before) uri is = uri_by (last ∷ before) uri (is_none (pending (last ∷ before))) (is_name uri) (nat_le 100000 (length (segments (last ∷ before)))) refl refl is

record AreAllowed (segments : List PlaylistSegment) : Type 0 where
  each : All IsSegment segments
  room : length segments ≤ 100000

segments_by : (line : MediaLine) (before : List MediaLine) → IsLine line → All IsLine before → fault_after before line ≡ None → AreAllowed (segments before) → AreAllowed (segments (line ∷ before))
segments_by (Uri uri) before line all fine rest =
    let is = uri_is before uri fine in
    let room = is.room in
    let valid : IsSegment (segment_of before uri) = record {
      uri = and_from (is_name uri) (stands_as_uri uri) is.name line.said;
      utf8 = IsUtf8-from_is_utf8 uri line.told;
      micros = pending_within before all;
    } in
    record { each = All-push IsSegment (segments before) (segment_of before uri) rest.each valid; room = omega (arith, room, length-append (segments before) (segment_of before uri ∷ [])) }
segments_by other before line all fine rest = rest

segments_allowed : (found : List MediaLine) → All IsLine found → first_fault found ≡ None → AreAllowed (segments found)
segments_allowed [] all is = record { each = All-nil IsSegment; room = omega arith }
segments_allowed (line ∷ before) all is =
    let none = both_none (first_fault before) (option_map (at_line (suc (length before))) (fault_after before line)) is in
    let later : All IsLine before = λ k d lt. all (suc k) d (omega (arith, lt)) in
    segments_by line before (all 0 line (omega arith)) later (no_fault (suc (length before)) (fault_after before line) none.1) (segments_allowed before later none.0)

-- ---- the list

record WasListed (found : List MediaLine) (p : Playlist) : Type 0 where
  none : first_fault found ≡ None
  is : listed found ≡ p

was_listed : (found : List MediaLine) (fault : Option LineFault) (p : Playlist) → unless_faulty fault (listed found) ≡ Ok p → (fault ≡ None) × (listed found ≡ p)
was_listed found None p is = (refl, cc)
was_listed found (Some fault) p is = absurd cc

among_allowed : (found : List MediaLine) (p : Playlist) → All IsLine found → unless_faulty (first_of_two (first_fault found) (end_fault found)) (listed found) ≡ Ok p → IsPlaylist p
among_allowed found p all is =
    let by = was_listed found (first_of_two (first_fault found) (end_fault found)) p is in
    let none = both_none (first_fault found) (end_fault found) by.0 in
    let allowed = segments_allowed found all none.0 in
    let version = or_default (λ n. (1 ≤ n) × (n ≤ 65535)) (last_said version_said found) 1 (omega arith, omega arith) (last_keeps version_said (λ n. (1 ≤ n) × (n ≤ 65535)) version_each found all) in
    let here : IsPlaylist (listed found) = record {
      version_low = version.0;
      version_high = version.1;
      target = or_default (λ n. n < 2 ^ 64) (last_said target_said found) 0 (omega arith) (last_keeps target_said (λ n. n < 2 ^ 64) target_each found all);
      sequence = or_default (λ n. n < 2 ^ 64) (last_said sequence_said found) 0 (omega arith) (last_keeps sequence_said (λ n. n < 2 ^ 64) sequence_each found all);
      segments = allowed.each;
      room = allowed.room;
    } in
    subst IsPlaylist by.1 here

all_reverse : (said : List MediaLine) → All IsLine said → All IsLine (reverse said)
all_reverse said all =
    λ k d lt.
    let long = length-reverse said in
    subst IsLine (sym (get_or-reverse said k d (omega (arith, lt, long)))) (all (length said - 1 - k) d (omega (arith, lt, long)))

pub read_allowed : (bytes : List ℕ) (p : Playlist) → playlist_of bytes ≡ Ok p → IsPlaylist p
read_allowed bytes p is = among_allowed (media_lines_of bytes) p (all_reverse (map media_line (lines_of bytes)) (All-map IsLine media_line (lines_of bytes) (λ k d lt. line_is _))) is
