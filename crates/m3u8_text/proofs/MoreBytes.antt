-- What a reader stands for after one more piece.
use Rattle.std.proofs.Common.{◌≡◌, ◌≢◌, ◌∙◌, sym, ap, subst, ℕ, suc, ◌+◌, ◌<◌, ◌≤◌, true, false, List, [], ◌∷◌, ◌++◌, length, length-append, map, reverse, append_assoc, append-nil, vec_len, Option, Some, None, Result, Ok, Err, refl, arith}
use Rattle.std.specs.Option.{is_some}
use Rattle.std.specs.Str.Lines.{strip_carriage_return}
use Rattle.std.proofs.lemmas.List.{reverse-append}
use Rattle.std.proofs.lemmas.List.Elements.{All-append, All-nil}
use Rattle.playlist_terms.specs.Lines.{lines_of}
use Rattle.playlist_terms.specs.MediaLines.{MediaLine, media_line}
use Rattle.playlist_terms.specs.Playlists.{Playlist}
use Rattle.playlist_terms.specs.Faults.{fault_after}
use Rattle.playlist_terms.specs.Reading.{at_line, first_fault, media_lines_of, playlist_among, playlist_of}
use Rattle.playlist_terms.specs.declared.fault.PlaylistFault.{PlaylistFault}
use Rattle.playlist_terms.specs.declared.fault.LineFault.{LineFault}
use Rattle.playlist_terms.proofs.Cutting.{lines_of-fed, lines_of-last}
use Rattle.m3u8_text.specs.declared.line_reader.LineReader.{LineReader}
use Rattle.m3u8_text.specs.declared.errors.PlaylistError.{PlaylistError}
use Rattle.m3u8_text.specs.Answers.{ReadsAs}
use Rattle.m3u8_text.specs.Readers.{StandsFor, TakesLine, IsOneLine, IsAt, HasFault, StandsBy, StandsAt}
use Rattle.m3u8_text.specs.declared.pieces.Pieces.{Pieces}

-- one line more in front of the lines that follow
one_line_more : (line : List ℕ) (lines : List (List ℕ)) (before : List MediaLine)
    → reverse (map media_line (line ∷ lines)) ++ before ≡ reverse (map media_line lines) ++ (media_line line ∷ before)
one_line_more line lines before =
    ap (λ front. front ++ before) (reverse-append (media_line line ∷ []) (map media_line lines)) ∙ append_assoc (reverse (map media_line lines)) (media_line line ∷ []) before

one_line : (tail end : List ℕ) → IsOneLine tail → IsOneLine end → IsOneLine (tail ++ end)
one_line tail end first second = All-append (λ b. b ≢ 10) tail end first second

-- the lines of the bytes with one more line feed
pub lines_then : (bytes tail end : List ℕ) (reader : LineReader) (at : IsAt bytes tail reader) → IsOneLine end → (more : List ℕ)
    → media_lines_of ((bytes ++ (end ++ 10 ∷ [])) ++ more) ≡ reverse (map media_line (lines_of more)) ++ (media_line (strip_carriage_return (tail ++ end)) ∷ at.before)
lines_then bytes tail end reader at one more =
    let regrouped : (bytes ++ (end ++ 10 ∷ [])) ++ more ≡ bytes ++ (end ++ 10 ∷ more) =
    append_assoc bytes (end ++ 10 ∷ []) more ∙ ap (λ rest. bytes ++ rest) (append_assoc end (10 ∷ []) more) in
    let cut : lines_of (tail ++ (end ++ 10 ∷ more)) ≡ strip_carriage_return (tail ++ end) ∷ lines_of more =
    ap lines_of (sym (append_assoc tail end (10 ∷ more))) ∙ lines_of-fed (tail ++ end) more (one_line tail end at.one one) in
    ap media_lines_of regrouped ∙ at.lines (end ++ 10 ∷ more)
    ∙ ap (λ lines. reverse (map media_line lines) ++ at.before) cut
    ∙ one_line_more (strip_carriage_return (tail ++ end)) (lines_of more) at.before

sound_more : (before : List MediaLine) (line : MediaLine) → first_fault before ≡ None → fault_after before line ≡ None → first_fault (line ∷ before) ≡ None
sound_more before line sound fine = rw (sound, fine) refl

faulty_more : (before : List MediaLine) (line : MediaLine) (fault : PlaylistFault) → first_fault before ≡ None → fault_after before line ≡ Some fault
    → first_fault (line ∷ before) ≡ Some (at_line (suc (length before)) fault)
faulty_more before line fault sound is = rw (sound, is) refl

-- a first fault stays the first
fault_stays : (more before : List MediaLine) (found : LineFault) → first_fault before ≡ Some found → first_fault (more ++ before) ≡ Some found
fault_stays [] before found is = is
fault_stays (line ∷ more) before found is = rw (fault_stays more before found is) refl

has_fault : (before : List MediaLine) (found : LineFault) → first_fault before ≡ Some found → playlist_among before ≡ Err found
has_fault before found is = rw is refl

-- ---- a line that ends in the piece

pub line_taken : (bytes tail end : List ℕ) (old new : LineReader) (at : IsAt bytes tail old) → IsOneLine end
    → (fault_after at.before (media_line (strip_carriage_return (tail ++ end))) ≡ None) × StandsFor new (media_line (strip_carriage_return (tail ++ end)) ∷ at.before)
    → IsAt (bytes ++ (end ++ 10 ∷ [])) [] new
line_taken bytes tail end old new at one taken = record {
  before = media_line (strip_carriage_return (tail ++ end)) ∷ at.before;
  lines = lines_then bytes tail end old at one;
  sound = sound_more at.before (media_line (strip_carriage_return (tail ++ end))) at.sound taken.0;
  stands = taken.1;
  one = All-nil (λ b. b ≢ 10);
}

pub line_refused : (bytes tail end : List ℕ) (old : LineReader) (number : ℕ) (fault : PlaylistFault) (at : IsAt bytes tail old) → IsOneLine end
    → fault_after at.before (media_line (strip_carriage_return (tail ++ end))) ≡ Some fault → number ≡ old.lines + 1
    → HasFault (bytes ++ (end ++ 10 ∷ [])) (at_line number fault)
line_refused bytes tail end old number fault at one is counted more =
    let line : MediaLine = media_line (strip_carriage_return (tail ++ end)) in
    let here : suc (length at.before) ≡ number = omega (arith, counted, at.stands.lines) in
    let first : first_fault (line ∷ at.before) ≡ Some (at_line number fault) = faulty_more at.before line fault at.sound is ∙ ap (λ n. Some (at_line n fault)) here in
    ap playlist_among (lines_then bytes tail end old at one more)
    ∙ has_fault (reverse (map media_line (lines_of more)) ++ (line ∷ at.before)) (at_line number fault) (fault_stays (reverse (map media_line (lines_of more))) (line ∷ at.before) (at_line number fault) first)

-- ---- bytes without a line feed

pub tail_grows : (bytes tail rest : List ℕ) (reader : LineReader) → IsAt bytes tail reader → IsOneLine rest → IsAt (bytes ++ rest) (tail ++ rest) reader
tail_grows bytes tail rest reader at one = record {
  before = at.before;
  lines = λ more. ap media_lines_of (append_assoc bytes rest more) ∙ at.lines (rest ++ more) ∙ ap (λ text. reverse (map media_line (lines_of text)) ++ at.before) (sym (append_assoc tail rest more));
  sound = at.sound;
  stands = at.stands;
  one = one_line tail rest at.one one;
}

pub stays_faulty : (bytes rest : List ℕ) (found : LineFault) → HasFault bytes found → HasFault (bytes ++ rest) found
stays_faulty bytes rest found is more = ap playlist_of (append_assoc bytes rest more) ∙ is (rest ++ more)

-- ---- the end

pub whole_bytes : (bytes : List ℕ) (found : LineFault) → HasFault bytes found → playlist_of bytes ≡ Err found
whole_bytes bytes found is = ap playlist_of (sym (append-nil bytes)) ∙ is []

lines_at_end : (bytes tail : List ℕ) (reader : LineReader) (at : IsAt bytes tail reader) → media_lines_of bytes ≡ reverse (map media_line (lines_of tail)) ++ at.before
lines_at_end bytes tail reader at =
    ap media_lines_of (sym (append-nil bytes)) ∙ at.lines [] ∙ ap (λ text. reverse (map media_line (lines_of text)) ++ at.before) (append-nil tail)

pub ends_empty : (bytes : List ℕ) (reader : LineReader) (at : IsAt bytes [] reader) → playlist_of bytes ≡ playlist_among at.before
ends_empty bytes reader at = ap playlist_among (lines_at_end bytes [] reader at)

pub ends_within : (bytes tail : List ℕ) (reader : LineReader) (at : IsAt bytes tail reader) → 0 < length tail
    → playlist_of bytes ≡ playlist_among (media_line (strip_carriage_return tail) ∷ at.before)
ends_within bytes tail reader at some =
    ap playlist_among (lines_at_end bytes tail reader at ∙ ap (λ lines. reverse (map media_line lines) ++ at.before) (lines_of-last tail at.one some))

pub ends_sound : (bytes tail : List ℕ) (reader : LineReader) (at : IsAt bytes tail reader) → fault_after at.before (media_line (strip_carriage_return tail)) ≡ None
    → first_fault (media_line (strip_carriage_return tail) ∷ at.before) ≡ None
ends_sound bytes tail reader at fine = sound_more at.before (media_line (strip_carriage_return tail)) at.sound fine

pub ends_faulty : (bytes tail : List ℕ) (reader : LineReader) (number : ℕ) (fault : PlaylistFault) (at : IsAt bytes tail reader) → 0 < length tail
    → fault_after at.before (media_line (strip_carriage_return tail)) ≡ Some fault → number ≡ reader.lines + 1 → playlist_of bytes ≡ Err (at_line number fault)
ends_faulty bytes tail reader number fault at some is counted =
    let line : MediaLine = media_line (strip_carriage_return tail) in
    let here : suc (length at.before) ≡ number = omega (arith, counted, at.stands.lines) in
    ends_within bytes tail reader at some ∙ has_fault (line ∷ at.before) (at_line number fault) (faulty_more at.before line fault at.sound is ∙ ap (λ n. Some (at_line n fault)) here)

-- ---- one piece

-- the front of the piece was taken, and the rest is left
pub record IsTaking (old : Pieces) (piece : List ℕ) (new : Pieces) (rest : List ℕ) : Type 0 where
  pub front : List ℕ
  pub whole : piece ≡ front ++ rest
  pub stands : (bytes : List ℕ) → StandsAt old bytes → StandsAt new (bytes ++ front)
  pub room : new.reader.lines + vec_len new.tail + length rest ≤ old.reader.lines + vec_len old.tail + length piece

-- ---- a reader with or without a fault

without_fault : (fault : Option LineFault) (bytes tail : List ℕ) (reader : LineReader) → is_some fault ≡ false → StandsBy fault bytes tail reader → IsAt bytes tail reader
without_fault None bytes tail reader none stands = stands
without_fault (Some found) bytes tail reader none stands = absurd cc

with_no_fault : (fault : Option LineFault) (bytes tail : List ℕ) (reader : LineReader) → is_some fault ≡ false → IsAt bytes tail reader → StandsBy fault bytes tail reader
with_no_fault None bytes tail reader none at = at
with_no_fault (Some found) bytes tail reader none at = absurd cc

pub takes_line : (old new : Pieces) (end : List ℕ) → is_some old.fault ≡ false → new.fault ≡ old.fault → new.tail.items ≡ [] → IsOneLine end
    → ((before : List MediaLine) → StandsFor old.reader before → TakesLine (Ok tt) before new.reader (media_line (strip_carriage_return (old.tail.items ++ end))))
    → (bytes : List ℕ) → StandsAt old bytes → StandsAt new (bytes ++ (end ++ 10 ∷ []))
takes_line old new end none same empty one line bytes stands =
    let at = without_fault old.fault bytes old.tail.items old.reader none stands in
    let next = line_taken bytes old.tail.items end old.reader new.reader at one (line at.before at.stands) in
    with_no_fault new.fault (bytes ++ (end ++ 10 ∷ [])) new.tail.items new.reader (ap is_some same ∙ none) (rw empty next)

pub refuses_line : (old : Pieces) (end : List ℕ) (number : ℕ) (fault : PlaylistFault) → is_some old.fault ≡ false → IsOneLine end
    → ((before : List MediaLine) → StandsFor old.reader before → fault_after before (media_line (strip_carriage_return (old.tail.items ++ end))) ≡ Some fault)
    → number ≡ old.reader.lines + 1 → (bytes : List ℕ) → StandsAt old bytes → HasFault (bytes ++ (end ++ 10 ∷ [])) (at_line number fault)
refuses_line old end number fault none one line counted bytes stands =
    let at = without_fault old.fault bytes old.tail.items old.reader none stands in
    line_refused bytes old.tail.items end old.reader number fault at one (line at.before at.stands) counted

pub keeps_bytes : (fault : Option LineFault) (bytes tail rest : List ℕ) (reader : LineReader) → is_some fault ≡ true → StandsBy fault bytes tail reader → StandsBy fault (bytes ++ rest) tail reader
keeps_bytes None bytes tail rest reader some stands = absurd cc
keeps_bytes (Some found) bytes tail rest reader some stands = stays_faulty bytes rest found stands

pub more_bytes : (fault : Option LineFault) (bytes tail rest : List ℕ) (reader : LineReader) → is_some fault ≡ false → IsOneLine rest → StandsBy fault bytes tail reader → StandsBy fault (bytes ++ rest) (tail ++ rest) reader
more_bytes fault bytes tail rest reader none one stands =
    with_no_fault fault (bytes ++ rest) (tail ++ rest) reader none (tail_grows bytes tail rest reader (without_fault fault bytes tail reader none stands) one)

-- one line more of the piece
pub one_line_on : (old now next : Pieces) (piece rest end after : List ℕ) → IsTaking old piece now rest → rest ≡ end ++ 10 ∷ after
    → ((bytes : List ℕ) → StandsAt now bytes → StandsAt next (bytes ++ (end ++ 10 ∷ [])))
    → next.reader.lines + vec_len next.tail ≤ now.reader.lines + vec_len now.tail + length end + 1 → IsTaking old piece next after
one_line_on old now next piece rest end after taking cut stands room = record {
  front = taking.front ++ (end ++ 10 ∷ []);
  whole = taking.whole ∙ ap (λ rest. taking.front ++ rest) (cut ∙ sym (append_assoc end (10 ∷ []) after)) ∙ sym (append_assoc taking.front (end ++ 10 ∷ []) after);
  stands = λ bytes at. rw (sym (append_assoc bytes taking.front (end ++ 10 ∷ []))) (stands (bytes ++ taking.front) (taking.stands bytes at));
  room = omega (arith, room, taking.room, ap length cut, length-append end (10 ∷ after));
}

-- ---- what the end answers

pub reads_empty : (bytes tail : List ℕ) (reader : LineReader) (result : Result Playlist PlaylistError) → length tail ≡ 0 → IsAt bytes tail reader
    → ((before : List MediaLine) → StandsFor reader before → first_fault before ≡ None → ReadsAs result (playlist_among before)) → ReadsAs result (playlist_of bytes)
reads_empty bytes [] reader result none at reads = subst (ReadsAs result) (sym (ends_empty bytes reader at)) (reads at.before at.stands at.sound)
reads_empty bytes (b ∷ tail) reader result none at reads = absurd (omega arith)

pub reads_last : (bytes tail : List ℕ) (reader new : LineReader) (result : Result Playlist PlaylistError) → 0 < length tail → IsAt bytes tail reader
    → ((before : List MediaLine) → StandsFor reader before → TakesLine (Ok tt) before new (media_line (strip_carriage_return tail)))
    → ((before : List MediaLine) → StandsFor new before → first_fault before ≡ None → ReadsAs result (playlist_among before)) → ReadsAs result (playlist_of bytes)
reads_last bytes tail reader new result some at line reads =
    let taken = line at.before at.stands in
    subst (ReadsAs result) (sym (ends_within bytes tail reader at some)) (reads (media_line (strip_carriage_return tail) ∷ at.before) taken.1 (ends_sound bytes tail reader at taken.0))

pub reads_fault : (bytes tail : List ℕ) (fault : Option LineFault) (reader : LineReader) (found : LineFault) → fault ≡ Some found → StandsBy fault bytes tail reader → playlist_of bytes ≡ Err found
reads_fault bytes tail None reader found is stands = absurd cc
reads_fault bytes tail (Some kept) reader found is stands = let same : kept ≡ found = cc in whole_bytes bytes kept stands ∙ ap Err same
