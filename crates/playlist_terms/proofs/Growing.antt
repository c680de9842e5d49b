-- The lines that a playlist's text says make that playlist again: one segment more after another.
use Rattle.std.proofs.Common.{◌≡◌, ◌∙◌, sym, ap, ℕ, ◌+◌, ◌<◌, ◌≤◌, Bool, true, false, not, nat_le, List, [], ◌∷◌, ◌++◌, length, length-append, append_assoc, append-nil, reverse, Some, None, Ok, refl, arith}
use Rattle.std.specs.List.{flat_map, list_any}
use Rattle.text_terms.specs.Names.{is_name}
use Rattle.std.proofs.lemmas.List.{reverse-append}
use Rattle.std.proofs.lemmas.Bool.Decides.{nat_tests}
use Rattle.playlist_terms.specs.MediaLines.{MediaLine, Uri, Start, Version, Target, Sequence, Duration, Kind, End, Cut}
use Rattle.playlist_terms.specs.Playlists.{PlaylistSegment, Playlist}
use Rattle.playlist_terms.specs.Faults.{is_target, is_end, version_said, target_said, sequence_said, last_said, pending, is_after_cut, segments, later_fault, fault_after}
use Rattle.playlist_terms.specs.Reading.{first_fault, listed, playlist_among}

-- ---- what the lines of a text say

abbrev pub cut_said : Bool → List MediaLine
cut_said true = Cut ∷ []
cut_said false = []

abbrev pub segment_said : PlaylistSegment → List MediaLine
segment_said s = cut_said s.cut ++ (Duration (Some s.micros) ∷ Uri s.uri ∷ [])

abbrev pub head_said : Playlist → List MediaLine
head_said p = Start ∷ Version (Some p.version) ∷ Target (Some p.target) ∷ Sequence (Some p.sequence) ∷ Kind true ∷ []

abbrev pub playlist_said : Playlist → List MediaLine
playlist_said p = head_said p ++ (flat_map segment_said p.segments ++ End ∷ [])

-- lines one after another onto those in front of them
abbrev pub onto : List MediaLine → List MediaLine → List MediaLine
onto before [] = before
onto before (line ∷ lines) = onto (line ∷ before) lines

onto-append : (before more most : List MediaLine) → onto before (more ++ most) ≡ onto (onto before more) most
onto-append before [] most = refl
onto-append before (line ∷ more) most = onto-append (line ∷ before) more most

reverse-onto : (before lines : List MediaLine) → reverse lines ++ before ≡ onto before lines
reverse-onto before [] = refl
reverse-onto before (line ∷ lines) =
    ap (λ front. front ++ before) (reverse-append (line ∷ []) lines) ∙ append_assoc (reverse lines) (line ∷ []) before ∙ reverse-onto (line ∷ before) lines

reverse_is : (lines : List MediaLine) → reverse lines ≡ onto [] lines
reverse_is lines = sym (append-nil (reverse lines)) ∙ reverse-onto [] lines

-- ---- between two segments

record IsBetween (before : List MediaLine) : Type 0 where
  some : 0 < length before
  sound : first_fault before ≡ None
  idle : pending before ≡ None
  uncut : is_after_cut before ≡ false

-- what more segments change
record Grows (before after : List MediaLine) (more : List PlaylistSegment) : Type 0 where
  between : IsBetween after
  segments : segments after ≡ segments before ++ more
  version : last_said version_said after ≡ last_said version_said before
  target : last_said target_said after ≡ last_said target_said before
  sequence : last_said sequence_said after ≡ last_said sequence_said before
  has_target : list_any is_target after ≡ list_any is_target before
  has_end : list_any is_end after ≡ list_any is_end before

later : (before : List MediaLine) (line : MediaLine) → 0 < length before → fault_after before line ≡ later_fault before line
later [] line some = absurd (omega arith)
later (last ∷ before) line some = refl

one_more : (before : List MediaLine) (line : MediaLine) → 0 < length before → first_fault before ≡ None → later_fault before line ≡ None → first_fault (line ∷ before) ≡ None
one_more before line some sound fine = rw (sound, later before line some, fine) refl

has_room : (n : ℕ) → n < 100000 → not (nat_le 100000 n) ≡ true
has_room n room = grind (arith, nat_tests)

-- a duration and a URI
timed : (before : List MediaLine) (micros : ℕ) (uri : List ℕ) (cut : Bool) → 0 < length before → first_fault before ≡ None → pending before ≡ None → is_after_cut before ≡ cut
    → is_name uri ≡ true → length (segments before) < 100000 → Grows before (Uri uri ∷ Duration (Some micros) ∷ before) (record { micros = micros; uri = uri; cut = cut } ∷ [])
timed before micros uri cut some sound idle cuts named room =
    let first : first_fault (Duration (Some micros) ∷ before) ≡ None = one_more before (Duration (Some micros)) some sound (rw idle refl) in
    let second : first_fault (Uri uri ∷ Duration (Some micros) ∷ before) ≡ None =
    one_more (Duration (Some micros) ∷ before) (Uri uri) (omega arith) first (rw (named, has_room (length (segments before)) room) refl) in
    record {
      between = record { some = omega arith; sound = second; idle = refl; uncut = refl };
      segments = rw cuts refl;
      version = refl;
      target = refl;
      sequence = refl;
      has_target = refl;
      has_end = refl;
    }

-- a segment
by_cut : (before : List MediaLine) (micros : ℕ) (uri : List ℕ) (cut : Bool) → IsBetween before → is_name uri ≡ true → length (segments before) < 100000
    → Grows before (onto before (segment_said (record { micros = micros; uri = uri; cut = cut }))) (record { micros = micros; uri = uri; cut = cut } ∷ [])
by_cut before micros uri false at named room = timed before micros uri false at.some at.sound at.idle at.uncut named room
by_cut before micros uri true at named room =
    let g = timed (Cut ∷ before) micros uri true (omega arith) (one_more before Cut at.some at.sound refl) at.idle refl named room in
    record { between = g.between; segments = g.segments; version = g.version; target = g.target; sequence = g.sequence; has_target = g.has_target; has_end = g.has_end }

abbrev pub AreNamed : List PlaylistSegment → Type 0
AreNamed [] = Unit {0}
AreNamed (s ∷ more) = (is_name s.uri ≡ true) × AreNamed more

all_segments : (before : List MediaLine) (more : List PlaylistSegment) → IsBetween before → AreNamed more → length (segments before) + length more ≤ 100000
    → Grows before (onto before (flat_map segment_said more)) more
all_segments before [] at named room =
    record { between = at; segments = sym (append-nil (segments before)); version = refl; target = refl; sequence = refl; has_target = refl; has_end = refl }
all_segments before (s ∷ more) at named room =
    let g = by_cut before s.micros s.uri s.cut at named.0 (omega (arith, room)) in
    let next : List MediaLine = onto before (segment_said s) in
    let length_next : length (segments next) ≡ length (segments before) + 1 = ap length g.segments ∙ length-append (segments before) (s ∷ []) in
    let h = all_segments next more g.between named.1 (omega (arith, room, length_next)) in
    let joined : onto before (flat_map segment_said (s ∷ more)) ≡ onto next (flat_map segment_said more) = onto-append before (segment_said s) (flat_map segment_said more) in
    rw joined (record {
      between = h.between;
      segments = h.segments ∙ ap (λ front. front ++ more) g.segments ∙ append_assoc (segments before) (s ∷ []) more;
      version = h.version ∙ g.version;
      target = h.target ∙ g.target;
      sequence = h.sequence ∙ g.sequence;
      has_target = h.has_target ∙ g.has_target;
      has_end = h.has_end ∙ g.has_end;
    })

ends : (before : List MediaLine) → IsBetween before → list_any is_target before ≡ true → list_any is_end before ≡ false → playlist_among (End ∷ before) ≡ Ok (listed before)
ends before at has_target no_end = rw (one_more before End at.some at.sound (rw no_end refl), at.idle, has_target) refl

-- the whole
pub lines_make : (p : Playlist) → AreNamed p.segments → length p.segments ≤ 100000 → playlist_among (reverse (playlist_said p)) ≡ Ok p
lines_make p named room =
    let head : List MediaLine = onto [] (head_said p) in
    let at : IsBetween head = record { some = omega arith; sound = refl; idle = refl; uncut = refl } in
    let g = all_segments head p.segments at named (omega (arith, room)) in
    let last : List MediaLine = onto head (flat_map segment_said p.segments) in
    let whole : reverse (playlist_said p) ≡ End ∷ last =
    reverse_is (playlist_said p) ∙ onto-append [] (head_said p) (flat_map segment_said p.segments ++ End ∷ []) ∙ onto-append head (flat_map segment_said p.segments) (End ∷ []) in
    let made : listed last ≡ p = rw (g.version, g.target, g.sequence, g.segments) refl in
    ap playlist_among whole ∙ ends last g.between g.has_target g.has_end ∙ ap Ok made
