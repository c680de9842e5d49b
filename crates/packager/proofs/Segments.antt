-- The segments of a marked list, one after the other.
use Rattle.std.proofs.Common.{◌≡◌, ◌∙◌, sym, ap, ap₂, ℕ, ◌+◌, ◌<◌, max, List, [], ◌∷◌, ◌++◌, length, map, take, get_or, Option, arith}
use Rattle.std.specs.List.{enumerate_from}
use Rattle.std.proofs.lemmas.List.{take_more, take_all, length-map, get_or-map}
use Rattle.std.proofs.lemmas.List.FromFn.{length-enumerate_from, get_or-enumerate_from}
use Rattle.playlist_terms.specs.Playlists.{PlaylistSegment, Playlist}
use Rattle.title_terms.specs.Titles.{Title}
use Rattle.packaging_terms.specs.Licensees.{place_of, raised_target}
use Rattle.packager.specs.Marking.{marked_segment, marked_at, marked_list}

abbrev pub marked_segments : Title → List (Option ℕ) → List PlaylistSegment
marked_segments t word = map (marked_at t word) (enumerate_from 0 t.list.segments)

-- the marked list with so many segments
abbrev pub list_to : Title → List (Option ℕ) → ℕ → Playlist
list_to t word i = record {
  version = max 3 t.list.version;
  target = raised_target t.list;
  sequence = t.list.sequence;
  segments = take i (marked_segments t word);
}

long : (t : Title) (word : List (Option ℕ)) → length (marked_segments t word) ≡ length t.list.segments
long t word = length-map (enumerate_from 0 t.list.segments) (marked_at t word) ∙ length-enumerate_from 0 t.list.segments

at : (t : Title) (word : List (Option ℕ)) (i : ℕ) (s : PlaylistSegment) → i < length t.list.segments
    → get_or (marked_segments t word) i s ≡ marked_at t word (i, get_or t.list.segments i s)
at t word i s lt =
    let items = enumerate_from 0 t.list.segments in
    let count : length items ≡ length t.list.segments = length-enumerate_from 0 t.list.segments in
    let same : 0 + i ≡ i = omega arith in
    get_or-map (marked_at t word) items i (i, s) s (omega (arith, lt, count))
    ∙ ap (marked_at t word) (get_or-enumerate_from 0 t.list.segments i (i, s) lt)
    ∙ ap (λ (n : ℕ). marked_at t word (n, get_or t.list.segments i s)) same

-- one segment more
pub segment_more : (t : Title) (word : List (Option ℕ)) (i : ℕ) (s : PlaylistSegment) (place : Option ℕ) → i < length t.list.segments
    → s ≡ get_or t.list.segments i s → place ≡ place_of t.design i
    → take (i + 1) (marked_segments t word) ≡ take i (marked_segments t word) ++ marked_segment t word s place ∷ []
segment_more t word i s place lt is found =
    let here : get_or (marked_segments t word) i s ≡ marked_segment t word s place =
    at t word i s lt ∙ ap₂ (marked_segment t word) (sym is) (sym found) in
    take_more (marked_segments t word) i s (omega (arith, lt, long t word)) ∙ ap (λ (x : PlaylistSegment). take i (marked_segments t word) ++ x ∷ []) here

-- all segments
pub segments_all : (t : Title) (word : List (Option ℕ)) → list_to t word (length t.list.segments) ≡ marked_list t word
unfolding marked_list
segments_all t word =
    let whole = take_all (length t.list.segments) (marked_segments t word) (omega (arith, long t word)) in
    ap (λ (segments : List PlaylistSegment). record { version = max 3 t.list.version; target = raised_target t.list; sequence = t.list.sequence; segments = segments }) whole

-- one segment more behind the list so far
pub list_more : (t : Title) (word : List (Option ℕ)) (i : ℕ) (old new : Playlist) (s segment : PlaylistSegment) (place : Option ℕ) → i < length t.list.segments
    → s ≡ get_or t.list.segments i s → place ≡ place_of t.design i → segment ≡ marked_segment t word s place
    → old ≡ list_to t word i → new ≡ record old { segments = old.segments ++ segment ∷ [] } → new ≡ list_to t word (i + 1)
list_more t word i old new s segment place lt is found marked so_far pushed =
    let more : list_to t word (i + 1) ≡ record (list_to t word i) { segments = take i (marked_segments t word) ++ marked_segment t word s place ∷ [] } =
    ap (λ (segments : List PlaylistSegment). record (list_to t word i) { segments = segments }) (segment_more t word i s place lt is found) in
    pushed
    ∙ ap₂ (λ (l : Playlist) (x : PlaylistSegment). record l { segments = l.segments ++ x ∷ [] }) so_far marked
    ∙ sym more

-- a list with all segments
pub list_all : (t : Title) (word : List (Option ℕ)) (i : ℕ) (list : Playlist) → i ≡ length t.list.segments → list ≡ list_to t word i → list ≡ marked_list t word
list_all t word i list all is = is ∙ ap (list_to t word) all ∙ segments_all t word
