-- The design and the media list of every sample.
use Rattle.std.proofs.Common.{◌≡◌, ◌∙◌, sym, ap, subst, refl, ℕ, ◌+◌, ◌<◌, List, [], ◌∷◌, ◌++◌, map, codes, Result, Ok, Err, true, arith}
use Rattle.std.specs.Fmt.{decimal, digits}
use Rattle.std.specs.List.{list_all, range_with_len}
use Rattle.std.proofs.lemmas.List.FromFn.{length-range_with_len, get_or-range_with_len, map-range_with_len_more}
use Rattle.std.proofs.lemmas.List.Sums.{AllPass-from_list_all}
use Rattle.playlist_terms.specs.Playlists.{PlaylistSegment, Playlist, is_segment_uri}
use Rattle.title_terms.specs.declared.fault.DesignFault.{DesignFault}
use Rattle.title_terms.specs.Designs.{Design, IsDesign}
use Rattle.title_terms.specs.DesignRules.{design_from}
use Rattle.title_terms.proofs.DesignValues.{accepted}
use Rattle.designs.specs.Answers.{of_numbers}
use Rattle.sample_terms.specs.Inputs.{design, list, segment}

pub designed : design_from (of_numbers (codes "sample") 8 3 3 (codes "v/") (codes ".ts") (range_with_len 0 64)) ≡ Ok design
unfolding design_from design
designed = refl

pub design_valid : IsDesign design
design_valid = (accepted (of_numbers (codes "sample") 8 3 3 (codes "v/") (codes ".ts") (range_with_len 0 64)) design designed).valid

-- ---- the list

-- with so many segments
unfoldable pub list_to : ℕ → Playlist
list_to count = record { version = 3; target = 6; sequence = 0; segments = map segment (range_with_len 0 count) }

pub list_begun : (l : Playlist) → l ≡ record { version = 3; target = 6; sequence = 0; segments = [] } → l ≡ list_to 0
unfolding list_to
list_begun l is = is

pub list_more : (n : ℕ) (old new : Playlist) (s : PlaylistSegment) → old ≡ list_to n → s ≡ segment n → new ≡ record old { segments = old.segments ++ s ∷ [] } → new ≡ list_to (n + 1)
unfolding list_to
list_more n old new s before last is =
    is ∙ ap (λ (l : Playlist). record l { segments = l.segments ++ s ∷ [] }) before
    ∙ ap (λ (s : PlaylistSegment). record (list_to n) { segments = map segment (range_with_len 0 n) ++ s ∷ [] }) last
    ∙ ap (λ (segments : List PlaylistSegment). record (list_to n) { segments = segments }) (sym (map-range_with_len_more segment 0 n n (omega arith)))

pub list_whole : list_to 64 ≡ list
unfolding list list_to
list_whole = refl

abbrev uri_of : ℕ → List ℕ
uri_of i = codes "s" ++ (decimal i ++ codes ".ts")

all_uris : list_all (λ i. is_segment_uri (uri_of i)) (range_with_len 0 64) ≡ true
unfolding digits
all_uris = refl

pub segment_uri : (i : ℕ) → i < 64 → is_segment_uri (uri_of i) ≡ true
segment_uri i low =
    let all = AllPass-from_list_all (λ i. is_segment_uri (uri_of i)) (range_with_len 0 64) all_uris in
    let same : 0 + i ≡ i = omega arith in
    subst (λ (k : ℕ). is_segment_uri (uri_of k) ≡ true) (get_or-range_with_len 0 64 i 0 low ∙ same) (all i 0 (omega (arith, low, length-range_with_len 0 64)))

same_design : (x y : Design) → (let r : Result Design DesignFault = Ok x in r) ≡ Ok y → x ≡ y
same_design x y is = cc

abbrev pub of_marks : List ℕ → Result Design DesignFault
of_marks marks = design_from (of_numbers (codes "sample") 8 3 3 (codes "v/") (codes ".ts") marks)

pub design_made : (marks : List ℕ) (d : Design) → marks ≡ range_with_len 0 64 → of_marks marks ≡ Ok d → d ≡ design
design_made marks d are is = same_design d design (sym is ∙ ap of_marks are ∙ designed)

pub none_refused : (marks : List ℕ) (fault : DesignFault) → marks ≡ range_with_len 0 64 → of_marks marks ≡ Err fault → ⊥
none_refused marks fault are is =
    let made : of_marks marks ≡ Ok design = ap of_marks are ∙ designed in
    cc
