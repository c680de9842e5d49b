-- Lines that are written one after another.
use Rattle.std.proofs.Common.{◌≡◌, ◌∙◌, sym, ap, ℕ, ◌+◌, ◌<◌, List, [], ◌∷◌, ◌++◌, length, get_or, take, codes, append_assoc, append-nil}
use Rattle.std.specs.List.{flat_map}
use Rattle.std.proofs.lemmas.Grind.{flat_map-append}
use Rattle.std.proofs.lemmas.List.{take_more}
use Rattle.playlist_terms.specs.Lines.{fed}
use Rattle.playlist_terms.specs.Playlists.{PlaylistSegment, Playlist, segment_lines, head_lines, playlist_text}

pub five_lines : (out a b c d e : List ℕ) → ((((out ++ fed a) ++ fed b) ++ fed c) ++ fed d) ++ fed e ≡ out ++ flat_map fed (a ∷ b ∷ c ∷ d ∷ e ∷ [])
five_lines out a b c d e =
    append_assoc (((out ++ fed a) ++ fed b) ++ fed c) (fed d) (fed e)
    ∙ append_assoc ((out ++ fed a) ++ fed b) (fed c) (fed d ++ fed e)
    ∙ append_assoc (out ++ fed a) (fed b) (fed c ++ (fed d ++ fed e))
    ∙ append_assoc out (fed a) (fed b ++ (fed c ++ (fed d ++ fed e)))
    ∙ ap (λ last. out ++ (fed a ++ (fed b ++ (fed c ++ (fed d ++ last))))) (sym (append-nil (fed e)))

-- the lines of one segment more
pub more_lines : (ss : List PlaylistSegment) (i : ℕ) (s : PlaylistSegment) → i < length ss
    → flat_map fed (flat_map segment_lines (take (i + 1) ss)) ≡ flat_map fed (flat_map segment_lines (take i ss)) ++ flat_map fed (segment_lines (get_or ss i s))
more_lines ss i s inside =
    ap (λ front. flat_map fed (flat_map segment_lines front)) (take_more ss i s inside)
    ∙ ap (flat_map fed) (flat_map-append segment_lines (take i ss) (get_or ss i s ∷ []) ∙ ap (λ last. flat_map segment_lines (take i ss) ++ last) (append-nil (segment_lines (get_or ss i s))))
    ∙ flat_map-append fed (flat_map segment_lines (take i ss)) (segment_lines (get_or ss i s))

-- the text out of its three parts
pub whole_text : (p : Playlist) → (flat_map fed (head_lines p) ++ flat_map fed (flat_map segment_lines p.segments)) ++ fed (codes "#EXT-X-ENDLIST") ≡ playlist_text p
whole_text p =
    let lines : List (List ℕ) = flat_map segment_lines p.segments in
    let end : List ℕ = codes "#EXT-X-ENDLIST" in
    append_assoc (flat_map fed (head_lines p)) (flat_map fed lines) (fed end)
    ∙ ap (λ rest. flat_map fed (head_lines p) ++ (flat_map fed lines ++ rest)) (sym (append-nil (fed end)))
    ∙ ap (λ rest. flat_map fed (head_lines p) ++ rest) (sym (flat_map-append fed lines (end ∷ [])))
    ∙ sym (flat_map-append fed (head_lines p) (lines ++ end ∷ []))
