-- The target that is raised along the segments.
use Rattle.std.proofs.Common.{◌≡◌, ◌∙◌, sym, ap, ap₂, ℕ, ◌+◌, ◌<◌, max, List, length, map, take, get_or, arith}
use Rattle.std.specs.List.{fold}
use Rattle.std.proofs.lemmas.List.{take-map, length-map, get_or-map}
use Rattle.std.proofs.lemmas.List.Sums.{fold_more}
use Rattle.playlist_terms.specs.Playlists.{PlaylistSegment}
use Rattle.packaging_terms.specs.Licensees.{whole_seconds}

-- the greatest number of whole seconds so far
abbrev pub raised_by : ℕ → List PlaylistSegment → ℕ
raised_by target segments = fold max target (map (λ s. whole_seconds s.micros) segments)

pub raised_more : (target : ℕ) (segments : List PlaylistSegment) (i : ℕ) (s : PlaylistSegment) → i < length segments
    → raised_by target (take (i + 1) segments) ≡ max (raised_by target (take i segments)) (whole_seconds (get_or segments i s).micros)
raised_more target segments i s lt =
    let seconds : PlaylistSegment → ℕ = λ s. whole_seconds s.micros in
    let long : length (map seconds segments) ≡ length segments = length-map segments seconds in
    ap (fold max target) (sym (take-map seconds (i + 1) segments))
    ∙ fold_more max target (map seconds segments) i 0 (omega (arith, lt, long))
    ∙ ap₂ max (ap (fold max target) (take-map seconds i segments)) (get_or-map seconds segments i s 0 lt)
