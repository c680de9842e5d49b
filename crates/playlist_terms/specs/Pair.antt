-- A small playlist for the worked examples: three segments of 6, 6 and 4.5 seconds.
use Rattle.std.specs.Prelude.{ℕ, Bool, false, List, [], ◌∷◌, ◌++◌, take, codes, Result}
use Rattle.std.specs.List.{flat_map}
use Rattle.playlist_terms.specs.Lines.{lines_of, fed}
use Rattle.playlist_terms.specs.Playlists.{PlaylistSegment, Playlist}
use Rattle.playlist_terms.specs.Reading.{playlist_of}
use Rattle.playlist_terms.specs.declared.fault.LineFault.{LineFault}

abbrev pub segment : ℕ → List ℕ → Bool → PlaylistSegment
segment micros uri cut = record { micros = micros; uri = uri; cut = cut }

abbrev pub playlist : List PlaylistSegment → Playlist
playlist segments = record { version = 3; target = 6; sequence = 0; segments = segments }

-- the three segments, the second of this duration, and the third after a discontinuity or not
abbrev pub pair_with : ℕ → Bool → Playlist
pair_with second cut =
    playlist (segment 6000000 (codes "s0.ts") false ∷ segment second (codes "s1.ts") false ∷ segment 4500000 (codes "s2.ts") cut ∷ [])

abbrev pub pair : Playlist
pair = pair_with 6000000 false

-- its text, with this value of the second duration and these lines in front of the third
abbrev pub pair_text : List ℕ → List ℕ → List ℕ
pair_text second third =
    codes "#EXTM3U\n#EXT-X-VERSION:3\n#EXT-X-TARGETDURATION:6\n#EXT-X-MEDIA-SEQUENCE:0\n#EXT-X-PLAYLIST-TYPE:VOD\n#EXTINF:6.000000,\ns0.ts\n#EXTINF:" ++ (second ++ (codes "\ns1.ts\n" ++ (third ++ codes "#EXTINF:4.500000,\ns2.ts\n#EXT-X-ENDLIST\n")))

-- what the first so many of its lines are read as
abbrev pub first_lines_read : ℕ → Result Playlist LineFault
first_lines_read n = playlist_of (flat_map fed (take n (lines_of (pair_text (codes "6.000000,") []))))
