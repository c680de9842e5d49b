-- The small title for the worked examples: who gets what of it. Twenty licensees have the messages 0 to 19.
use Rattle.std.specs.Prelude.{ℕ, true, false, List, [], ◌∷◌, codes}
use Rattle.register_terms.specs.Enrolment.{Licensee, Enrolment}
use Rattle.playlist_terms.specs.Playlists.{Playlist}
use Rattle.playlist_terms.specs.Pair.{segment, playlist}

abbrev pub licensee : List ℕ → Licensee
licensee name = record { name = name; active = true }

abbrev pub twenty : Enrolment
twenty = record {
  bits = 4;
  dimension = 2;
  multiplier = 1;
  shift = 0;
  licensees = licensee (codes "lic0") ∷ licensee (codes "lic1") ∷ licensee (codes "lic2") ∷ licensee (codes "lic3") ∷ licensee (codes "lic4")
      ∷ licensee (codes "lic5") ∷ licensee (codes "lic6") ∷ licensee (codes "lic7") ∷ licensee (codes "lic8") ∷ licensee (codes "lic9")
      ∷ licensee (codes "lic10") ∷ licensee (codes "lic11") ∷ licensee (codes "lic12") ∷ licensee (codes "lic13") ∷ licensee (codes "lic14")
      ∷ licensee (codes "lic15") ∷ licensee (codes "lic16") ∷ licensee (codes "lic17") ∷ licensee (codes "lic18") ∷ licensee (codes "lic19") ∷ [];
}

-- the list with these URIs
abbrev pub list_of : (first last : List ℕ) → Playlist
list_of first last = playlist (segment 6000000 first false ∷ segment 6000000 (codes "s1.ts") false ∷ segment 4500000 last false ∷ [])
