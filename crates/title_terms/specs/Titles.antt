-- What a title is: a design, a media list, and a digest for each place and symbol. This project's own.
use Rattle.std.specs.Prelude.{◌≡◌, ◌≢◌, ℕ, ◌+◌, ◌*◌, ◌<◌, nat_lt, if◌then◌else◌, List, length, slice_get, Option, None, All}
use Rattle.std.specs.List.{AllPairs}
use Rattle.hex.specs.Hex.{IsBytes}
use Rattle.playlist_terms.specs.Playlists.{Playlist, IsPlaylist}
use Rattle.title_terms.specs.Designs.{Design, IsDesign, places, symbols}

-- 32 bytes
pub record IsDigest (digest : List ℕ) : Type 0 where
  pub long : length digest ≡ 32
  pub bytes : IsBytes digest

pub record Title : Type 0 where
  pub design : Design
  pub list : Playlist
  -- place by place, and at each place symbol by symbol
  pub digests : List (List ℕ)

-- where the digest of a variant stands in the list
abbrev pub cell_of : Design → ℕ → ℕ → ℕ
cell_of d place symbol = place * symbols d + symbol

-- the digest of a variant, where there is such a variant
abbrev pub digest_at : Title → ℕ → ℕ → Option (List ℕ)
digest_at t place symbol = if nat_lt symbol (symbols t.design) then slice_get t.digests (cell_of t.design place symbol) else None

pub record IsTitle (t : Title) : Type 0 where
  pub design : IsDesign t.design
  pub list : IsPlaylist t.list
  pub marked : All (λ segment. segment < length t.list.segments) t.design.marked
  pub full : length t.digests ≡ places t.design * symbols t.design
  pub digests : All IsDigest t.digests
  pub distinct : AllPairs (λ x y. x ≢ y) t.digests
