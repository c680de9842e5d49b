-- What a done `title` and a done `package` say, from the bytes read to the text written. This project's own.
use Rattle.std.specs.Prelude.{◌≡◌, ◌≢◌, ℕ, List, true, Some, Ok}
use Rattle.shelf_terms.specs.declared.limit.TheConstants.{BLOB_LIMIT}
use Rattle.shelf_terms.specs.Blobs.{Blobs, blob_at}
use Rattle.register_terms.specs.Enrolment.{Enrolment, names_of, serial_of}
use Rattle.register_terms.specs.Rules.{is_active}
use Rattle.playlist_terms.specs.Playlists.{Playlist}
use Rattle.playlist_terms.specs.Reading.{playlist_of}
use Rattle.title_terms.specs.Designs.{Design}
use Rattle.title_terms.specs.DesignText.{design_of}
use Rattle.title_terms.specs.Titles.{Title, IsTitle}
use Rattle.title_terms.specs.TitleText.{title_of, title_text}
use Rattle.packaging_terms.specs.Licensees.{fits, licensed_list, licensed_text}
use Rattle.packaging_terms.specs.Making.{made}
use Rattle.outcome_terms.specs.Reports.{HoldsRegister}

-- the blob of this name is a document of this design
pub record HoldsDesign (blobs : Blobs) (name : List ℕ) (d : Design) : Type 0 where
  pub bytes : List ℕ
  pub held : blob_at blobs name ≡ Some bytes
  pub read : design_of bytes ≡ Ok d

-- the blob of this name is a text of this media playlist
pub record HoldsPlaylist (blobs : Blobs) (name : List ℕ) (p : Playlist) : Type 0 where
  pub bytes : List ℕ
  pub held : blob_at blobs name ≡ Some bytes
  pub read : playlist_of bytes ≡ Ok p

-- the blob of this name is the text of this title
pub record HoldsTitle (blobs : Blobs) (name : List ℕ) (t : Title) : Type 0 where
  pub bytes : List ℕ
  pub held : blob_at blobs name ≡ Some bytes
  pub read : title_of bytes ≡ Ok t

-- the text is that of the title with the design and the list that two blobs hold, and the digests of the variants that are held
pub record IsMadeTitle (blobs : Blobs) (design source out text : List ℕ) : Type 0 where
  pub d : Design
  pub p : Playlist
  pub t : Title
  pub holds_design : HoldsDesign blobs design d
  pub holds_playlist : HoldsPlaylist blobs source p
  pub not_design : out ≢ design
  pub not_source : out ≢ source
  pub is_made : made BLOB_LIMIT blobs d p ≡ Ok t
  pub valid : IsTitle t
  pub is_text : text ≡ title_text t
  -- and so it is read again
  pub read_again : title_of text ≡ Ok t

-- the text is what the licensee of the name gets of the title, who holds the licence still
pub record IsMadePlaylist (blobs : Blobs) (title register name out text : List ℕ) : Type 0 where
  pub t : Title
  pub e : Enrolment
  pub serial : ℕ
  pub holds_title : HoldsTitle blobs title t
  pub holds_register : HoldsRegister blobs register e
  pub not_title : out ≢ title
  pub not_register : out ≢ register
  pub same_code : fits t e ≡ true
  pub enrolled : serial_of (names_of e.licensees) name ≡ Some serial
  pub active : is_active e serial ≡ true
  pub is_text : text ≡ licensed_text t e serial
  -- and so it is read as the list that the licensee gets
  pub read_again : playlist_of text ≡ Ok (licensed_list t e serial)
