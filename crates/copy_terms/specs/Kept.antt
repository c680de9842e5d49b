-- Blobs that keep a title, and copies that are put together from what some licensees get. This project's own.
use Rattle.std.specs.Prelude.{◌≡◌, ◌≢◌, ℕ, ◌<◌, List, slice_get, Option, Some, None, Contains}
use Rattle.sha2.specs.Sha256.{sha256}
use Rattle.shelf_terms.specs.Blobs.{Blobs, blob_at}
use Rattle.register_terms.specs.Enrolment.{Enrolment}
use Rattle.playlist_terms.specs.Playlists.{PlaylistSegment}
use Rattle.title_terms.specs.Designs.{places, symbols, variant_name}
use Rattle.title_terms.specs.Titles.{Title, digest_at}
use Rattle.packaging_terms.specs.Licensees.{place_of, licensed_list}

-- the blob of this name has this digest
pub record HasDigest (blobs : Blobs) (name : List ℕ) (digest : Option (List ℕ)) : Type 0 where
  pub bytes : List ℕ
  pub held : blob_at blobs name ≡ Some bytes
  pub is : digest ≡ Some (sha256 bytes)

-- each variant is held with the title's digest, and no unmarked segment that is held is like a variant
pub record IsKept (blobs : Blobs) (t : Title) : Type 0 where
  pub variants : (place symbol : ℕ) → place < places t.design → symbol < symbols t.design → HasDigest blobs (variant_name t.design place symbol) (digest_at t place symbol)
  pub others : (i place symbol : ℕ) (s : PlaylistSegment) (bytes : List ℕ) → slice_get t.list.segments i ≡ Some s → place_of t.design i ≡ None → blob_at blobs s.uri ≡ Some bytes
      → digest_at t place symbol ≢ Some (sha256 bytes)

-- some of these licensees gets a segment of this name
pub record IsLicensedTo (t : Title) (e : Enrolment) (members : List ℕ) (name : List ℕ) : Type 0 where
  pub member : ℕ
  pub one_of_them : Contains members member
  pub i : ℕ
  pub segment : PlaylistSegment
  pub stands : slice_get (licensed_list t e member).segments i ≡ Some segment
  pub named : segment.uri ≡ name

-- a name of a copy that these licensees put together: one of them gets it, and it is held
pub record IsFrom (blobs : Blobs) (t : Title) (e : Enrolment) (members : List ℕ) (name : List ℕ) : Type 0 where
  pub licensed : IsLicensedTo t e members name
  pub bytes : List ℕ
  pub held : blob_at blobs name ≡ Some bytes
