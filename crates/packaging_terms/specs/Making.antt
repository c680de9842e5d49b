-- What is made of a design, a media playlist and the variants that a map of blobs holds: a title, or the first variant in order
-- that stands in the way. Each variant is looked at by itself, beside the earlier ones. This project's own.
use Rattle.std.specs.Prelude.{◌≡◌, ℕ, true, nat_le, slice_get, if◌then◌else◌, List, [], ◌∷◌, length, map, Option, Some, None, Result, Ok, Err}
use Rattle.std.specs.List.{find, range_with_len}
use Rattle.std.specs.Option.{option_map, unwrap_or}
use Rattle.std.specs.Str.{bytes_eq}
use Rattle.sha2.specs.Sha256.{sha256}
use Rattle.shelf_terms.specs.Blobs.{Blobs, blob_at}
use Rattle.playlist_terms.specs.Playlists.{Playlist}
use Rattle.title_terms.specs.Designs.{Design}
use Rattle.title_terms.specs.Titles.{Title}
use Rattle.packaging_terms.specs.Variants.{variants, blob_of, unmarkable}

-- why no title is made
pub data Hindrance : Type 0 where
  -- no segment has this marked number
  NoSegment : ℕ → Hindrance
  -- the blob of a variant is not held
  Missing : (name : List ℕ) → Hindrance
  -- the blob of a variant is longer than the limit
  TooLong : (name : List ℕ) → Hindrance
  -- two variants have one digest
  Same : (earlier later : ℕ) → Hindrance

-- the digest of a held variant
abbrev pub held_digest : Blobs → Design → ℕ → List ℕ
held_digest blobs d variant = sha256 (unwrap_or (blob_at blobs (blob_of d variant)) [])

-- the first earlier variant with the same digest
abbrev pub twin : Blobs → Design → ℕ → Option ℕ
twin blobs d variant = find (λ earlier. bytes_eq (held_digest blobs d variant) (held_digest blobs d earlier)) (range_with_len 0 variant)

-- what stands in the way at a variant
abbrev pub hindrance_of : ℕ → List ℕ → Option (List ℕ) → Option Hindrance → Option Hindrance
hindrance_of limit name None same = Some (Missing name)
hindrance_of limit name (Some bytes) same = if nat_le (length bytes) limit then same else Some (TooLong name)

abbrev pub hindrance : ℕ → Blobs → Design → ℕ → Option Hindrance
hindrance limit blobs d variant =
    hindrance_of limit (blob_of d variant) (blob_at blobs (blob_of d variant)) (option_map (λ earlier. Same earlier variant) (twin blobs d variant))

-- the first thing that stands in the way
abbrev pub first_of : List (Option Hindrance) → Option Hindrance
first_of [] = None
first_of (None ∷ later) = first_of later
first_of (Some first ∷ later) = Some first

-- the title with these digests
abbrev pub title_with : Design → Playlist → List (List ℕ) → Title
title_with d p digests = record { design = d; list = p; digests = digests }

abbrev pub unless_hindered : Option Hindrance → Title → Result Title Hindrance
unless_hindered None t = Ok t
unless_hindered (Some first) t = Err first

-- the title that is made, where no blob longer than the limit is read
unfoldable pub made : ℕ → Blobs → Design → Playlist → Result Title Hindrance
made limit blobs d p =
    unless_hindered (first_of (option_map NoSegment (unmarkable d p) ∷ map (hindrance limit blobs d) (variants d)))
    (title_with d p (map (held_digest blobs d) (variants d)))

-- a held variant, not longer than the limit, whose digest the title has
pub record HoldsVariant (limit : ℕ) (blobs : Blobs) (t : Title) (variant : ℕ) : Type 0 where
  pub bytes : List ℕ
  pub held : blob_at blobs (blob_of t.design variant) ≡ Some bytes
  pub short : nat_le (length bytes) limit ≡ true
  pub digest : slice_get t.digests variant ≡ Some (sha256 bytes)
