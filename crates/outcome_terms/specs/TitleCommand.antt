-- `title DESIGN SOURCE OUT`: a title of the variants that are held. This project's own.
use Rattle.std.specs.Prelude.{ℕ, ◌||◌, not, List, [], ◌∷◌, ◌++◌, Option, Some, None, Result, Ok, Err}
use Rattle.std.specs.List.{position}
use Rattle.std.specs.Option.{option_map}
use Rattle.std.specs.Str.{bytes_eq}
use Rattle.sha2.specs.Sha256.{sha256}
use Rattle.playlist_terms.specs.Playlists.{Playlist}
use Rattle.playlist_terms.specs.Reading.{playlist_of}
use Rattle.title_terms.specs.Designs.{Design}
use Rattle.title_terms.specs.DesignText.{design_of}
use Rattle.title_terms.specs.Titles.{Title}
use Rattle.title_terms.specs.TitleText.{title_text}
use Rattle.packaging_terms.specs.Variants.{variants, place_in, symbol_in, blob_of, unmarkable}
use Rattle.packaging_terms.specs.Making as hindrance
use Rattle.packaging_terms.specs.Making.{Hindrance, title_with}
use Rattle.outcome_terms.specs.declared.fault.Fault.{Fault}
use Rattle.outcome_terms.specs.declared.fault.Fault.TheVariants.{BadDesign, BadPlaylist, Duplicate, NoSegment, SameName}
use Rattle.outcome_terms.specs.declared.refusal.Refusal.{Refusal}
use Rattle.outcome_terms.specs.declared.refusal.Refusal.TheVariants as refusal
use Rattle.outcome_terms.specs.Request.{Request, MakeTitle}
use Rattle.outcome_terms.specs.Words.{◌>>?◌, named}
use Rattle.outcome_terms.specs.Reading.{Reading, Give, ◌>>=◌, ◌>>◌, blob, understood, require}
use Rattle.outcome_terms.specs.Stores.{Writing, Exactly}
use Rattle.outcome_terms.specs.Along.{along}

-- three words, each of the form of a blob's name
unfoldable pub make_title_of : List (List ℕ) → Option Request
make_title_of (design_word ∷ source_word ∷ out_word ∷ []) =
    named design_word >>? λ design. named source_word >>? λ source. named out_word >>? λ out. Some (MakeTitle design source out)
make_title_of _ = None

-- the design under a name
unfoldable pub design_under : List ℕ → Reading Design
design_under name = do
  bytes ← blob name
  understood BadDesign (design_of bytes)

-- the media playlist under a name
unfoldable pub playlist_under : List ℕ → Reading Playlist
playlist_under name = do
  bytes ← blob name
  understood BadPlaylist (playlist_of bytes)

-- the digest of the blob under a name
unfoldable pub digest_under : List ℕ → Reading (List ℕ)
digest_under name = do
  bytes ← blob name
  Give (sha256 bytes)

-- two variants have one digest
abbrev pub same_digest : Design → (earlier later : ℕ) → Fault
same_digest d earlier later = Duplicate (place_in d earlier) (symbol_in d earlier) (place_in d later) (symbol_in d later)

-- the digest of a variant behind those of the earlier ones, none of which it may be
unfoldable pub with_digest : Design → List (List ℕ) → ℕ → List ℕ → Reading (List (List ℕ))
with_digest d digests variant digest = do
  option_map (λ earlier. same_digest d earlier variant) (position (bytes_eq digest) digests)
  Give (digests ++ digest ∷ [])

unfoldable pub with_variant : Design → List (List ℕ) → ℕ → Reading (List (List ℕ))
with_variant d digests variant = do
  digest ← digest_under (blob_of d variant)
  with_digest d digests variant digest

-- the title of the variants under their names
unfoldable pub title_made : Design → Playlist → Reading Title
title_made d p = do
  option_map NoSegment (unmarkable d p)
  digests ← along (with_variant d) [] (variants d)
  Give (title_with d p digests)

-- ---- what it gives over a map of blobs

-- how is told what stands in the way
abbrev pub hindrance_refusal : Design → Hindrance → Refusal
hindrance_refusal d (hindrance.NoSegment segment) = refusal.Content (NoSegment segment)
hindrance_refusal d (hindrance.Missing name) = refusal.Missing name
hindrance_refusal d (hindrance.TooLong name) = refusal.TooLong name
hindrance_refusal d (hindrance.Same earlier later) = refusal.Content (same_digest d earlier later)

abbrev pub told_title : Design → Result Title Hindrance → Result Title Refusal
told_title d (Ok t) = Ok t
told_title d (Err h) = Err (hindrance_refusal d h)

-- ---- the command

-- the text of the title
unfoldable pub title : (design source out : List ℕ) → Reading Writing
title design source out = do
  require (not (bytes_eq out design || bytes_eq out source)) (SameName out)
  d ← design_under design
  p ← playlist_under source
  t ← title_made d p
  Give (Exactly (title_text t))

-- the numbers of the statuses that it ends with, where the words do not refuse it
abbrev pub title_statuses : List ℕ
title_statuses = 0 ∷ 1 ∷ 3 ∷ 4 ∷ 5 ∷ 7 ∷ 8 ∷ 9 ∷ 20 ∷ 25 ∷ []
