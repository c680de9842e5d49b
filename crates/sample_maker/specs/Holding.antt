-- A store that holds the first variants of a sample. This project's own.
use Rattle.std.specs.Prelude.{◌≡◌, ℕ, ◌/◌, ◌%◌, ◌<◌, List, Some}
use Rattle.shelf_terms.specs.Blobs.{Blobs, blob_at}
use Rattle.packaging_terms.specs.Variants.{blob_of}
use Rattle.sample_terms.specs.Inputs.{design, variant_text}

-- what is held of the variant of this number, counted place by place
abbrev pub bytes_of : ℕ → ℕ → List ℕ
bytes_of number variant = variant_text number (variant / 256) (variant % 256)

-- the blobs of so many variants are held under their names
pub record HoldsVariants (number : ℕ) (blobs : Blobs) (count : ℕ) : Type 0 where
  pub each : (variant : ℕ) → variant < count → blob_at blobs (blob_of design variant) ≡ Some (bytes_of number variant)
