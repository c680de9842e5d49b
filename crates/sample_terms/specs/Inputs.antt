-- The register and the title of a sample, and which of its variants have one digest. This project's own.
use Rattle.std.specs.Prelude.{ℕ, zero, suc, ◌*◌, ◌/◌, ◌%◌, List, map, codes, ◌++◌, false, true, Option, Some, None}
use Rattle.std.specs.Fmt.{decimal}
use Rattle.std.specs.List.{find, range_with_len}
use Rattle.std.specs.Option.{option_map}
use Rattle.std.specs.Str.{bytes_eq}
use Rattle.sha2.specs.Sha256.{sha256}
use Rattle.register_terms.specs.Enrolment.{Licensee, Enrolment}
use Rattle.playlist_terms.specs.Playlists.{PlaylistSegment, Playlist}
use Rattle.title_terms.specs.Designs.{Design}
use Rattle.title_terms.specs.Titles.{Title}
use Rattle.sample_terms.specs.Numbers.{multiplier, shift}

-- ---- the register: `lic0` to `lic999`

abbrev pub licensee_name : ℕ → List ℕ
licensee_name serial = codes "lic" ++ decimal serial

abbrev pub licensee : ℕ → Licensee
licensee serial = record { name = licensee_name serial; active = true }

-- with so many licensees
unfoldable pub register_with : ℕ → ℕ → Enrolment
register_with count number = record { bits = 8; dimension = 3; multiplier = multiplier number; shift = shift number; licensees = map licensee (range_with_len 0 count) }

abbrev pub register_of : ℕ → Enrolment
register_of number = register_with 1000 number

-- ---- the title: 64 places, with 256 variants at each

-- what is held of a variant
abbrev pub variant_text : ℕ → ℕ → ℕ → List ℕ
variant_text number place symbol = decimal number ++ (codes "/" ++ (decimal place ++ (codes "/" ++ decimal symbol)))

-- the digest of the variant of this number, counted place by place and at each place symbol by symbol
unfoldable pub digest_of : ℕ → ℕ → List ℕ
digest_of number variant = sha256 (variant_text number (variant / 256) (variant % 256))

abbrev pub segment : ℕ → PlaylistSegment
segment i = record { micros = 6000000; uri = codes "s" ++ (decimal i ++ codes ".ts"); cut = false }

unfoldable pub list : Playlist
list = record { version = 3; target = 6; sequence = 0; segments = map segment (range_with_len 0 64) }

unfoldable pub design : Design
design = record { name = codes "sample"; bits = 8; dimension = 3; bound = 3; prefix = codes "v/"; suffix = codes ".ts"; marked = range_with_len 0 64 }

-- 64 places of 256 symbols
unfoldable pub variants : ℕ
variants = 64 * 256

unfoldable pub title_of : ℕ → Title
title_of number = record { design = design; list = list; digests = map (digest_of number) (range_with_len 0 variants) }

-- ---- two variants with one digest

-- the first variant in front of this one with the same digest
abbrev pub twin_of : ℕ → ℕ → Option ℕ
twin_of number later = find (λ earlier. bytes_eq (digest_of number later) (digest_of number earlier)) (range_with_len 0 later)

abbrev pub first_or : Option (ℕ × ℕ) → Option (ℕ × ℕ) → Option (ℕ × ℕ)
first_or None next = next
first_or (Some pair) next = Some pair

-- the first two of so many variants with one digest, the earlier one first
unfoldable pub twins : ℕ → ℕ → Option (ℕ × ℕ)
twins number zero = None
twins number (suc later) = first_or (twins number later) (option_map (λ earlier. (earlier, later)) (twin_of number later))
