-- The copy that the coalition of a sample puts together, and its word. This project's own.
use Rattle.std.specs.Prelude.{ℕ, ◌+◌, ◌-◌, ◌*◌, nat_lt, if◌then◌else◌, List, map, Option, Some, None}
use Rattle.std.specs.List.{range_with_len}
use Rattle.packaging_terms.specs.Licensees.{symbol_at}
use Rattle.copy_terms.specs.Copies.{word_of_copy}
use Rattle.sample_terms.specs.Numbers.{member_at}
use Rattle.sample_terms.specs.Inputs.{register_of, title_of, digest_of}

-- the symbol that is copied at a place: that of the member whose turn it is
unfoldable pub copied_symbol : ℕ → ℕ → ℕ
copied_symbol number place = symbol_at (register_of number) (member_at number place) place

-- ---- by the digests of the copy's segments

abbrev pub copied_digest : ℕ → ℕ → List ℕ
copied_digest number place = digest_of number (place * 256 + copied_symbol number place)

-- the segments are the variants of the places 29 down to 0
unfoldable pub copied_digests : ℕ → List (List ℕ)
copied_digests number = map (λ i. copied_digest number (29 - i)) (range_with_len 0 30)

-- the word that the copy has of the title
unfoldable pub word_of : ℕ → List (Option ℕ)
word_of number = word_of_copy (title_of number) (copied_digests number)

-- ---- by the symbols alone

-- the first 30 places show a symbol
abbrev pub slot_of : ℕ → ℕ → Option ℕ
slot_of number place = if nat_lt place 30 then Some (copied_symbol number place) else None

-- what the copy has at each of the 64 places
unfoldable pub copied_word : ℕ → List (Option ℕ)
copied_word number = map (slot_of number) (range_with_len 0 64)
