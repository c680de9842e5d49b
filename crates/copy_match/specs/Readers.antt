-- What a reader of a copy has seen: one flag a variant. This project's own.
use Rattle.std.specs.Prelude.{◌≡◌, ℕ, ◌+◌, ◌*◌, Bool, false, List, length, map, filter, slice_index_or, Option}
use Rattle.std.specs.List.{list_any, range_with_len, slice_range}
use Rattle.std.specs.Str.{bytes_eq}
use Rattle.title_terms.specs.Designs.{places, symbols}
use Rattle.title_terms.specs.Titles.{Title, IsTitle}
use Rattle.copy_terms.specs.Copies.{only}

pub record Reader : Type 0 where
  pub title : Title
  -- place by place, and at each place symbol by symbol: whether the variant was shown
  pub flags : List Bool

-- the title is valid, and there is a flag for each of its variants
pub record IsReader (r : Reader) : Type 0 where
  pub valid : IsTitle r.title
  pub long : length r.flags ≡ places r.title.design * symbols r.title.design

-- which of the title's digests are among these
abbrev pub flags_of : Title → List (List ℕ) → List Bool
flags_of t digests = map (λ variant. list_any (bytes_eq variant) digests) t.digests

-- the reader has seen segments with these digests, and no others
abbrev pub HasSeen : Reader → List (List ℕ) → Type 0
HasSeen r digests = r.flags ≡ flags_of r.title digests

-- ---- the word

-- the numbers of the flags that are set
abbrev pub set_flags : List Bool → List ℕ
set_flags flags = filter (λ symbol. slice_index_or flags symbol false) (range_with_len 0 (length flags))

-- the only one, if there is just one
abbrev pub only_flag : List Bool → Option ℕ
only_flag flags = only (set_flags flags)

-- the flags of the variants of a place
abbrev pub flags_at : Reader → ℕ → List Bool
flags_at r place = slice_range r.flags (place * symbols r.title.design) (place * symbols r.title.design + symbols r.title.design)

-- at each place the only symbol that was shown
unfoldable pub word_of_flags : Reader → List (Option ℕ)
word_of_flags r = map (λ place. only_flag (flags_at r place)) (range_with_len 0 (places r.title.design))
