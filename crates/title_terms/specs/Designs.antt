-- What a design is: the code that the marks belong to, how variants are named, and which segments are marked.
-- This project's own.
use Rattle.std.specs.Prelude.{◌≡◌, ℕ, ◌-◌, ◌*◌, ◌^◌, ◌<◌, Bool, true, ◌&&◌, ◌||◌, ◌==◌, nat_le, nat_lt, List, [], ◌∷◌, ◌++◌, length, codes, slice_index, All}
use Rattle.std.specs.Fmt.{decimal}
use Rattle.std.specs.List.{list_all}
use Rattle.std.specs.List.Sorted.{IsStrictlyIncreasing}
use Rattle.decoding_terms.specs.Parameters.{is_bound, is_light}
use Rattle.register_terms.specs.Rules.{are_bits, is_dimension}
use Rattle.text_terms.specs.Names.{is_plain, is_plain_character}
use Rattle.hex.specs.Hex.{encode_lower}

pub record Design : Type 0 where
  pub name : List ℕ
  -- a symbol has so many bits, and a message so many symbols
  pub bits : ℕ
  pub dimension : ℕ
  -- the largest coalition that is allowed for
  pub bound : ℕ
  -- what stands in a variant's name in front of its place and symbol, and behind them
  pub prefix : List ℕ
  pub suffix : List ℕ
  -- the number of the segment at each place
  pub marked : List ℕ

abbrev pub places : Design → ℕ
places d = length d.marked

abbrev pub symbols : Design → ℕ
symbols d = 2 ^ d.bits

-- ---- the rules

abbrev pub is_affix_character : ℕ → Bool
is_affix_character b = is_plain_character b || b == 47

-- 0 to 64 letters and digits of ASCII, `.`, `_`, `-` and `/`
abbrev pub is_affix : List ℕ → Bool
is_affix text = nat_le (length text) 64 && list_all is_affix_character text

-- so many places tell each member of a coalition from everyone else
abbrev pub are_enough : ℕ → ℕ → ℕ → Bool
are_enough k c n = nat_lt (c * c * (k - 1)) n

-- each symbol stands at one place at most
abbrev pub have_room : ℕ → ℕ → Bool
have_room m n = nat_le n (2 ^ m)

-- above the one in front of it, if there is one
abbrev pub is_above : List ℕ → ℕ → Bool
is_above past segment = length past == 0 || nat_lt (slice_index past (length past - 1)) segment

pub record IsDesign (d : Design) : Type 0 where
  pub name : is_plain d.name ≡ true
  pub bits : are_bits d.bits ≡ true
  pub dimension : is_dimension d.dimension ≡ true
  pub bound : is_bound d.bound ≡ true
  pub light : is_light d.dimension d.bound ≡ true
  pub prefix : is_affix d.prefix ≡ true
  pub suffix : is_affix d.suffix ≡ true
  pub enough : are_enough d.dimension d.bound (places d) ≡ true
  pub room : have_room d.bits (places d) ≡ true
  pub ascending : IsStrictlyIncreasing d.marked
  pub small : All (λ segment. segment < 100000) d.marked

-- ---- variants

-- the blob of the variant of this symbol at this place
abbrev pub variant_name : Design → ℕ → ℕ → List ℕ
variant_name d place symbol = d.prefix ++ (decimal place ++ (codes "-" ++ (encode_lower (symbol ∷ []) ++ d.suffix)))
