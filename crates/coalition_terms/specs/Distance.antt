-- Where two messages have the same symbol.
-- Source: I. S. Reed and G. Solomon, Polynomial codes over certain finite fields, J. SIAM 8 (1960).
use Rattle.std.specs.Prelude.{ℕ, Bool, List, filter, ◌==◌}
use Rattle.std.specs.List.{range_with_len}
use Rattle.code_terms.specs.Symbols.{symbol_of}

-- whether the messages u and v have the same symbol at place i
abbrev pub have_same_symbol : (m k u v i : ℕ) → Bool
have_same_symbol m k u v i = symbol_of m k u i == symbol_of m k v i

-- the places below n where they do, in ascending order
abbrev pub common_places : (m k u v n : ℕ) → List ℕ
common_places m k u v n = filter (have_same_symbol m k u v) (range_with_len 0 n)
