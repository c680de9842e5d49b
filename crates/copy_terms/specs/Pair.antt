-- Digests of the small title for the worked examples.
use Rattle.std.specs.Prelude.{ℕ, List, [], map, slice_index_or}
use Rattle.title_terms.specs.Pair.{pair_title}

-- the digests of the variants of these numbers, place by place and symbol by symbol
abbrev pub pair_digests_at : List ℕ → List (List ℕ)
pair_digests_at variants = map (λ variant. slice_index_or pair_title.digests variant []) variants
