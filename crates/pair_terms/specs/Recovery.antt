-- What list recovery finds: the messages that fit enough of some pairs. It compares every message with the pairs; no curve
-- stands here. Source: this project's own.
use Rattle.std.specs.Prelude.{ℕ, ◌+◌, ◌*◌, ◌^◌, Bool, nat_le, List, length, filter}
use Rattle.std.specs.List.{range_with_len}
use Rattle.decoder_terms.specs.Bounds.{root_bound}
use Rattle.pair_terms.specs.Pairs.{Pair, fitting_count}

-- the message u fits at least a c-th part of the pairs
abbrev pub fits_enough : (m k : ℕ) → List Pair → ℕ → ℕ → Bool
fits_enough m k pairs c u = nat_le (length pairs) (fitting_count m k u pairs * c)

-- all messages that do, in ascending order
unfoldable pub recovered : (m k : ℕ) → List Pair → ℕ → List ℕ
recovered m k pairs c = filter (fits_enough m k pairs c) (range_with_len 0 (2 ^ (m * k)))

-- how many products that may take for r pairs at n places, where the curve takes so many: fewer than r + c messages are
-- compared with the pairs, and each has one symbol a place
abbrev pub recovery_bound : (curve r n k c : ℕ) → ℕ
recovery_bound curve r n k c = curve + root_bound r k c + (r + c) * n * k
