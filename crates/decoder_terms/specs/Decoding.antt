-- What list decoding finds: the messages that agree with enough of a word. It compares every message with the word; no curve stands here.
-- Source: V. Guruswami and M. Sudan, Improved decoding of Reed-Solomon and algebraic-geometry codes, IEEE Transactions on Information Theory 45 (1999). That the threshold is a product with the bound c, and that the list ascends, are this project's own.
use Rattle.std.specs.Prelude.{ℕ, ◌-◌, ◌*◌, ◌^◌, Bool, nat_le, List, Option, filter}
use Rattle.std.specs.List.{range_with_len}
use Rattle.code_terms.specs.Words.{readable, agreement_of}

-- the message u agrees with at least a c-th part of the readable places
abbrev pub meets_threshold : (m k : ℕ) → List (Option ℕ) → ℕ → ℕ → Bool
meets_threshold m k word c u = nat_le (readable word) (agreement_of m k u word * c)

-- all messages that meet the threshold, in ascending order
unfoldable pub decoded : (m k : ℕ) → List (Option ℕ) → ℕ → List ℕ
decoded m k word c = filter (meets_threshold m k word c) (range_with_len 0 (2 ^ (m * k)))

-- too few places are readable for coalitions of c where they are not more than this
abbrev pub not_enough : (k c : ℕ) → ℕ
not_enough k c = c * c * (k - 1)
