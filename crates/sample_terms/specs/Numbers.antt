-- The numbers that a sample is made of: words of ChaCha20, from a seed that is the sample's number.
-- Source: D. J. Bernstein, ChaCha, a variant of Salsa20 (2008). What is made of the words is this project's own.
use Rattle.std.specs.Prelude.{ℕ, zero, suc, ◌+◌, ◌*◌, ◌%◌, ◌^◌, List, [], ◌∷◌, ◌++◌, replicate}
use Rattle.std.specs.Int.{w64, to_le_bytes}
use Rattle.rand_chacha.specs.ChaCha.{key_of, word_at}

-- the number in eight bytes, low byte first, and 24 zero bytes
abbrev pub seed_of : ℕ → List ℕ
seed_of number = to_le_bytes w64 number ++ replicate 24 0

-- the word at this place of the first stream of that seed, after 20 rounds
unfoldable pub word_number : ℕ → ℕ → ℕ
word_number number place = word_at 10 (key_of (seed_of number)) 0 place

-- ---- the first five words

abbrev pub multiplier : ℕ → ℕ
multiplier number = 2 * (word_number number 0 % 2 ^ 23) + 1

abbrev pub shift : ℕ → ℕ
shift number = word_number number 1 % 2 ^ 24

-- three serials, of which two may be the same
abbrev pub first_member : ℕ → ℕ
first_member number = word_number number 2 % 1000

abbrev pub second_member : ℕ → ℕ
second_member number = word_number number 3 % 1000

abbrev pub third_member : ℕ → ℕ
third_member number = word_number number 4 % 1000

abbrev pub coalition : ℕ → List ℕ
coalition number = first_member number ∷ second_member number ∷ third_member number ∷ []

-- ---- the words after them

abbrev pub turn_of : ℕ → ℕ → ℕ → ℕ → ℕ
turn_of first second third zero = first
turn_of first second third (suc zero) = second
turn_of first second third (suc (suc turn)) = third

-- the member whose variant the copy has at a place
abbrev pub member_at : ℕ → ℕ → ℕ
member_at number place = turn_of (first_member number) (second_member number) (third_member number) (word_number number (5 + place) % 3)
