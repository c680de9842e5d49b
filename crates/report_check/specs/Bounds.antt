-- How many steps a check takes at the most. This project's own.
use Rattle.std.specs.Prelude.{ℕ, ◌+◌, ◌*◌}
use Rattle.std.specs.Int.{div_ceil}

-- the products of the rows: sixteen for each digit of a message to the base 16, of k products at each of the n places
unfoldable pub rows_bound : (m n k : ℕ) → ℕ
rows_bound m n k = 16 * div_ceil (m * k) 4 * (n * k)

-- the products of a whole check of so many accused: each one's codeword twice, once for the places and once for the threshold
unfoldable pub check_bound : (m n k accused : ℕ) → ℕ
check_bound m n k accused = 2 * accused * (n * k) + rows_bound m n k

-- the looks: two for each accused, and one for each licensee
abbrev pub check_look_bound : (licensees accused : ℕ) → ℕ
check_look_bound licensees accused = licensees + 2 * accused
