-- How many field products list decoding may take, for n places, messages of k coefficients and coalitions of c.
-- Source: this project's own.
use Rattle.std.specs.Prelude.{ℕ, ◌+◌, ◌-◌, ◌*◌}

-- those that find the y-roots of the curve
abbrev pub root_bound : (n k c : ℕ) → ℕ
root_bound n k c = k * ((n + c) * (n + c)) * (256 + (k - 1) * ((n + c) * (n + c)))

-- those that compare them with the word
abbrev pub agreement_bound : (n k c : ℕ) → ℕ
agreement_bound n k c = (n + c) * n * k

-- all of them, where the curve takes so many
abbrev pub decoding_bound : (curve n k c : ℕ) → ℕ
decoding_bound curve n k c = curve + root_bound n k c + agreement_bound n k c
