-- How many field products and looks a trace over r pairs may take, for n places, messages of k coefficients and coalitions of c.
-- This project's own.
use Rattle.std.specs.Prelude.{ℕ, ◌+◌, ◌*◌}
use Rattle.decoder_terms.specs.Bounds.{root_bound}
use Rattle.desk_terms.specs.Bounds.{iterative_curve_bound}

-- the looks: fewer messages are recovered than this
abbrev pub merged_look_bound : (r c : ℕ) → ℕ
merged_look_bound r c = r + c

-- the products, where the curve takes so many. The places of those who are accused take no more than the roots.
abbrev pub merged_bound : (curve r n k c : ℕ) → ℕ
merged_bound curve r n k c = curve + 2 * root_bound r k c + (r + c) * n * k

-- the products of a whole trace by curves that are built point by point
abbrev pub merged_product_bound : (r n k c : ℕ) → ℕ
merged_product_bound r n k c = merged_bound (iterative_curve_bound r k c) r n k c
