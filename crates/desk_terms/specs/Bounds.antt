-- How many field products and looks a trace may take, for n places, messages of k coefficients and coalitions of c.
-- This project's own.
use Rattle.std.specs.Prelude.{ℕ, ◌+◌, ◌-◌, ◌*◌, ◌/◌}
use Rattle.decoder_terms.specs.Bounds.{root_bound, agreement_bound}

-- the looks: decoding finds one message fewer
abbrev pub look_bound : (n c : ℕ) → ℕ
look_bound n c = n + c

-- the products, where the curve takes so many. The places of those who are accused take no more than the roots.
abbrev pub tracing_bound : (curve n k c : ℕ) → ℕ
tracing_bound curve n k c = curve + 2 * root_bound n k c + agreement_bound n k c

-- the equations for a curve are no more than this, and its terms
abbrev pub most_equations : (n k c : ℕ) → ℕ
most_equations n k c = n * (c * (k - 1) * (c * (k - 1) + 1) / 2)

abbrev pub most_terms : (n k c : ℕ) → ℕ
most_terms n k c = 2 * most_equations n k c + 1

-- the products of a curve by linear algebra, and of one that is built point by point
abbrev pub linear_curve_bound : (n k c : ℕ) → ℕ
linear_curve_bound n k c = 16 * (most_equations n k c * most_equations n k c) * most_terms n k c

abbrev pub iterative_curve_bound : (n k c : ℕ) → ℕ
iterative_curve_bound n k c = 8 * most_equations n k c * (n + c) * most_terms n k c

-- the products of a whole trace by the one and by the other
abbrev pub product_bound : (n k c : ℕ) → ℕ
product_bound n k c = tracing_bound (linear_curve_bound n k c) n k c

abbrev pub iterative_product_bound : (n k c : ℕ) → ℕ
iterative_product_bound n k c = tracing_bound (iterative_curve_bound n k c) n k c
