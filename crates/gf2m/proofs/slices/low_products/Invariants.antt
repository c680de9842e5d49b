use Rattle.std.proofs.Common.{◌≡◌, ℕ, ◌<◌, get_or}
use Rattle.gf_terms.specs.Arithmetic.{product}
use Rattle.gf2m.proofs.slices.low_products.Given as goal

abbrev pub invariant-loop-number : goal.invariant-loop-number
invariant-loop-number g l = (a : ℕ) → a < l.number → get_or l.product-items a 0 ≡ product g.row.M l.factor a
