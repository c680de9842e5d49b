use Rattle.std.proofs.Common.{◌≡◌, ℕ, ◌*◌, ◌^◌, ◌<◌, get_or}
use Rattle.gf_terms.specs.Arithmetic.{product}
use Rattle.gf2m.proofs.slices.high_products.Given as goal

abbrev pub invariant-loop-number : goal.invariant-loop-number
invariant-loop-number g l = (b : ℕ) → b < l.number → 16 * b < 2 ^ g.row.M → get_or l.product-items b 0 ≡ product g.row.M l.factor (16 * b)
