use Rattle.std.proofs.Common.{◌≡◌, ℕ, ◌*◌, ◌≤◌, ◌+◌, ap₂, subst, ◌∙◌}
use Rattle.std.specs.Int.{div_ceil}
use Rattle.report_check.specs.Bounds.{rows_bound}
use Rattle.report_check.proofs.rows.Rows.of.Goals as goal

pub returns-clause-products : goal.returns-clause-products
unfolding rows_bound
returns-clause-products g c =
    let n : ℕ = c.args.code.now.places in
    let k : ℕ = c.args.code.now.dimension in
    let digits : c.div_ceil.result ≡ div_ceil (g.F.Field.BITS * k) 4 =
    c.div_ceil.ensures ∙ ap₂ (λ m d. div_ceil (m * d) 4) c.BITS.ensures c.k.ensures.value in
    subst (λ (d : ℕ). c.fill_rows.new.prods ≤ c.args.prods.now + 16 * d * (n * k)) digits c.fill_rows.ensures.products
