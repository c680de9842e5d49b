use Rattle.std.proofs.Common.{◌+◌, ◌*◌, ◌/◌, ◌%◌, ℕ, get_or, ap, ◌∙◌, arith}
use Rattle.std.specs.Prelude.{bit_xor}
use Rattle.gf2m.proofs.Halves.{product_by_halves}
use Rattle.gf2m.proofs.slices.add_groups.Goals as goal

pub add_sixteen-requires : goal.add_sixteen-requires
add_sixteen-requires g c = (
  omega arith,
  (
    c.requires.low,
    (
      c.requires.high,
      (
        omega arith,
        (
          omega arith,
          λ k y lt.
              let e = get_or c.args.source.now (16 * c.loop-group.group + k) y in
              c.sixteen_products-products.ensures k lt
              ∙ ap (λ (n : ℕ). bit_xor (get_or c.args.low.now (n % 16) 0) (get_or c.args.high.now (n / 16 % 16) 0)) (c.sixteen_numbers-numbers.ensures k y lt)
              ∙ product_by_halves g.row.M c.args.factor.value c.args.low.now c.args.high.now c.requires.high c.requires.products e.value e.in_range,
        ),
      ),
    ),
  ),
)
