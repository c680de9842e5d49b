use Rattle.std.proofs.Common.{◌≡◌, ◌≤◌, ◌<◌, length, ◌∙◌, arith}
use Rattle.rs_code.proofs.FieldSize.{most_elements}
use Rattle.code_terms.specs.Symbols.{symbol_of}
use Rattle.report_check.proofs.RowSteps.{one_more}
use Rattle.report_check.proofs.rows.fill_row.Goals as goal

pub bounds-row-place : goal.bounds-row-place
bounds-row-place g c =
    let met = g.met.F.Field in
    let most : g.F.Field.Q ≤ 256 = most_elements g.F.Field.BITS g.F.Field.Q met.size met.most_bits in
    omega (arith, most, c.n-place-end.ensures.range.1)

pub loop-place-preserved : goal.loop-place-preserved
loop-place-preserved g c =
    let met = g.met.F.Field in
    let most : g.F.Field.Q ≤ 256 = most_elements g.F.Field.BITS g.F.Field.Q met.size met.most_bits in
    let inside : c.loop-place.place < length c.loop-place.row = omega (arith, most, c.n-place-end.ensures.range.1) in
    record {
      front = one_more (λ p x. x ≡ symbol_of g.F.Field.BITS c.args.code.now.dimension c.args.message p) c.loop-place.row c.loop-place.place c.to.result 0 inside (c.to.ensures ∙ c.symbol.ensures.value) c.loop-place.invariant.front;
      products = omega (arith, c.loop-place.invariant.products, c.symbol.ensures.products);
    }
