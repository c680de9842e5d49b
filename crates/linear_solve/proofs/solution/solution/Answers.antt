use Rattle.std.proofs.Common.{◌≡◌, ◌≢◌, ◌+◌, ◌-◌, ◌<◌, ℕ, length, ap, sym, ◌∙◌, arith}
use Rattle.std.proofs.lemmas.List.{length-map, length-set, get_or-set_other}
use Rattle.algebra.specs.Lists.{coefficients}
use Rattle.system_terms.specs.Systems.{row_times}
use Rattle.linear_solve.specs.Tables.{entries}
use Rattle.linear_solve.specs.Pivots.{rows_of}
use Rattle.linear_solve.proofs.Products.{one_more}
use Rattle.linear_solve.proofs.Solved.{row_at, column_at, settled_solves}
use Rattle.linear_solve.proofs.solution.solution.Goals as goal

pub settle-requires-clause-column : goal.settle-requires-clause-column
settle-requires-clause-column g c =
    let j : ℕ = c.pivots.j - 1 in
    let inside : j < length c.args.pivots.now = omega arith in
    let at = column_at g.F.Field.ring c.args.pivots.now j c.index-pivots-j.result inside c.index-pivots-j.is in
    omega (arith, c.requires.pivots.inside j inside, at, c.pivots.invariant.long)

pub settle-requires-clause-length : goal.settle-requires-clause-length
settle-requires-clause-length g c =
    let j : ℕ = c.pivots.j - 1 in
    let inside : j < length c.args.pivots.now = omega arith in
    ap length (sym (row_at g.F.Field.ring c.args.pivots.now j c.index-pivots-j.result inside c.index-pivots-j.is))
    ∙ c.requires.pivots.even j (rw (length-map c.args.pivots.now (λ p. p.row.items)) inside)
    ∙ sym c.pivots.invariant.long

pub pivots-preserved : goal.pivots-preserved
pivots-preserved g c =
    let R = g.F.Field.ring in
    let j : ℕ = c.pivots.j - 1 in
    let inside : j < length c.args.pivots.now = omega arith in
    let at = column_at R c.args.pivots.now j c.index-pivots-j.result inside c.index-pivots-j.is in
    let wide : length c.index-pivots-j.result.row.items ≡ c.args.columns =
    ap length (sym (row_at R c.args.pivots.now j c.index-pivots-j.result inside c.index-pivots-j.is)) ∙ c.requires.pivots.even j (rw (length-map c.args.pivots.now (λ p. p.row.items)) inside) in
    let other : c.args.free ≢ c.index-pivots-j.result.column = λ e. c.requires.free j inside (at ∙ sym e) in
    record {
      long = ap length c.settle.ensures.value ∙ length-set c.pivots.vector.items c.index-pivots-j.result.column _ ∙ c.pivots.invariant.long;
      solves = λ i m b.
          ap (λ t. row_times R c.args.columns (entries R (rows_of c.args.pivots.now) i) (coefficients R t)) c.settle.ensures.value
          ∙ settled_solves R c.args.columns c.args.pivots.now c.requires.pivots j c.index-pivots-j.result inside c.index-pivots-j.is c.pivots.vector.items c.pivots.invariant.long wide
          (λ k l o. c.pivots.invariant.solves k (omega arith) o) i m b;
      one = ap (λ t. coefficients R t c.args.free) c.settle.ensures.value ∙ get_or-set_other c.pivots.vector.items c.index-pivots-j.result.column c.args.free _ R.nil other ∙ c.pivots.invariant.one;
      products = one_more (length c.args.pivots.now) j c.pivots.j (c.args.columns + 1) c.pivots.prods c.settle.new.prods c.args.prods.now (omega arith) (omega (arith, c.pivots.auto.j)) c.pivots.invariant.products
          (omega (arith, c.settle.ensures.products, c.pivots.invariant.long));
    }

pub returns-clause-solves : goal.returns-clause-solves
returns-clause-solves g c = λ i l. c.pivots.invariant.solves i (omega (arith, c.pivots-test.false)) l
