use Rattle.std.proofs.Common.{◌≡◌, ◌+◌, ◌-◌, ◌<◌, ◌≤◌, ℕ, suc, if◌then◌else◌, List, [], length, get_or, sym, ap, ap₂, subst, ◌∙◌, arith}
use Rattle.std.proofs.lemmas.List.{get_or_default}
use Rattle.algebra.specs.Binomials.{has_bits}
use Rattle.algebra.specs.Bivariate.{Bivariate, greatest, x_power, x_power_at, weight}
use Rattle.algebra.specs.Lists.{coefficients}
use Rattle.algebra.specs.Roots.{total}
use Rattle.algebra.specs.Sums.{sum_below}
use Rattle.algebra.proofs.Horner.{nested_from, nested_from-end, nested_from-step, nested_from-stop, nested_from-weights}
use Rattle.bi_poly.proofs.Heights.{IsHeight, empty_height, total_height, nil_past, nil_past_row}
use Rattle.bi_poly.proofs.RowDerivatives.{row_derivative, derivative_rows}
use Rattle.bi_poly.proofs.bivariate.BiPoly.hasse.Goals as goal

pub rows-init : goal.rows-init
rows-init g c =
    let R = g.F.Field.ring in
    let h : ℕ = c.height-height.result in
    let p : ℕ → g.row.F.Denot = row_derivative R c.self.inside.rows.items (greatest x_power c.args.self.now + 1) c.args.a c.args.u in
    record {
      value = c.zero-value.ensures ∙ sym (nested_from-end R h (λ j. if has_bits j c.args.v then p j else R.nil) c.args.b h (omega arith));
      place = λ l. absurd (omega arith);
      products = omega arith;
      none = λ _. omega arith;
    }

pub rows-preserved : goal.rows-preserved
rows-preserved g c =
    let R = g.F.Field.ring in
    let met = g.met.F.Field in
    let rows : List (List g.row.F.Denot) = c.self.inside.rows.items in
    let q : Bivariate g.row.F.Denot = c.args.self.now in
    let h : ℕ = c.height-height.result in
    let m : ℕ = greatest x_power q + 1 in
    let j : ℕ = c.rows.j - 1 in
    let next : c.rows.j ≡ suc j = omega arith in
    let p : ℕ → g.row.F.Denot = λ k. if has_bits k c.args.v then row_derivative R rows m c.args.a c.args.u k else R.nil in
    let inside : j < length rows = omega (arith, c.height-height.ensures.within, ap length c.deref.ensures.value) in
    let row : c.index.result.now ≡ get_or rows j [] = c.index.ensures ∙ get_or_default rows j c.index.result.now [] inside in
    let past : (k : ℕ) → m ≤ k → coefficients R c.index.result.now k ≡ R.nil = λ k l.
    ap (λ (t : List g.row.F.Denot). coefficients R t k) row ∙ nil_past R g.F.Field.number met.number_nil met.same met.field rows q k j c.self.view_is l in
    let past_row : (k : ℕ) → greatest (x_power_at j) q < k → coefficients R c.index.result.now k ≡ R.nil = λ k l.
    ap (λ (t : List g.row.F.Denot). coefficients R t k) row ∙ nil_past_row R g.F.Field.number met.number_nil met.same met.field rows q j k c.self.view_is (omega arith) in
    record {
      value =
          c.add-value.ensures
          ∙ ap₂ R.plus
          (c.mul.ensures.value ∙ ap (λ x. R.times x c.args.b) (c.rows.invariant.value ∙ ap (nested_from R h p c.args.b) next))
          (c.derivative_where_odd-row.ensures.value m past
          ∙ ap (λ (t : List g.row.F.Denot). if has_bits j c.args.v then sum_below R m (λ k. R.times (coefficients R t k) (weight R c.args.a k c.args.u)) else R.nil) row)
          ∙ sym (nested_from-step R h p c.args.b j (omega arith));
      place = λ l. omega arith;
      products =
          let f : ℕ → ℕ = λ k. greatest (x_power_at k) q + 2 in
          let more : total c.rows.j f ≡ (greatest (x_power_at j) q + 2) + total j f = ap (λ t. total t f) next in
          omega (arith, c.mul.ensures.ticks, c.derivative_where_odd-row.ensures.products (greatest (x_power_at j) q) past_row, c.rows.invariant.products);
      none = λ z. absurd (omega arith);
    }

pub returns-clause-value : goal.returns-clause-value
returns-clause-value g c =
    let R = g.F.Field.ring in
    let met = g.met.F.Field in
    let rows : List (List g.row.F.Denot) = c.self.inside.rows.items in
    let q : Bivariate g.row.F.Denot = c.args.self.now in
    let h : ℕ = c.height-height.result in
    let m : ℕ = greatest x_power q + 1 in
    let p : ℕ → g.row.F.Denot = row_derivative R rows m c.args.a c.args.u in
    let tall : IsHeight R rows h =
    subst (λ (t : List (List g.row.F.Denot)). IsHeight R t h) c.deref.ensures.value (record { zeros = c.height-height.ensures.zeros; last = c.height-height.ensures.last }) in
    c.rows.invariant.value
    ∙ nested_from-stop R h (λ j. if has_bits j c.args.v then p j else R.nil) c.args.b c.rows.j c.args.v (omega arith) c.rows.invariant.place
    ∙ nested_from-weights R h c.args.v p c.args.b
    ∙ sym (derivative_rows R g.F.Field.number met.number_nil met.same rows q c.self.view_is m h c.args.u c.args.v c.args.a c.args.b
    (λ i j l. nil_past R g.F.Field.number met.number_nil met.same met.field rows q i j c.self.view_is l) tall.zeros)

pub returns-clause-products : goal.returns-clause-products
returns-clause-products g c =
    let R = g.F.Field.ring in
    let met = g.met.F.Field in
    let rows : List (List g.row.F.Denot) = c.self.inside.rows.items in
    let q : Bivariate g.row.F.Denot = c.args.self.now in
    let h : ℕ = c.height-height.result in
    let tall : IsHeight R rows h =
    subst (λ (t : List (List g.row.F.Denot)). IsHeight R t h) c.deref.ensures.value (record { zeros = c.height-height.ensures.zeros; last = c.height-height.ensures.last }) in
    omega (arith, total_height R g.F.Field.number met.number_nil met.same rows q h (λ k. greatest (x_power_at k) q + 2) c.self.view_is tall, c.rows.invariant.products)

pub returns-clause-none : goal.returns-clause-none
returns-clause-none g c z =
    let R = g.F.Field.ring in
    let met = g.met.F.Field in
    let rows : List (List g.row.F.Denot) = c.self.inside.rows.items in
    let h : ℕ = c.height-height.result in
    let tall : IsHeight R rows h =
    subst (λ (t : List (List g.row.F.Denot)). IsHeight R t h) c.deref.ensures.value (record { zeros = c.height-height.ensures.zeros; last = c.height-height.ensures.last }) in
    c.rows.invariant.none (empty_height R g.F.Field.number met.number_nil met.same rows h tall (c.self.view_is ∙ z))
