use Rattle.std.proofs.Common.{◌≡◌, ◌+◌, ◌-◌, ◌*◌, ◌<◌, ◌≤◌, ℕ, List, length, sym, ap, ap₂, subst, ◌∙◌, arith}
use Rattle.algebra.specs.Bivariate.{Bivariate, greatest, x_power, y_power, weight}
use Rattle.algebra.specs.Sums.{sum_below}
use Rattle.bi_poly.specs.Rows.{ArePowers, cell}
use Rattle.bi_poly.proofs.Heights.{nil_past}
use Rattle.bi_poly.proofs.ShiftedRows.{IsRowCount, row_count, IsShifted, none_shifted, row_shifted, shifted_limits, shifted_value, shifted_nonzero, last_products, row_taken}
use Rattle.bi_poly.proofs.bivariate.BiPoly.shift.Goals as goal

pub returns-in_err-powers-clause-products : goal.returns-in_err-powers-clause-products
returns-in_err-powers-clause-products g c =
    let R = g.F.Field.ring in
    let met = g.met.F.Field in
    let rows : List (List g.row.F.Denot) = c.self.inside.rows.items in
    let h : ℕ = c.height.result in
    let count : IsRowCount R rows c.args.self.now h =
    row_count R g.F.Field.number met.number_nil met.same rows c.args.self.now c.self.view_is c.self.invariant c.deref.result.now c.deref.ensures.value h
    (record { zeros = c.height.ensures.zeros; last = c.height.ensures.last }) in
    last_products c.args.prods.now c.powers.new.prods h 0 (greatest x_power c.args.self.now + 1) (greatest y_power c.args.self.now + 1) (omega arith) count.most (omega arith)
    (omega (arith, c.in_err-powers.ensures.products))

pub returns-in_err-powers-clause-none : goal.returns-in_err-powers-clause-none
returns-in_err-powers-clause-none g c z =
    let R = g.F.Field.ring in
    let met = g.met.F.Field in
    let rows : List (List g.row.F.Denot) = c.self.inside.rows.items in
    let h : ℕ = c.height.result in
    let count : IsRowCount R rows c.args.self.now h =
    row_count R g.F.Field.number met.number_nil met.same rows c.args.self.now c.self.view_is c.self.invariant c.deref.result.now c.deref.ensures.value h
    (record { zeros = c.height.ensures.zeros; last = c.height.ensures.last }) in
    c.in_err-powers.ensures.none (count.none z)

pub returns-in_err-rows-clause-products : goal.returns-in_err-rows-clause-products
returns-in_err-rows-clause-products g c =
    let R = g.F.Field.ring in
    let met = g.met.F.Field in
    let rows : List (List g.row.F.Denot) = c.self.inside.rows.items in
    let h : ℕ = c.height.result in
    let count : IsRowCount R rows c.args.self.now h =
    row_count R g.F.Field.number met.number_nil met.same rows c.args.self.now c.self.view_is c.self.invariant c.deref.result.now c.deref.ensures.value h
    (record { zeros = c.height.ensures.zeros; last = c.height.ensures.last }) in
    last_products c.args.prods.now c.powers.new.prods h 0 (greatest x_power c.args.self.now + 1) (greatest y_power c.args.self.now + 1) (omega arith) count.most (omega arith)
    (omega (arith, c.in_ok-powers.ensures.products))

pub returns-in_err-rows-clause-none : goal.returns-in_err-rows-clause-none
returns-in_err-rows-clause-none g c z =
    let R = g.F.Field.ring in
    let met = g.met.F.Field in
    let rows : List (List g.row.F.Denot) = c.self.inside.rows.items in
    let h : ℕ = c.height.result in
    let count : IsRowCount R rows c.args.self.now h =
    row_count R g.F.Field.number met.number_nil met.same rows c.args.self.now c.self.view_is c.self.invariant c.deref.result.now c.deref.ensures.value h
    (record { zeros = c.height.ensures.zeros; last = c.height.ensures.last }) in
    c.in_ok-powers.ensures.none (count.none z)

pub rows-init : goal.rows-init
rows-init g c =
    let R = g.F.Field.ring in
    let met = g.met.F.Field in
    let rows : List (List g.row.F.Denot) = c.self.inside.rows.items in
    let h : ℕ = c.height.result in
    let count : IsRowCount R rows c.args.self.now h =
    row_count R g.F.Field.number met.number_nil met.same rows c.args.self.now c.self.view_is c.self.invariant c.deref.result.now c.deref.ensures.value h
    (record { zeros = c.height.ensures.zeros; last = c.height.ensures.last }) in
    let powers : List g.row.F.Denot = c.in_ok-powers.powers.items in
    let all : length powers ≡ h = c.in_ok-powers.ensures.count in
    record {
      count = subst (IsRowCount R rows c.args.self.now) (sym all) count;
      shifted = subst (IsShifted R rows (length powers) c.args.g 0) (sym c.in_ok-rows.ensures.items) (none_shifted R rows (length powers) c.args.g);
      products = omega (arith, c.in_ok-powers.ensures.products);
      none = λ z. c.in_ok-powers.ensures.none (sym all ∙ z);
    }

pub shifted_row-requires-clause-low : goal.shifted_row-requires-clause-low
shifted_row-requires-clause-low g c = omega (arith, ap length c.deref-in-rows-2.ensures.value, c.rows.invariant.count.low)

pub returns-in_err-shifted_row-clause-products : goal.returns-in_err-shifted_row-clause-products
returns-in_err-shifted_row-clause-products g c =
    let R = g.F.Field.ring in
    let met = g.met.F.Field in
    let rows : List (List g.row.F.Denot) = c.self.inside.rows.items in
    let powers : List g.row.F.Denot = c.in_ok-powers.powers.items in
    let q : Bivariate g.row.F.Denot = c.args.self.now in
    let m : ℕ = greatest x_power q + 1 in
    let inside : c.rows.h < length powers = omega (arith, c.len-h-end.ensures ∙ c.in_ok-powers.powers.ok.0) in
    let now : c.shifted_row.new.prods ≤ c.args.prods.now + (length powers + (c.rows.h + 1) * ((length powers - 1) * m)) =
    row_taken R rows c.deref-in-rows.result.now c.deref-in-rows.ensures.value powers c.deref-in-rows-2.result.now c.deref-in-rows-2.ensures.value m
    (λ i j l. nil_past R g.F.Field.number met.number_nil met.same met.field rows q i j c.self.view_is l)
    c.args.prods.now c.rows.prods c.shifted_row.new.prods c.rows.h c.rows.invariant.products c.shifted_row.ensures.products in
    last_products c.args.prods.now c.shifted_row.new.prods (length powers) (c.rows.h + 1) m (greatest y_power q + 1) (omega arith) c.rows.invariant.count.most (omega arith) now

pub returns-in_err-shifted_row-clause-none : goal.returns-in_err-shifted_row-clause-none
returns-in_err-shifted_row-clause-none g c z =
    let none : length c.in_ok-powers.powers.items ≡ 0 = c.rows.invariant.count.none z in
    absurd (omega (arith, c.len-h-end.ensures ∙ c.in_ok-powers.powers.ok.0))

pub returns-in_err-push-clause-products : goal.returns-in_err-push-clause-products
returns-in_err-push-clause-products g c =
    let R = g.F.Field.ring in
    let met = g.met.F.Field in
    let rows : List (List g.row.F.Denot) = c.self.inside.rows.items in
    let powers : List g.row.F.Denot = c.in_ok-powers.powers.items in
    let q : Bivariate g.row.F.Denot = c.args.self.now in
    let m : ℕ = greatest x_power q + 1 in
    let inside : c.rows.h < length powers = omega (arith, c.len-h-end.ensures ∙ c.in_ok-powers.powers.ok.0) in
    let now : c.shifted_row.new.prods ≤ c.args.prods.now + (length powers + (c.rows.h + 1) * ((length powers - 1) * m)) =
    row_taken R rows c.deref-in-rows.result.now c.deref-in-rows.ensures.value powers c.deref-in-rows-2.result.now c.deref-in-rows-2.ensures.value m
    (λ i j l. nil_past R g.F.Field.number met.number_nil met.same met.field rows q i j c.self.view_is l)
    c.args.prods.now c.rows.prods c.shifted_row.new.prods c.rows.h c.rows.invariant.products c.shifted_row.ensures.products in
    last_products c.args.prods.now c.shifted_row.new.prods (length powers) (c.rows.h + 1) m (greatest y_power q + 1) (omega arith) c.rows.invariant.count.most (omega arith) now

pub returns-in_err-push-clause-none : goal.returns-in_err-push-clause-none
returns-in_err-push-clause-none g c z =
    let none : length c.in_ok-powers.powers.items ≡ 0 = c.rows.invariant.count.none z in
    absurd (omega (arith, c.len-h-end.ensures ∙ c.in_ok-powers.powers.ok.0))

pub rows-preserved : goal.rows-preserved
rows-preserved g c =
    let R = g.F.Field.ring in
    let met = g.met.F.Field in
    let rows : List (List g.row.F.Denot) = c.self.inside.rows.items in
    let powers : List g.row.F.Denot = c.in_ok-powers.powers.items in
    let q : Bivariate g.row.F.Denot = c.args.self.now in
    let m : ℕ = greatest x_power q + 1 in
    let inside : c.rows.h < length powers = omega (arith, c.len-h-end.ensures ∙ c.in_ok-powers.powers.ok.0) in
    let now : c.shifted_row.new.prods ≤ c.args.prods.now + (length powers + (c.rows.h + 1) * ((length powers - 1) * m)) =
    row_taken R rows c.deref-in-rows.result.now c.deref-in-rows.ensures.value powers c.deref-in-rows-2.result.now c.deref-in-rows-2.ensures.value m
    (λ i j l. nil_past R g.F.Field.number met.number_nil met.same met.field rows q i j c.self.view_is l)
    c.args.prods.now c.rows.prods c.shifted_row.new.prods c.rows.h c.rows.invariant.products c.shifted_row.ensures.products in
    let are : ArePowers R c.args.g c.deref-in-rows-2.result.now = subst (ArePowers R c.args.g) (sym c.deref-in-rows-2.ensures.value) c.in_ok-powers.ensures.each in
    record {
      count = c.rows.invariant.count;
      shifted =
          subst (IsShifted R rows (length powers) c.args.g (c.rows.h + 1)) (sym c.in_ok-push.ensures.items)
          (row_shifted R rows (length powers) c.args.g c.rows.h c.rows.rows.items c.in_ok-shifted_row.field-0 c.rows.invariant.shifted c.in_ok-shifted_row.ensures.before
          (λ k.
          c.in_ok-shifted_row.ensures.from c.args.g are k
          ∙ ap₂ (λ (a : List (List g.row.F.Denot)) (b : List g.row.F.Denot). sum_below R (length b) (λ j. R.times (cell R a k j) (weight R c.args.g j c.rows.h)))
          c.deref-in-rows.ensures.value c.deref-in-rows-2.ensures.value));
      products = now;
      none = λ z. absurd (omega arith);
    }

pub invariant_of-result : goal.invariant_of-result
invariant_of-result g c =
    let R = g.F.Field.ring in
    let met = g.met.F.Field in
    let rows : List (List g.row.F.Denot) = c.self.inside.rows.items in
    let n : ℕ = length c.in_ok-powers.powers.items in
    let q : Bivariate g.row.F.Denot = c.args.self.now in
    let m : ℕ = greatest x_power q + 1 in
    let end : c.rows.h ≡ n = omega (arith, c.len-h-end.ensures ∙ c.in_ok-powers.powers.ok.0) in
    let all : IsShifted R rows n c.args.g n c.rows.rows.items = subst (λ t. IsShifted R rows n c.args.g t c.rows.rows.items) end c.rows.invariant.shifted in
    let past : (i j : ℕ) → m ≤ i → cell R rows i j ≡ R.nil = λ i j l. nil_past R g.F.Field.number met.number_nil met.same met.field rows q i j c.self.view_is l in
    shifted_limits R rows n c.args.g c.rows.rows.items all m past c.rows.invariant.count.low (omega (arith, c.requires, c.rows.invariant.count.most))

pub returns-clause-value : goal.returns-clause-value
returns-clause-value g c =
    let R = g.F.Field.ring in
    let met = g.met.F.Field in
    let rows : List (List g.row.F.Denot) = c.self.inside.rows.items in
    let n : ℕ = length c.in_ok-powers.powers.items in
    let q : Bivariate g.row.F.Denot = c.args.self.now in
    let m : ℕ = greatest x_power q + 1 in
    let end : c.rows.h ≡ n = omega (arith, c.len-h-end.ensures ∙ c.in_ok-powers.powers.ok.0) in
    let all : IsShifted R rows n c.args.g n c.rows.rows.items = subst (λ t. IsShifted R rows n c.args.g t c.rows.rows.items) end c.rows.invariant.shifted in
    let past : (i j : ℕ) → m ≤ i → cell R rows i j ≡ R.nil = λ i j l. nil_past R g.F.Field.number met.number_nil met.same met.field rows q i j c.self.view_is l in
    shifted_value R rows n c.args.g c.rows.rows.items all g.F.Field.number met.number_nil met.same q c.self.view_is m past c.rows.invariant.count.zeros

pub returns-clause-nonzero : goal.returns-clause-nonzero
returns-clause-nonzero g c =
    let R = g.F.Field.ring in
    let met = g.met.F.Field in
    let rows : List (List g.row.F.Denot) = c.self.inside.rows.items in
    let n : ℕ = length c.in_ok-powers.powers.items in
    let q : Bivariate g.row.F.Denot = c.args.self.now in
    let m : ℕ = greatest x_power q + 1 in
    let end : c.rows.h ≡ n = omega (arith, c.len-h-end.ensures ∙ c.in_ok-powers.powers.ok.0) in
    let all : IsShifted R rows n c.args.g n c.rows.rows.items = subst (λ t. IsShifted R rows n c.args.g t c.rows.rows.items) end c.rows.invariant.shifted in
    let past : (i j : ℕ) → m ≤ i → cell R rows i j ≡ R.nil = λ i j l. nil_past R g.F.Field.number met.number_nil met.same met.field rows q i j c.self.view_is l in
    shifted_nonzero R rows n c.args.g c.rows.rows.items all g.F.Field.number met.number_nil met.same q c.self.view_is m past c.rows.invariant.count.zeros

pub returns-clause-products : goal.returns-clause-products
returns-clause-products g c =
    let n : ℕ = length c.in_ok-powers.powers.items in
    let m : ℕ = greatest x_power c.args.self.now + 1 in
    let most : c.rows.h ≤ n = omega (arith, c.len-h-end.ensures ∙ c.in_ok-powers.powers.ok.0) in
    last_products c.args.prods.now c.rows.prods n c.rows.h m (greatest y_power c.args.self.now + 1) most c.rows.invariant.count.most (omega arith) c.rows.invariant.products

pub returns-clause-none : goal.returns-clause-none
returns-clause-none g c z = c.rows.invariant.none (c.rows.invariant.count.none z)
