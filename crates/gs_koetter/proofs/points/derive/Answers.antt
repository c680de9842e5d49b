use Rattle.gs_koetter.specs.Shapes.{coefs_of}
use Rattle.std.proofs.Common.{◌≡◌, ◌+◌, ◌*◌, length, drop, get_or, refl, ◌∙◌, sym, ap, subst, arith}
use Rattle.algebra.specs.Lists.{coefficients}
use Rattle.term_lists.specs.Places.{place}
use Rattle.gs_koetter.specs.Tables.{AreSquares}
use Rattle.decoding_terms.specs.Parameters.{term_count}
use Rattle.koetter_terms.specs.Curves.{IsTile, curve}
use Rattle.gs_koetter.proofs.Deriving.{derived_tile, front_same}
use Rattle.gs_koetter.proofs.Ending.{written_back}
use Rattle.gs_koetter.proofs.Laying.{cell_inside}
use Rattle.gs_koetter.proofs.Splitting.{enough_rows, span_is, wide_enough}
use Rattle.gs_koetter.proofs.points.derive.Goals as goal

pub expand-requires-2-clause-room : goal.expand-requires-2-clause-room
expand-requires-2-clause-room g c =
    let frame = c.args.frame.now in
    let long : length c.shift.new.target ≡ frame.width * frame.orders.e = c.shift.ensures.length ∙ ap length c.as_mut_slice-turned.ensures.value ∙ c.requires.scratch.turned in
    wide_enough frame.ys frame.width frame.orders.e (length c.shift.new.target) long frame.y_rows frame.y_width

pub returns-clause-value : goal.returns-clause-value
returns-clause-value g c =
    let R = g.F.Field.ring in
    let frame = c.args.frame.now in
    let old = c.args.curve.now in
    let w = frame.terms.w in
    let e = frame.terms.e in
    let n = frame.width in
    let s = frame.orders.e in
    let p = length c.deref-2.result.now in
    let q = length c.deref-4.result.now in
    let p_is : p ≡ frame.xs.count = ap length c.deref-2.ensures.value ∙ c.requires.scratch.xs in
    let q_is : q ≡ frame.ys.count = ap length c.deref-4.ensures.value ∙ c.requires.scratch.ys in
    let orders : old.orders ≡ term_count 1 s = c.requires.curve.orders in
    let back = written_back c.pick_front.new.list (drop (length c.pick_front.new.list) old.list.items) old.list.len (omega (arith, c.pick_front.ensures.length, ap length c.deref_mut.ensures.value, old.list.ok.0)) in
    record {
      coefs = ap (drop old.orders) back ∙ ap (λ k. drop k c.pick_front.new.list) orders ∙ c.pick_front.ensures.rest ∙ ap (λ x. drop (term_count 1 s) x) c.deref_mut.ensures.value ∙ ap (λ k. drop k old.list.items) (sym orders);
      orders = refl;
      len = refl;
      exponent = refl;
      long = ap length back ∙ c.pick_front.ensures.length ∙ ap length c.deref_mut.ensures.value;
      tile = λ a b xs ys.
          subst (λ x. IsTile R e n s (curve R w (coefs_of old)) a b x) (sym back)
          (derived_tile R w e n s p q (coefs_of old) c.lay_out.new.table c.expand.new.table c.shift.new.target c.expand-2.new.table c.pick_front.new.list a b
          (enough_rows frame.xs p e p_is frame.x_rows)
          (enough_rows frame.ys q n q_is frame.y_rows)
          (c.lay_out.ensures.length ∙ ap length c.as_mut_slice-table.ensures.value ∙ c.requires.scratch.table)
          (c.shift.ensures.length ∙ ap length c.as_mut_slice-turned.ensures.value ∙ c.requires.scratch.turned)
          (λ i j l m. c.lay_out.ensures.entries i j l m ∙ front_same R old c.deref.result.now c.deref.ensures.value c.requires.ended (place w i j))
          (λ u j l m. c.expand.ensures.value a n (subst (AreSquares R a) (sym c.deref-2.ensures.value) xs) (span_is frame.xs p n p_is frame.x_width) u j l m)
          (λ u j l m.
          let inside = cell_inside n s j u m l in
          let turns : c.deref-3.result.now ≡ frame.turns.items = c.deref-3.ensures.value in
          c.shift.ensures.each (j * s + u) (omega (arith, inside, ap length turns, frame.turned.count))
          ∙ ap (coefficients R c.expand.new.table) (ap (λ t. get_or t (j * s + u) 0) turns ∙ frame.turned.each j u m l))
          (λ v u l m. c.expand-2.ensures.value b s (subst (AreSquares R b) (sym c.deref-4.ensures.value) ys) (span_is frame.ys q s q_is frame.y_width) v u l m)
          c.pick_front.ensures.each);
    }

pub returns-clause-products : goal.returns-clause-products
returns-clause-products g c =
    let frame = c.args.frame.now in
    let e = frame.terms.e in
    let n = frame.width in
    let s = frame.orders.e in
    let p = length c.deref-2.result.now in
    let q = length c.deref-4.result.now in
    let p_is : p ≡ frame.xs.count = ap length c.deref-2.ensures.value ∙ c.requires.scratch.xs in
    let q_is : q ≡ frame.ys.count = ap length c.deref-4.ensures.value ∙ c.requires.scratch.ys in
    let x : s * length c.lay_out.new.table ≡ s * (e * n) = ap (λ k. s * k) (c.lay_out.ensures.length ∙ ap length c.as_mut_slice-table.ensures.value ∙ c.requires.scratch.table) in
    let y : s * length c.shift.new.target ≡ s * (n * s) = ap (λ k. s * k) (c.shift.ensures.length ∙ ap length c.as_mut_slice-turned.ensures.value ∙ c.requires.scratch.turned) in
    let first = c.expand.ensures.products n s (span_is frame.xs p n p_is frame.x_width) (omega arith) in
    let second = c.expand-2.ensures.products s s (span_is frame.ys q s q_is frame.y_width) (omega arith) in
    omega (arith, first, second, x, y)
