use Rattle.std.proofs.Common.{◌≡◌, inl, inr, ℕ, ◌+◌, ◌<◌, ◌≤◌, List, [], length, get_or, set, ap, ◌∙◌, arith}
use Rattle.std.proofs.lemmas.Bool.{cases_lt}
use Rattle.std.proofs.lemmas.List.{get_or_default, length-set}
use Rattle.algebra.specs.Lists.{coefficients}
use Rattle.bi_poly.specs.Rows.{row_at}
use Rattle.bi_poly.proofs.Heights.{trimmed_room}
use Rattle.bi_poly.proofs.Adding.{AreAdded, added_row, room_kept, total_more}
use Rattle.bi_poly.proofs.multiples.add_rows.Goals as goal

pub add_shifted-requires : goal.add_shifted-requires
add_shifted-requires g c =
    let R = g.F.Field.ring in
    let met = g.met.F.Field in
    let j : ℕ = c.rows.j in
    let other : c.index-others-j.result ≡ get_or c.args.others.now j [] = c.index-others-j.is ∙ get_or_default c.args.others.now j c.index-others-j.result [] (omega arith) in
    let row : c.index_mut.result.now ≡ get_or c.rows.rows.items j [] = c.index_mut.ensures.value ∙ get_or_default c.rows.rows.items j c.index_mut.result.now [] (omega (arith, c.rows.invariant.count)) in
    let room : length c.trimmed.result.now ≤ length (row_at c.rows.rows.items j) =
    trimmed_room R g.F.Field.number met.number_nil met.same c.index-others-j.result c.trimmed.result.now (length (row_at c.rows.rows.items j)) c.trimmed.ensures
    (λ i o. c.rows.invariant.room i j (omega arith) (λ z. o (ap (λ (t : List g.row.F.Denot). coefficients R t i) other ∙ z))) in
    omega (arith, ap length row)

pub rows-preserved : goal.rows-preserved
rows-preserved g c =
    let R = g.F.Field.ring in
    let met = g.met.F.Field in
    let j : ℕ = c.rows.j in
    let rows = c.rows.rows.items in
    let inside : j < length rows = omega (arith, c.rows.invariant.count) in
    let other : c.index-others-j.result ≡ get_or c.args.others.now j [] = c.index-others-j.is ∙ get_or_default c.args.others.now j c.index-others-j.result [] (omega arith) in
    let row : c.index_mut.result.now ≡ get_or rows j [] = c.index_mut.ensures.value ∙ get_or_default rows j c.index_mut.result.now [] inside in
    let done : AreAdded R g.F.Field.number met.number_nil met.same c.args.rows.now.items c.args.others.now c.args.factor (j + 1) (set rows j c.add_shifted.new.self) =
    added_row R g.F.Field.number met.number_nil met.same c.args.rows.now.items c.args.others.now rows c.args.factor j c.add_shifted.new.self c.index-others-j.result c.trimmed.result.now inside
    (record { sums = c.rows.invariant.sums; rest = c.rows.invariant.same }) other c.trimmed.ensures
    (λ k. c.add_shifted.ensures.from k ∙ ap (λ (t : List g.row.F.Denot). R.plus (coefficients R t (0 + k)) (R.times c.args.factor (coefficients R c.trimmed.result.now k))) row) in
    record {
      sums = done.sums;
      same = done.rest;
      count = length-set rows j c.add_shifted.new.self ∙ c.rows.invariant.count;
      room = room_kept R g.F.Field.number met.number_nil met.same c.args.others.now rows c.args.count j c.add_shifted.new.self inside (c.add_shifted.ensures.length ∙ ap length row) c.rows.invariant.room;
      none = λ e. absurd (omega arith);
      products = λ most past.
          let few : length c.trimmed.result.now ≤ most j =
          trimmed_room R g.F.Field.number met.number_nil met.same c.index-others-j.result c.trimmed.result.now (most j) c.trimmed.ensures
          (λ i o. elim (cases_lt i (most j)) [ inl l ↦ l | inr l ↦ absurd (o (ap (λ (t : List g.row.F.Denot). coefficients R t i) other ∙ past i j l)) ]) in
          omega (arith, total_more j most, c.add_shifted.ensures.products, c.rows.invariant.products most past);
    }
