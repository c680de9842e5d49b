use Rattle.std.proofs.Common.{◌≡◌, ◌+◌, ◌*◌, ◌/◌, ◌^◌, ◌≤◌, ◌++◌, length, drop, refl, ◌∙◌, sym, ap, subst, arith}
use Rattle.koetter_terms.specs.Derivatives.{derivative}
use Rattle.gs_koetter.specs.Tables.{entry}
use Rattle.gs_koetter.proofs.Halves.{one_value}
use Rattle.gs_koetter.proofs.Prefixes.{take_length}
use Rattle.gs_koetter.proofs.Splitting.{half_span, halved, halves_products, halves_value, lengths, next_count, short_value, squares_front, squares_last, summed_front, summed_length}
use Rattle.gs_koetter.proofs.expanding.+expand.Goals as goal

pub returns-in_default-clause-value : goal.returns-in_default-clause-value
returns-in_default-clause-value g t c a width are is u j l m =
    let none : length c.args.squares.now ≡ 0 = c.in_default.ensures.cases in
    let one : 2 ^ length c.args.squares.now * width ≡ 2 ^ 0 * width = ap (λ k. 2 ^ k * width) none in
    one_value g.F.Field.ring (length c.args.squares.now) width u j c.args.table.now a none (omega (arith, is, one, c.requires.room)) l

pub expand-requires : goal.expand-requires
expand-requires g t c κs within =
    let count = next_count c.in-Some.lower.now c.args.squares.now c.in-Some.power.now c.in-Some.ensures.cases.0 in
    (omega (arith, c.decreases, count), (within.0, (within.1, (c.if-table-half.true, halved (length c.in-Some.lower.now) (length c.args.squares.now) c.args.span count c.requires.even))))

pub returns-then-table-half-clause-value : goal.returns-then-table-half-clause-value
returns-then-table-half-clause-value g t c a width are is u j l m =
    let R = g.F.Field.ring in
    let n = length c.in-Some.lower.now in
    let count = next_count c.in-Some.lower.now c.args.squares.now c.in-Some.power.now c.in-Some.ensures.cases.0 in
    let half = (half_span n (length c.args.squares.now) c.args.span width count is).0 in
    c.expand.ensures.value a width (squares_front R a c.in-Some.power.now c.in-Some.lower.now c.args.squares.now c.in-Some.ensures.cases.0 are) half u j l m
    ∙ short_value R n width u j c.args.table.now a (omega (arith, half, c.if-table-half.true))
    ∙ sym (ap (λ k. derivative R (2 ^ k) (λ i. entry R width c.args.table.now i j) a u) count)

pub returns-then-table-half-clause-products : goal.returns-then-table-half-clause-products
returns-then-table-half-clause-products g t c width rows is most =
    let count = next_count c.in-Some.lower.now c.args.squares.now c.in-Some.power.now c.in-Some.ensures.cases.0 in
    c.expand.ensures.products width rows (half_span (length c.in-Some.lower.now) (length c.args.squares.now) c.args.span width count is).0 most

pub slice_bounds-add_front-end : goal.slice_bounds-add_front-end
slice_bounds-add_front-end g t c =
    let count = next_count c.in-Some.lower.now c.args.squares.now c.in-Some.power.now c.in-Some.ensures.cases.0 in
    let even = (half_span (length c.in-Some.lower.now) (length c.args.squares.now) c.args.span c.requires.even.0 count c.requires.even.1).1 in
    let long = lengths (c.args.span / 2) c.args.span c.args.table.now c.split_at_mut-low.result.0.now c.split_at_mut-low.result.1.now c.split_at_mut-low.ensures.front c.split_at_mut-low.ensures.back c.if-table-half.false c.requires.room even in
    omega (arith, long.0, long.1)

pub slice_bounds-add_front-end-2 : goal.slice_bounds-add_front-end-2
slice_bounds-add_front-end-2 g t c =
    let count = next_count c.in-Some.lower.now c.args.squares.now c.in-Some.power.now c.in-Some.ensures.cases.0 in
    let even = (half_span (length c.in-Some.lower.now) (length c.args.squares.now) c.args.span c.requires.even.0 count c.requires.even.1).1 in
    let long = lengths (c.args.span / 2) c.args.span c.args.table.now c.split_at_mut-low.result.0.now c.split_at_mut-low.result.1.now c.split_at_mut-low.ensures.front c.split_at_mut-low.ensures.back c.if-table-half.false c.requires.room even in
    sym (take_length (length c.split_at_mut-low.result.1.now) c.split_at_mut-low.result.0.now (omega (arith, long.0, long.1)))

pub add_front-requires-clause-room : goal.add_front-requires-clause-room
add_front-requires-clause-room g t c =
    let count = next_count c.in-Some.lower.now c.args.squares.now c.in-Some.power.now c.in-Some.ensures.cases.0 in
    let even = (half_span (length c.in-Some.lower.now) (length c.args.squares.now) c.args.span c.requires.even.0 count c.requires.even.1).1 in
    let long = lengths (c.args.span / 2) c.args.span c.args.table.now c.split_at_mut-low.result.0.now c.split_at_mut-low.result.1.now c.split_at_mut-low.ensures.front c.split_at_mut-low.ensures.back c.if-table-half.false c.requires.room even in
    sym (take_length (length c.split_at_mut-low.result.1.now) c.split_at_mut-low.result.0.now (omega (arith, long.0, long.1)))

pub expand-requires-2 : goal.expand-requires-2
expand-requires-2 g t c κs within =
    let count = next_count c.in-Some.lower.now c.args.squares.now c.in-Some.power.now c.in-Some.ensures.cases.0 in
    let even = (half_span (length c.in-Some.lower.now) (length c.args.squares.now) c.args.span c.requires.even.0 count c.requires.even.1).1 in
    let long = lengths (c.args.span / 2) c.args.span c.args.table.now c.split_at_mut-low.result.0.now c.split_at_mut-low.result.1.now c.split_at_mut-low.ensures.front c.split_at_mut-low.ensures.back c.if-table-half.false c.requires.room even in
    let kept = summed_length (length c.split_at_mut-low.result.1.now) c.split_at_mut-low.result.0.now c.add_front.new.target c.add_front.ensures.length (omega (arith, long.0, long.1)) in
    (omega (arith, c.decreases, count), (within.0, (within.1, (omega (arith, kept, long.0), halved (length c.in-Some.lower.now) (length c.args.squares.now) c.args.span count c.requires.even))))

pub expand-requires-3 : goal.expand-requires-3
expand-requires-3 g t c κs within =
    let count = next_count c.in-Some.lower.now c.args.squares.now c.in-Some.power.now c.in-Some.ensures.cases.0 in
    let even = (half_span (length c.in-Some.lower.now) (length c.args.squares.now) c.args.span c.requires.even.0 count c.requires.even.1).1 in
    let long = lengths (c.args.span / 2) c.args.span c.args.table.now c.split_at_mut-low.result.0.now c.split_at_mut-low.result.1.now c.split_at_mut-low.ensures.front c.split_at_mut-low.ensures.back c.if-table-half.false c.requires.room even in
    (omega (arith, c.decreases, count), (within.0, (within.1, (long.1, halved (length c.in-Some.lower.now) (length c.args.squares.now) c.args.span count c.requires.even))))

pub returns-clause-value : goal.returns-clause-value
returns-clause-value g t c a width are is u j l m =
    let R = g.F.Field.ring in
    let n = length c.in-Some.lower.now in
    let low = c.split_at_mut-low.result.0.now in
    let high = c.split_at_mut-low.result.1.now in
    let count = next_count c.in-Some.lower.now c.args.squares.now c.in-Some.power.now c.in-Some.ensures.cases.0 in
    let span = half_span n (length c.args.squares.now) c.args.span width count is in
    let long = lengths (c.args.span / 2) c.args.span c.args.table.now low high c.split_at_mut-low.ensures.front c.split_at_mut-low.ensures.back c.if-table-half.false c.requires.room span.1 in
    let lower = squares_front R a c.in-Some.power.now c.in-Some.lower.now c.args.squares.now c.in-Some.ensures.cases.0 are in
    let room : length high ≤ length low = omega (arith, long.0, long.1) in
    let kept = summed_length (length high) low c.add_front.new.target c.add_front.ensures.length room in
    halves_value R n width (c.args.span / 2) c.args.wanted c.args.table.now low high (c.add_front.new.target ++ drop (length high) low) c.expand-2.new.table c.expand-3.new.table a c.in-Some.power.now
    span.0 c.split_at_mut-low.ensures.front c.split_at_mut-low.ensures.back
    (summed_front R (length high) c.in-Some.power.now low high c.add_front.new.target refl room c.add_front.ensures.length c.add_front.ensures.sum)
    (squares_last R a c.in-Some.power.now c.in-Some.lower.now c.args.squares.now c.in-Some.ensures.cases.0 are)
    (c.expand-2.ensures.length ∙ kept ∙ long.0)
    (c.expand-2.ensures.value a width lower span.0)
    (λ v k s p. c.expand-3.ensures.value a width lower span.0 v k s (omega (arith, p, c.saturating_sub.ensures)))
    u j l m
    ∙ sym (ap (λ k. derivative R (2 ^ k) (λ i. entry R width c.args.table.now i j) a u) count)

pub returns-clause-products : goal.returns-clause-products
returns-clause-products g t c width rows is most =
    let n = length c.in-Some.lower.now in
    let low = c.split_at_mut-low.result.0.now in
    let high = c.split_at_mut-low.result.1.now in
    let count = next_count c.in-Some.lower.now c.args.squares.now c.in-Some.power.now c.in-Some.ensures.cases.0 in
    let span = half_span n (length c.args.squares.now) c.args.span width count is in
    let long = lengths (c.args.span / 2) c.args.span c.args.table.now low high c.split_at_mut-low.ensures.front c.split_at_mut-low.ensures.back c.if-table-half.false c.requires.room span.1 in
    let room : length high ≤ length low = omega (arith, long.0, long.1) in
    let kept = summed_length (length high) low c.add_front.new.target c.add_front.ensures.length room in
    halves_products c.args.wanted (c.args.span / 2) rows width n (length low) (length high) (length c.args.table.now) c.args.prods.now c.add_front.new.prods c.expand-2.new.prods c.expand-3.new.prods
    c.if-wanted-eq0.false span.0 most long.2 c.add_front.ensures.products
    (λ k p. subst (λ x. c.expand-2.new.prods ≤ c.add_front.new.prods + k * x) kept (c.expand-2.ensures.products width k span.0 p))
    (λ k p. c.expand-3.ensures.products width k span.0 (omega (arith, p, c.saturating_sub.ensures)))
