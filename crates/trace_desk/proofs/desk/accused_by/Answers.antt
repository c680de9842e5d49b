use Rattle.std.proofs.Common.{◌≡◌, sym, ap, ap₂, ◌∙◌, length, Ok, arith}
use Rattle.list_decode.specs.Answers.{recovering}
use Rattle.trace_desk.proofs.Tracing.{messages_below, messages_apart, traced, products_enough}
use Rattle.shown_pairs.proofs.Walking.{few_elements}
use Rattle.trace_desk.proofs.desk.accused_by.Goals as goal

pub returns-in_err-messages-clause-products : goal.returns-in_err-messages-clause-products
returns-in_err-messages-clause-products g c curve most = omega (arith, c.recover.ensures.products curve most)

pub known-requires-clause-messages : goal.known-requires-clause-messages
known-requires-clause-messages g c =
    messages_below g.F.Field.BITS c.args.code.now.dimension c.args.pairs.now c.args.c c.in_ok-messages.messages c.as_slice.result.now c.in_ok-messages.ensures.recovered c.as_slice.ensures

pub known-requires-clause-apart : goal.known-requires-clause-apart
known-requires-clause-apart g c =
    messages_apart g.F.Field.BITS c.args.code.now.dimension c.args.pairs.now c.args.c c.in_ok-messages.messages c.as_slice.result.now c.in_ok-messages.ensures.recovered c.as_slice.ensures

pub returns-in_err-accused-clause-products : goal.returns-in_err-accused-clause-products
returns-in_err-accused-clause-products g c curve most =
    products_enough (length c.args.pairs.now) c.args.code.now.places c.args.code.now.dimension c.args.c curve (length c.as_slice.result.now) c.args.prods.now c.recover.new.prods c.known.new.prods (omega (arith, c.n-places.ensures.value, c.n-places.ensures.range.1, few_elements g.F.Field.Q g.F.Field.BITS g.met.F.Field.size g.met.F.Field.most_bits))
    (omega (arith, ap length c.as_slice.ensures, c.in_ok-messages.ensures.few)) (c.recover.ensures.products curve most) c.known.ensures.products

pub returns-in_err-sort_by_serial-clause-products : goal.returns-in_err-sort_by_serial-clause-products
returns-in_err-sort_by_serial-clause-products g c curve most =
    products_enough (length c.args.pairs.now) c.args.code.now.places c.args.code.now.dimension c.args.c curve (length c.as_slice.result.now) c.args.prods.now c.recover.new.prods c.known.new.prods (omega (arith, c.n-places.ensures.value, c.n-places.ensures.range.1, few_elements g.F.Field.Q g.F.Field.BITS g.met.F.Field.size g.met.F.Field.most_bits))
    (omega (arith, ap length c.as_slice.ensures, c.in_ok-messages.ensures.few)) (c.recover.ensures.products curve most) c.known.ensures.products

pub returns-clause-accused : goal.returns-clause-accused
returns-clause-accused g c =
    let roll = g.B.Book.roll c.args.book.now in
    let decoded : recovering roll.bits roll.dimension c.args.pairs.now c.args.c ≡ Ok c.in_ok-messages.messages =
    sym (ap₂ (λ m k. recovering m k c.args.pairs.now c.args.c) c.requires.bits c.requires.dimension) ∙ c.in_ok-messages.ensures.recovered in
    traced roll c.bits-bits.ensures.kept c.args.pairs.now c.args.c c.in_ok-messages.messages c.as_slice.result.now c.in_ok-accused.accused.items c.sort_by_serial.new.accused.items c.over.result
    decoded c.as_slice.ensures c.in_ok-accused.ensures.known c.sort_by_serial.ensures.permutation c.in_ok-sort_by_serial.ensures.sorted c.over.ensures

pub returns-clause-products : goal.returns-clause-products
returns-clause-products g c curve most =
    products_enough (length c.args.pairs.now) c.args.code.now.places c.args.code.now.dimension c.args.c curve (length c.as_slice.result.now) c.args.prods.now c.recover.new.prods c.known.new.prods (omega (arith, c.n-places.ensures.value, c.n-places.ensures.range.1, few_elements g.F.Field.Q g.F.Field.BITS g.met.F.Field.size g.met.F.Field.most_bits))
    (omega (arith, ap length c.as_slice.ensures, c.in_ok-messages.ensures.few)) (c.recover.ensures.products curve most) c.known.ensures.products
