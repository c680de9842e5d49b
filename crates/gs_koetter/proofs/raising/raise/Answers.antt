use Rattle.std.proofs.Common.{suc, ◌+◌, ◌*◌, length, drop, ◌∙◌, ap, arith}
use Rattle.algebra.specs.Lists.{coefficients}
use Rattle.decoding_terms.specs.Parameters.{term_count}
use Rattle.term_lists.proofs.Ordered.{place_below}
use Rattle.gs_koetter.proofs.Ending.{written_back}
use Rattle.gs_koetter.proofs.Parts.{past_end}
use Rattle.gs_koetter.proofs.Raised.{product_of, raised_len, raised_shape}
use Rattle.gs_koetter.proofs.Runs.{earlier_runs, runs_reach, runs_weigh}
use Rattle.gs_koetter.proofs.raising.raise.Goals as goal

pub raise_list-requires-clause-low : goal.raise_list-requires-clause-low
raise_list-requires-clause-low g c =
    let frame = c.args.frame.now in
    omega (arith, runs_weigh frame.terms.w frame.terms.some_weight (c.args.curve.now.exponent + frame.terms.w * c.args.j), c.requires.light, frame.terms.low, frame.few_weights)

pub raise_list-requires-clause-room : goal.raise_list-requires-clause-room
raise_list-requires-clause-room g c =
    let frame = c.args.frame.now in
    let old = c.args.curve.now in
    let next = raised_len frame.terms.w old.exponent c.args.j old.len frame.terms.some_weight c.requires.shape.len in
    let below = place_below frame.terms.w frame.terms.e (suc old.exponent) c.args.j frame.terms.some_weight (omega (arith, c.requires.light)) in
    omega (arith, next, below, ap length c.deref.ensures.value, c.requires.shape.list)

pub raise_list-requires-clause-last : goal.raise_list-requires-clause-last
raise_list-requires-clause-last g c q l =
    let frame = c.args.frame.now in
    omega (arith, earlier_runs frame.terms.w frame.terms.some_weight c.args.curve.now.exponent c.args.j q l, c.requires.shape.len)

pub raise_list-requires-clause-all : goal.raise_list-requires-clause-all
raise_list-requires-clause-all g c =
    let frame = c.args.frame.now in
    omega (arith, runs_reach frame.terms.w frame.terms.some_weight c.args.curve.now.exponent c.args.j, c.requires.shape.len)

pub raise_list-requires-clause-rest : goal.raise_list-requires-clause-rest
raise_list-requires-clause-rest g c k l =
    let old = c.args.curve.now in
    ap (λ t. coefficients g.F.Field.ring t k) c.deref.ensures.value
    ∙ past_end g.F.Field.ring old (λ i m. c.requires.shape.ends i (omega (arith, c.requires.shape.len, m))) k (omega (arith, l, c.requires.shape.orders))

pub returns-clause-product : goal.returns-clause-product
returns-clause-product g c =
    let R = g.F.Field.ring in
    let frame = c.args.frame.now in
    let spare = c.args.spare.now in
    product_of R (term_count 1 frame.orders.e) frame.terms.quotients.items frame.orders.quotients.items c.args.a c.args.curve.now _ c.deref.result.now c.raise_list.new.target c.requires.shape.orders c.requires.shape.orders
    c.deref.ensures.value
    (ap (λ v. v.items) c.swap.ensures.x_after
    ∙ written_back c.raise_list.new.target (drop (length c.raise_list.new.target) spare.list.items) spare.list.len (omega (arith, c.raise_list.ensures.length, ap length c.deref_mut.ensures.value, spare.list.ok.0)))
    c.raise_list.ensures.tile c.raise_list.ensures.coefs (omega arith)

pub returns-clause-shape : goal.returns-clause-shape
returns-clause-shape g c =
    let R = g.F.Field.ring in
    let frame = c.args.frame.now in
    let spare = c.args.spare.now in
    raised_shape R frame.terms.w frame.terms.e frame.orders.e c.args.j frame.terms.quotients.items frame.terms.terms.items c.args.a c.args.curve.now _ frame.terms.some_weight frame.terms.quotients_are frame.terms.terms_are c.requires.shape
    (ap (λ v. length v.items) c.swap.ensures.x_after
    ∙ ap length (written_back c.raise_list.new.target (drop (length c.raise_list.new.target) spare.list.items) spare.list.len (omega (arith, c.raise_list.ensures.length, ap length c.deref_mut.ensures.value, spare.list.ok.0)))
    ∙ c.raise_list.ensures.length ∙ ap length c.deref_mut.ensures.value ∙ c.requires.spare.list)
    c.requires.shape.orders
    (returns-clause-product g c).coefs (omega arith) (omega arith) (omega (arith, c.requires.light))

pub returns-clause-products : goal.returns-clause-products
returns-clause-products g c =
    let frame = c.args.frame.now in
    let below = place_below frame.terms.w frame.terms.e c.args.curve.now.exponent c.args.j frame.terms.some_weight c.requires.shape.light in
    omega (arith, below, c.requires.shape.len, c.raise_list.ensures.products)
