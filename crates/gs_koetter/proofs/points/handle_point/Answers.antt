use Rattle.std.proofs.Common.{◌≡◌, ◌+◌, ◌*◌, ◌≤◌, length, ◌∙◌, sym, subst, arith}
use Rattle.decoding_terms.specs.Parameters.{term_count}
use Rattle.koetter_terms.specs.State.{Handled}
use Rattle.gs_koetter.specs.States.{IsState, derive_products, step_products}
use Rattle.gs_koetter.proofs.Deriving.{bare_after, shape_derived, state_derived}
use Rattle.gs_koetter.proofs.Stepping.{ended}
use Rattle.gs_koetter.proofs.points.handle_point.Goals as goal

pub derive_all-requires-clause-shape : goal.derive_all-requires-clause-shape
derive_all-requires-clause-shape g c j d is = let whole = c.requires.shape j d is in record { list = whole.list; orders = whole.orders }

pub derive_all-requires-clause-ended : goal.derive_all-requires-clause-ended
derive_all-requires-clause-ended g c j d is =
    let frame = c.args.frame.now in
    ended g.F.Field.ring frame.terms.w frame.terms.e frame.orders.e j c.args.curves.now c.args.curves.now d is c.requires.shape frame.terms.some_weight

pub handle_all-requires-clause-shape : goal.handle_all-requires-clause-shape
handle_all-requires-clause-shape g c =
    let frame = c.args.frame.now in
    shape_derived g.F.Field.ring frame.terms.w frame.terms.e frame.width frame.orders.e c.fill_squares.new.squares.items c.fill_squares-2.new.squares.items c.args.curves.now c.derive_all.new.curves c.derive_all.ensures.value c.requires.shape

pub returns-clause-state : goal.returns-clause-state
returns-clause-state g c i handled points at bare =
    let R = g.F.Field.ring in
    let frame = c.args.frame.now in
    let w = frame.terms.w in
    let e = frame.terms.e in
    let s = frame.orders.e in
    let n : length c.derive_all.new.curves ≡ frame.width = c.derive_all.ensures.count ∙ c.requires.count in
    let a = c.args.point.0 in
    let b = c.args.point.1 in
    let begun : IsState R w e frame.width s (Handled points s i 0) a b handled c.derive_all.new.curves =
    state_derived R w e frame.width s c.fill_squares.new.squares.items c.fill_squares-2.new.squares.items c.args.curves.now c.derive_all.new.curves c.derive_all.ensures.value (Handled points s i 0) a b handled
    c.fill_squares.ensures.squares c.fill_squares-2.ensures.squares bare in
    bare_after R w e frame.width s i (handled + term_count 1 s) points a b c.handle_all.new.curves
    (subst (λ k. IsState R w e k s (Handled points s i (term_count 1 s)) a b (handled + term_count 1 s) c.handle_all.new.curves) n
    (c.handle_all.ensures.state i handled points b at (subst (λ k. IsState R w e k s (Handled points s i 0) a b handled c.derive_all.new.curves) (sym n) begun)))

pub returns-clause-products : goal.returns-clause-products
returns-clause-products g c =
    let frame = c.args.frame.now in
    let w = frame.terms.w in
    let e = frame.terms.e in
    let s = frame.orders.e in
    let n : length c.derive_all.new.curves ≡ frame.width = c.derive_all.ensures.count ∙ c.requires.count in
    let derived : c.derive_all.new.prods ≤ c.fill_squares-2.new.prods + frame.width * derive_products e frame.width s =
    subst (λ k. c.derive_all.new.prods ≤ c.fill_squares-2.new.prods + k * derive_products e frame.width s) c.requires.count c.derive_all.ensures.products in
    let handled : c.handle_all.new.prods ≤ c.derive_all.new.prods + term_count 1 s * step_products w e s frame.width =
    subst (λ k. c.handle_all.new.prods ≤ c.derive_all.new.prods + term_count 1 s * step_products w e s k) n c.handle_all.ensures.products in
    omega (arith, derived, handled, c.fill_squares.ensures.products, c.fill_squares-2.ensures.products, c.requires.scratch.xs, c.requires.scratch.ys, frame.xs.few, frame.ys.few, frame.x_rows, frame.y_rows)
