use Rattle.std.proofs.Common.{◌-◌, ◌≤◌, arith}
use Rattle.algebra.specs.Bivariate.{greatest, x_power, y_power}
use Rattle.root_terms.specs.YRoots.{AreYRootLists}
use Rattle.root_terms.specs.Branches.{IsReduction}
use Rattle.rr_roots.proofs.Tops.{if_ok, degree_low, room, same_lists, narrow, whole_products}
use Rattle.rr_roots.proofs.roots.all_lists.Goals as goal

pub root_lists-requires-clause-room : goal.root_lists-requires-clause-room
root_lists-requires-clause-room g c =
    room (greatest x_power c.args.q.now) (greatest y_power c.args.q.now) c.args.k c.requires.x (degree_low c.args.q.now c.requires.nonzero c.in_ok-column.ensures.limits) c.requires.most_k

pub returns-then-is_some-clause-few : goal.returns-then-is_some-clause-few
returns-then-is_some-clause-few g c =
    c.root_lists.ensures.few (greatest y_power c.args.q.now) (omega (arith, c.requires.least_k)) (narrow g.F.Field.ring c.args.q.now c.args.q.now (omega arith))

pub returns-then-is_some-clause-products : goal.returns-then-is_some-clause-products
returns-then-is_some-clause-products g c e l =
    whole_products g.F.Field.ring c.args.q.now c.args.q.now (omega arith) c.args.k c.args.prods.now c.root_lists.new.prods e (omega (arith, c.requires.least_k)) l c.root_lists.ensures.products

pub root_lists-requires-2-clause-room : goal.root_lists-requires-2-clause-room
root_lists-requires-2-clause-room g c =
    let is : IsReduction g.F.Field.ring c.args.q.now c.in_ok-curve.curve = c.in_ok-curve.ensures in
    let low : greatest y_power c.args.q.now ≤ 4095 = degree_low c.args.q.now c.requires.nonzero c.in_ok-column.ensures.limits in
    room (greatest x_power c.in_ok-curve.curve) (greatest y_power c.in_ok-curve.curve) c.args.k (omega (arith, is.x, c.requires.x)) (omega (arith, is.y)) c.requires.most_k

pub returns-clause-these : goal.returns-clause-these
returns-clause-these g c =
    let R = g.F.Field.ring in
    let is : IsReduction R c.args.q.now c.in_ok-curve.curve = c.in_ok-curve.ensures in
    if_ok (λ lists. AreYRootLists R c.in_ok-curve.curve c.args.k lists.items) (λ lists. AreYRootLists R c.args.q.now c.args.k lists.items)
    (λ lists all. same_lists R c.args.q.now c.in_ok-curve.curve is c.args.k lists.items all) c.root_lists-2.result c.root_lists-2.ensures.these

pub returns-clause-few : goal.returns-clause-few
returns-clause-few g c =
    let is : IsReduction g.F.Field.ring c.args.q.now c.in_ok-curve.curve = c.in_ok-curve.ensures in
    c.root_lists-2.ensures.few (greatest y_power c.args.q.now) (omega (arith, c.requires.least_k)) (narrow g.F.Field.ring c.args.q.now c.in_ok-curve.curve is.y)

pub returns-clause-products : goal.returns-clause-products
returns-clause-products g c e l =
    let is : IsReduction g.F.Field.ring c.args.q.now c.in_ok-curve.curve = c.in_ok-curve.ensures in
    whole_products g.F.Field.ring c.args.q.now c.in_ok-curve.curve is.y c.args.k c.args.prods.now c.root_lists-2.new.prods e (omega (arith, c.requires.least_k)) (omega (arith, l, is.weight (c.args.k - 1)))
    c.root_lists-2.ensures.products
