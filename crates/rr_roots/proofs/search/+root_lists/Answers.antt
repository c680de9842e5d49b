use Rattle.std.proofs.Common.{◌≡◌, ℕ, ◌+◌, ◌-◌, ◌*◌, ◌<◌, ◌≤◌, List, ◌∷◌, map, length, sym, ◌∙◌, ap, subst, arith}
use Rattle.std.proofs.lemmas.List.{length-append, length-map}
use Rattle.algebra.specs.Series.{value}
use Rattle.algebra.specs.Lists.{coefficients}
use Rattle.algebra.specs.Bivariate.{Bivariate, greatest, weight_by, y_power}
use Rattle.root_terms.specs.Branches.{at_zero}
use Rattle.root_terms.proofs.Searches.{AreFound, none_found}
use Rattle.root_terms.proofs.Costs.{IsSpent, none_spent}
use Rattle.rr_roots.proofs.Branching.{shift_cost}
use Rattle.rr_roots.proofs.Nodes.{IsNode, node_of, constant_is, constant_root, branch_lists, branch_room, node_lists, few_found, node_bound, few_elements, early_products, after_shift, after_branch}
use Rattle.rr_roots.proofs.search.+root_lists.Goals as goal

pub returns-in_err-constants-clause-products : goal.returns-in_err-constants-clause-products
returns-in_err-constants-clause-products g t c d y e narrow l m =
    let met = g.met.F.Field in
    early_products g.row.F.Denot g.F.Field.ring c.args.q.now c.in_ok-column.column c.in_ok-column.ensures.value g.F.Field.Q c.args.prods.now c.roots.new.prods c.args.count d y e (omega arith)
    (few_elements g.F.Field.Q g.F.Field.BITS met.size met.most_bits) narrow c.roots.ensures.products

pub constants-init : goal.constants-init
constants-init g t c =
    let R = g.F.Field.ring in
    let q : Bivariate g.row.F.Denot = c.args.q.now in
    let items : List g.row.F.Denot = c.constants-2.inside.items.items in
    record {
      found = subst (AreFound R q (c.args.count - 1) items 0) (sym c.new-found.ensures.items) (none_found R q (c.args.count - 1) items);
      spent = λ y e l m.
          subst (λ (s : List (List g.row.F.Denot)). IsSpent R q items 0 (c.args.count - 1) (length s) (e * (y * y)) c.roots.new.prods c.roots.new.prods) (sym c.new-found.ensures.items)
          (none_spent R q items (c.args.count - 1) (e * (y * y)) c.roots.new.prods c.roots.new.prods (omega arith));
    }

pub branch-q-requires-clause-root : goal.branch-q-requires-clause-root
branch-q-requires-clause-root g t c =
    let R = g.F.Field.ring in
    let met = g.met.F.Field in
    let number : g.row.F.Denot → ℕ = g.F.Field.number in
    let q : Bivariate g.row.F.Denot = c.args.q.now in
    let list : List g.row.F.Denot = c.in_ok-column.column in
    let items : List g.row.F.Denot = c.constants-2.inside.items.items in
    let node : IsNode R q number list items = node_of R q number list items c.in_ok-constants.constants c.in_ok-column.ensures.value c.constants-2.view_is c.in_ok-constants.ensures.value c.in_ok-constants.ensures.few c.requires.reduced in
    let inside : c.constants.n < length items = omega (arith, ap length c.constants-2.view_is, c.len-n-end.ensures, c.constants-test.true) in
    let same : c.index-as_slice-n.result ≡ coefficients R items c.constants.n =
    constant_is R q items c.in_ok-constants.constants c.as_slice.result.now c.constants.n c.index-as_slice-n.result c.constants-2.view_is c.as_slice.ensures inside c.index-as_slice-n.is in
    ap (value R (greatest y_power q + 1) (at_zero R q)) same ∙ constant_root R q number list items node.of node.roots c.constants.n inside

pub returns-in_err-child-clause-products : goal.returns-in_err-child-clause-products
returns-in_err-child-clause-products g t c d y e narrow l m =
    let R = g.F.Field.ring in
    let met = g.met.F.Field in
    let number : g.row.F.Denot → ℕ = g.F.Field.number in
    let q : Bivariate g.row.F.Denot = c.args.q.now in
    let list : List g.row.F.Denot = c.in_ok-column.column in
    let items : List g.row.F.Denot = c.constants-2.inside.items.items in
    let node : IsNode R q number list items = node_of R q number list items c.in_ok-constants.constants c.in_ok-column.ensures.value c.constants-2.view_is c.in_ok-constants.ensures.value c.in_ok-constants.ensures.few c.requires.reduced in
    let small : g.F.Field.Q ≤ 256 = few_elements g.F.Field.Q g.F.Field.BITS met.size met.most_bits in
    let inside : c.constants.n < length items = omega (arith, ap length c.constants-2.view_is, c.len-n-end.ensures, c.constants-test.true) in
    let spent : IsSpent R q items (c.constants.n + 1) (c.args.count - 1) (length c.constants.found.items + 0) (e * (y * y)) c.roots.new.prods c.branch-q.new.prods =
    after_shift R q items c.constants.n (c.args.count - 1) (length c.constants.found.items) (e * (y * y)) c.roots.new.prods c.constants.prods c.branch-q.new.prods (c.constants.invariant.spent y e l m)
    (omega (arith, c.branch-q.ensures.products, shift_cost R q (c.args.count - 1) y e l m)) in
    node_bound R q met.field number list items node c.args.count (c.constants.n + 1) (length c.constants.found.items + 0) y e c.roots.new.prods c.branch-q.new.prods c.args.prods.now g.F.Field.Q d
    (omega arith) (omega arith) small c.roots.ensures.products spent narrow

pub root_lists-requires : goal.root_lists-requires
root_lists-requires g t c κs within =
    let branch = c.in_ok-child.ensures.branch in (
      omega (arith, c.decreases),
      (within.0, (within.1, (branch.reduced, branch_room g.F.Field.ring c.args.q.now c.in_ok-child.child c.index-as_slice-n.result c.args.count (omega arith) branch c.requires.room))),
    )

pub returns-in_err-tails-clause-products : goal.returns-in_err-tails-clause-products
returns-in_err-tails-clause-products g t c d y e narrow l m =
    let R = g.F.Field.ring in
    let met = g.met.F.Field in
    let number : g.row.F.Denot → ℕ = g.F.Field.number in
    let q : Bivariate g.row.F.Denot = c.args.q.now in
    let list : List g.row.F.Denot = c.in_ok-column.column in
    let items : List g.row.F.Denot = c.constants-2.inside.items.items in
    let node : IsNode R q number list items = node_of R q number list items c.in_ok-constants.constants c.in_ok-column.ensures.value c.constants-2.view_is c.in_ok-constants.ensures.value c.in_ok-constants.ensures.few c.requires.reduced in
    let small : g.F.Field.Q ≤ 256 = few_elements g.F.Field.Q g.F.Field.BITS met.size met.most_bits in
    let inside : c.constants.n < length items = omega (arith, ap length c.constants-2.view_is, c.len-n-end.ensures, c.constants-test.true) in
    let same : c.index-as_slice-n.result ≡ coefficients R items c.constants.n =
    constant_is R q items c.in_ok-constants.constants c.as_slice.result.now c.constants.n c.index-as_slice-n.result c.constants-2.view_is c.as_slice.ensures inside c.index-as_slice-n.is in
    let spent : IsSpent R q items (c.constants.n + 1) (c.args.count - 1) (length c.constants.found.items + 0) (e * (y * y)) c.roots.new.prods c.root_lists.new.prods =
    after_branch R q items c.constants.n (c.args.count - 1) (length c.constants.found.items) y e c.roots.new.prods c.constants.prods c.branch-q.new.prods c.root_lists.new.prods 0
    (c.constants.invariant.spent y e l m) c.in_ok-child.child c.index-as_slice-n.result same c.in_ok-child.ensures.branch
    (omega (arith, c.branch-q.ensures.products, shift_cost R q (c.args.count - 1) y e l m)) l m c.root_lists.ensures.products (omega arith) in
    node_bound R q met.field number list items node c.args.count (c.constants.n + 1) (length c.constants.found.items + 0) y e c.roots.new.prods c.root_lists.new.prods c.args.prods.now g.F.Field.Q d
    (omega arith) (omega arith) small c.roots.ensures.products spent narrow

pub returns-in_err-add_each-clause-products : goal.returns-in_err-add_each-clause-products
returns-in_err-add_each-clause-products g t c d y e narrow l m =
    let R = g.F.Field.ring in
    let met = g.met.F.Field in
    let number : g.row.F.Denot → ℕ = g.F.Field.number in
    let q : Bivariate g.row.F.Denot = c.args.q.now in
    let list : List g.row.F.Denot = c.in_ok-column.column in
    let items : List g.row.F.Denot = c.constants-2.inside.items.items in
    let node : IsNode R q number list items = node_of R q number list items c.in_ok-constants.constants c.in_ok-column.ensures.value c.constants-2.view_is c.in_ok-constants.ensures.value c.in_ok-constants.ensures.few c.requires.reduced in
    let small : g.F.Field.Q ≤ 256 = few_elements g.F.Field.Q g.F.Field.BITS met.size met.most_bits in
    let inside : c.constants.n < length items = omega (arith, ap length c.constants-2.view_is, c.len-n-end.ensures, c.constants-test.true) in
    let same : c.index-as_slice-n.result ≡ coefficients R items c.constants.n =
    constant_is R q items c.in_ok-constants.constants c.as_slice.result.now c.constants.n c.index-as_slice-n.result c.constants-2.view_is c.as_slice.ensures inside c.index-as_slice-n.is in
    let spent : IsSpent R q items (c.constants.n + 1) (c.args.count - 1) (length c.constants.found.items + 0) (e * (y * y)) c.roots.new.prods c.root_lists.new.prods =
    after_branch R q items c.constants.n (c.args.count - 1) (length c.constants.found.items) y e c.roots.new.prods c.constants.prods c.branch-q.new.prods c.root_lists.new.prods 0
    (c.constants.invariant.spent y e l m) c.in_ok-child.child c.index-as_slice-n.result same c.in_ok-child.ensures.branch
    (omega (arith, c.branch-q.ensures.products, shift_cost R q (c.args.count - 1) y e l m)) l m c.root_lists.ensures.products (omega arith) in
    node_bound R q met.field number list items node c.args.count (c.constants.n + 1) (length c.constants.found.items + 0) y e c.roots.new.prods c.root_lists.new.prods c.args.prods.now g.F.Field.Q d
    (omega arith) (omega arith) small c.roots.ensures.products spent narrow

pub constants-preserved : goal.constants-preserved
constants-preserved g t c =
    let R = g.F.Field.ring in
    let met = g.met.F.Field in
    let number : g.row.F.Denot → ℕ = g.F.Field.number in
    let q : Bivariate g.row.F.Denot = c.args.q.now in
    let list : List g.row.F.Denot = c.in_ok-column.column in
    let items : List g.row.F.Denot = c.constants-2.inside.items.items in
    let node : IsNode R q number list items = node_of R q number list items c.in_ok-constants.constants c.in_ok-column.ensures.value c.constants-2.view_is c.in_ok-constants.ensures.value c.in_ok-constants.ensures.few c.requires.reduced in
    let inside : c.constants.n < length items = omega (arith, ap length c.constants-2.view_is, c.len-n-end.ensures, c.constants-test.true) in
    let same : c.index-as_slice-n.result ≡ coefficients R items c.constants.n =
    constant_is R q items c.in_ok-constants.constants c.as_slice.result.now c.constants.n c.index-as_slice-n.result c.constants-2.view_is c.as_slice.ensures inside c.index-as_slice-n.is in
    let branch = c.in_ok-child.ensures.branch in
    let tails : List (List g.row.F.Denot) = c.in_ok-tails.tails.items in
    let before : List (List g.row.F.Denot) = c.constants.found.items in
    let front : List g.row.F.Denot → List g.row.F.Denot = λ tail. c.index-as_slice-n.result ∷ tail in
    let long : length c.add_each.new.found.items ≡ length before + length tails =
    ap length c.in_ok-add_each.ensures ∙ length-append before (map front c.deref.result.now) ∙ ap (λ t. length before + t) (length-map c.deref.result.now front ∙ ap length c.deref.ensures.value) in
    let few : length tails ≤ branch.order = c.in_ok-tails.ensures.few branch.order (omega (arith, branch.some)) branch.narrow in
    record {
      found =
          branch_lists R q number list items node (c.args.count - 1) c.constants.n before c.deref.result.now tails c.add_each.new.found.items c.in_ok-child.child c.index-as_slice-n.result inside same
          c.deref.ensures.value c.in_ok-add_each.ensures c.constants.invariant.found branch c.in_ok-tails.ensures.these;
      spent = λ y e l m.
          subst (λ n. IsSpent R q items (c.constants.n + 1) (c.args.count - 1) n (e * (y * y)) c.roots.new.prods c.root_lists.new.prods) (sym long)
          (after_branch R q items c.constants.n (c.args.count - 1) (length before) y e c.roots.new.prods c.constants.prods c.branch-q.new.prods c.root_lists.new.prods (length tails)
          (c.constants.invariant.spent y e l m) c.in_ok-child.child c.index-as_slice-n.result same branch
          (omega (arith, c.branch-q.ensures.products, shift_cost R q (c.args.count - 1) y e l m)) l m c.root_lists.ensures.products few);
    }

pub returns-clause-these : goal.returns-clause-these
returns-clause-these g t c =
    let R = g.F.Field.ring in
    let met = g.met.F.Field in
    let number : g.row.F.Denot → ℕ = g.F.Field.number in
    let q : Bivariate g.row.F.Denot = c.args.q.now in
    let list : List g.row.F.Denot = c.in_ok-column.column in
    let items : List g.row.F.Denot = c.constants-2.inside.items.items in
    let node : IsNode R q number list items = node_of R q number list items c.in_ok-constants.constants c.in_ok-column.ensures.value c.constants-2.view_is c.in_ok-constants.ensures.value c.in_ok-constants.ensures.few c.requires.reduced in
    let end : c.constants.n ≡ length items = omega (arith, ap length c.constants-2.view_is, c.len-n-end.ensures, c.constants-test.false) in
    node_lists R q number list items node c.args.count c.constants.n c.constants.found.items (omega arith) end c.constants.invariant.found

pub returns-clause-few : goal.returns-clause-few
returns-clause-few g t c d some narrow =
    let R = g.F.Field.ring in
    let met = g.met.F.Field in
    let number : g.row.F.Denot → ℕ = g.F.Field.number in
    let q : Bivariate g.row.F.Denot = c.args.q.now in
    let list : List g.row.F.Denot = c.in_ok-column.column in
    let items : List g.row.F.Denot = c.constants-2.inside.items.items in
    let node : IsNode R q number list items = node_of R q number list items c.in_ok-constants.constants c.in_ok-column.ensures.value c.constants-2.view_is c.in_ok-constants.ensures.value c.in_ok-constants.ensures.few c.requires.reduced in
    let end : c.constants.n ≡ length items = omega (arith, ap length c.constants-2.view_is, c.len-n-end.ensures, c.constants-test.false) in
    let y : ℕ = greatest y_power q + 1 in
    let e : ℕ = greatest (weight_by (c.args.count - 1)) q + 1 in
    few_found R q met.field number list items node c.constants.n (c.args.count - 1) (length c.constants.found.items) (e * (y * y)) c.roots.new.prods c.constants.prods d (omega arith)
    (c.constants.invariant.spent y e (omega arith) (omega arith)) narrow

pub returns-clause-products : goal.returns-clause-products
returns-clause-products g t c d y e narrow l m =
    let R = g.F.Field.ring in
    let met = g.met.F.Field in
    let number : g.row.F.Denot → ℕ = g.F.Field.number in
    let q : Bivariate g.row.F.Denot = c.args.q.now in
    let list : List g.row.F.Denot = c.in_ok-column.column in
    let items : List g.row.F.Denot = c.constants-2.inside.items.items in
    let node : IsNode R q number list items = node_of R q number list items c.in_ok-constants.constants c.in_ok-column.ensures.value c.constants-2.view_is c.in_ok-constants.ensures.value c.in_ok-constants.ensures.few c.requires.reduced in
    let small : g.F.Field.Q ≤ 256 = few_elements g.F.Field.Q g.F.Field.BITS met.size met.most_bits in
    let end : c.constants.n ≡ length items = omega (arith, ap length c.constants-2.view_is, c.len-n-end.ensures, c.constants-test.false) in
    node_bound R q met.field number list items node c.args.count c.constants.n (length c.constants.found.items) y e c.roots.new.prods c.constants.prods c.args.prods.now g.F.Field.Q d
    (omega arith) (omega arith) small c.roots.ensures.products (c.constants.invariant.spent y e l m) narrow
