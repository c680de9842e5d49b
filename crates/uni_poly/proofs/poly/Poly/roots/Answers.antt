use Rattle.std.proofs.Common.{◌≡◌, ◌+◌, ℕ, List, true, false, sym, ap, subst, ◌∙◌, arith}
use Rattle.uni_poly.specs.Roots.{IsRoot, IsRootList}
use Rattle.uni_poly.proofs.RootsBelow.{IsRootsBelow, root_found, no_root_found, all_roots, few}
use Rattle.uni_poly.proofs.poly.Poly.roots.Goals as goal
use Rattle.uni_poly.proofs.poly.Poly.roots.Goals.{then-eq+in_ok-push, else-eq}

pub elements-preserved : goal.elements-preserved
elements-preserved g c =
    let R = g.F.Field.ring in
    let met = g.met.F.Field in
    let number : g.row.F.Denot → ℕ = g.F.Field.number in
    let xs : List g.row.F.Denot = c.args.self.now in
    let old : IsRootsBelow R number xs c.elements.number c.elements.roots.items = c.elements.invariant.roots in
    record {
      roots = elim c.if-eq.branch [
        | then-eq+in_ok-push w ↦
            let same : number c.eval.result ≡ number c.zero.result = (met.equal c.eval.result c.zero.result).0 (sym c.eq.ensures ∙ w.if-eq.true) in
            let root : IsRoot R xs c.element-element.result = sym c.eval.ensures.value ∙ met.same c.eval.result c.zero.result same ∙ c.zero.ensures in
            subst (IsRootsBelow R number xs (c.elements.number + 1)) (sym (ap (λ v. v.items) w.roots-is ∙ w.in_ok-push.ensures.items))
            (root_found R number xs met.same c.elements.number c.elements.roots.items c.element-element.result old c.element-element.ensures root)
        | else-eq w ↦
            let other : IsRoot R xs c.element-element.result → ⊥ = λ h.
            let same : c.eval.result ≡ c.zero.result = c.eval.ensures.value ∙ h ∙ sym c.zero.ensures in
            let is : g.F.PartialEq.eq c.eval.result c.zero.result ≡ true = (met.equal c.eval.result c.zero.result).1 (ap number same) in
            let never : true ≡ false = sym is ∙ sym c.eq.ensures ∙ w.if-eq.false in
            cc in
            subst (IsRootsBelow R number xs (c.elements.number + 1)) (sym (ap (λ v. v.items) w.roots-is))
            (no_root_found R number xs met.same c.elements.number c.elements.roots.items c.element-element.result old c.element-element.ensures other)
      ];
      products = omega (arith, c.eval.ensures.products, c.elements.invariant.products);
    }

whole : goal.returns-clause-value
whole g c =
    let R = g.F.Field.ring in
    let met = g.met.F.Field in
    let number : g.row.F.Denot → ℕ = g.F.Field.number in
    let end : c.elements.number ≡ g.F.Field.Q = omega (arith, c.Q-number-end.ensures) in
    subst (IsRootList R number c.args.self.now) (sym c.over.ensures)
    (all_roots R number c.args.self.now g.F.Field.Q c.elements.roots.items met.below
    (subst (λ q. IsRootsBelow R number c.args.self.now q c.elements.roots.items) end c.elements.invariant.roots))

pub returns-clause-value : goal.returns-clause-value
returns-clause-value g c = whole g c

pub returns-clause-few : goal.returns-clause-few
returns-clause-few g c some =
    few g.F.Field.ring g.F.Field.number c.args.self.now g.met.F.Field.field c.over.result c.as_slice.ensures.trimmed (whole g c) some
