use Rattle.std.proofs.Common.{◌≡◌, ◌+◌, List, [], ◌∷◌, ◌++◌, take, sym, ◌∙◌, ap, subst, arith}
use Rattle.std.proofs.lemmas.List.{take_more}
use Rattle.algebra.specs.Lists.{coefficients, IsListOf}
use Rattle.root_terms.specs.Entries.{AreNumbered}
use Rattle.root_terms.proofs.Orders.{more_numbered}
use Rattle.rr_roots.proofs.numbers.numbered.Goals as goal

pub lists-preserved : goal.lists-preserved
lists-preserved g c =
    let R = g.F.Field.ring in
    let lists : List (List g.row.F.Denot) = c.args.lists.now in
    let list : List g.row.F.Denot = c.index-lists-i.result in
    let next : take (c.lists.i + 1) lists ≡ take c.lists.i lists ++ list ∷ [] =
    take_more lists c.lists.i list (omega arith) ∙ ap (λ (t : List g.row.F.Denot). take c.lists.i lists ++ t ∷ []) (sym c.index-lists-i.is) in
    let root : IsListOf R (coefficients R list) c.in_ok-entry_of.field-0.root =
    subst (λ (t : List g.row.F.Denot). IsListOf R (coefficients R t) c.in_ok-entry_of.field-0.root) c.as_slice.ensures c.in_ok-entry_of.ensures.root in
    subst (λ (t : List (List g.row.F.Denot)). AreNumbered R g.F.Field.number g.F.Field.Q (λ entry. entry.number) (λ entry. entry.root) t c.push.new.self.items) (sym next)
    (subst (AreNumbered R g.F.Field.number g.F.Field.Q (λ entry. entry.number) (λ entry. entry.root) (take c.lists.i lists ++ list ∷ [])) (sym c.in_ok-push.ensures.items)
    (more_numbered R g.F.Field.number g.F.Field.Q (λ entry. entry.number) (λ entry. entry.root) (take c.lists.i lists) c.lists.entries.items list c.in_ok-entry_of.field-0 c.lists.invariant
    c.in_ok-entry_of.ensures.number root))
