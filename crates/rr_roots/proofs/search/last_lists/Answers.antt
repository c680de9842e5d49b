use Rattle.std.proofs.Common.{List, [], ◌∷◌, ◌++◌, refl, sym, ap, subst, ◌∙◌}
use Rattle.root_terms.specs.YRoots.{AreYRootLists}
use Rattle.rr_roots.proofs.Nodes.{last_list, no_last_list}
use Rattle.rr_roots.proofs.search.last_lists.Goals as goal

pub returns-then-not-vanishes_at_zero-clause-these : goal.returns-then-not-vanishes_at_zero-clause-these
returns-then-not-vanishes_at_zero-clause-these g c =
    subst (AreYRootLists g.F.Field.ring c.args.q.now 0) (sym c.new-lists.ensures.items) (no_last_list g.F.Field.ring c.args.q.now (c.if-not-vanishes_at_zero.ensures.1))

pub returns-clause-these : goal.returns-clause-these
returns-clause-these g c =
    let lists : List (List g.row.F.Denot) = c.push.new.self.items in
    subst (AreYRootLists g.F.Field.ring c.args.q.now 0)
    (sym (c.in_ok-push.ensures.items ∙ ap (λ (t : List (List g.row.F.Denot)). t ++ c.over.result ∷ []) c.new-lists.ensures.items ∙ ap (λ (t : List g.row.F.Denot). t ∷ []) (c.over.ensures ∙ c.new.ensures.items)))
    (last_list g.F.Field.ring c.args.q.now (c.if-not-vanishes_at_zero.ensures.0 refl))
