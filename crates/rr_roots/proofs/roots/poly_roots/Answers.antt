use Rattle.std.proofs.Common.{◌≡◌, ◌≤◌, List, length, All, sym, ◌∙◌, ap, subst, arith}
use Rattle.std.proofs.lemmas.List.{length-map}
use Rattle.std.proofs.lemmas.List.Sorted.{length_permutation}
use Rattle.root_terms.specs.Entries.{AreNumbered}
use Rattle.root_terms.specs.YRoots.{AreYRoots}
use Rattle.root_terms.proofs.Orders.{ordered}
use Rattle.rr_roots.proofs.Tops.{short_lists}
use Rattle.rr_roots.proofs.roots.poly_roots.Goals as goal

pub numbered-requires : goal.numbered-requires
numbered-requires g c =
    subst (λ (t : List (List g.row.F.Denot)). All (λ list. length list ≤ 13) t) (sym c.deref.ensures.value)
    (short_lists g.F.Field.ring c.args.q.now c.args.k c.in_ok-lists.lists.items c.requires.most_k c.in_ok-lists.ensures.these)

pub returns-clause-these : goal.returns-clause-these
returns-clause-these g c =
    let R = g.F.Field.ring in
    let met = g.met.F.Field in
    let lists : List (List g.row.F.Denot) = c.in_ok-lists.lists.items in
    let numbered = subst (λ (t : List (List g.row.F.Denot)). AreNumbered R g.F.Field.number g.F.Field.Q (λ entry. entry.number) (λ entry. entry.root) t c.in_ok-entries.entries.items) c.deref.ensures.value c.in_ok-entries.ensures in
    subst (AreYRoots R g.F.Field.number g.F.Field.Q c.args.q.now c.args.k) (sym (c.over.ensures ∙ c.in_ok-roots_of.ensures))
    (ordered R g.F.Field.number g.F.Field.Q (λ entry. entry.number) (λ entry. entry.root) met.number_nil met.same met.below c.args.q.now c.args.k lists c.in_ok-entries.entries.items
    c.sort_by_number.new.entries.items c.in_ok-lists.ensures.these numbered c.sort_by_number.ensures.permutation c.in_ok-sort_by_number.ensures.sorted)

pub returns-clause-few : goal.returns-clause-few
returns-clause-few g c =
    let sorted = c.sort_by_number.new.entries.items in
    let long : length c.over.result ≡ length sorted = ap length (c.over.ensures ∙ c.in_ok-roots_of.ensures) ∙ length-map sorted (λ entry. entry.root) in
    let same : length sorted ≡ length c.in_ok-entries.entries.items = length_permutation c.in_ok-entries.entries.items sorted c.sort_by_number.ensures.permutation in
    omega (arith, c.in_ok-entries.ensures.count, ap length c.deref.ensures.value, c.in_ok-lists.ensures.few)
