use Rattle.std.proofs.Common.{◌≡◌, ◌<◌, ℕ, List, Option, None, length, sym, subst}
use Rattle.title_store.specs.Cells.{held_at, IsAbsent}
use Rattle.title_store.proofs.Indexed.{table_grows}
use Rattle.title_store.proofs.table.Table.fill.Goals as goal

pub invariant_of-self-2 : goal.invariant_of-self-2
invariant_of-self-2 c =
    let cells : List (Option (List ℕ)) = c.self.inside.cells.items in
    table_grows c.self.inside.index.entries c.insert.new.self.entries cells c.args.cell c.args.digest
    (subst (λ (cs : List (Option (List ℕ))). c.args.cell < length cs) (sym c.self.view_is) c.requires.cell)
    (subst (λ (cs : List (Option (List ℕ))). held_at cs c.args.cell ≡ None) (sym c.self.view_is) c.requires.empty)
    (subst (λ (cs : List (Option (List ℕ))). IsAbsent cs c.args.digest) (sym c.self.view_is) c.requires.absent)
    c.self.invariant c.in-Ok.ensures.updates.0 c.requires.digest
