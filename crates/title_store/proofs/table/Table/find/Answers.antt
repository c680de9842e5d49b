use Rattle.std.proofs.Common.{ℕ, List, Option, ◌∙◌, subst, MatchOption}
use Rattle.title_store.specs.Cells.{IsAbsent, HoldsDigest}
use Rattle.title_store.proofs.Indexed.{found_cell}
use Rattle.title_store.proofs.table.Table.find.Goals as goal

pub returns : goal.returns
returns c =
    let d : List ℕ = c.args.digest.now in
    subst (λ (cells : List (Option (List ℕ))). MatchOption c.copied.result (IsAbsent cells d) (λ i. HoldsDigest cells i d)) c.self.view_is
    (found_cell c.self.inside.index.entries c.self.inside.cells.items d c.copied.result c.self.invariant (c.copied.ensures ∙ c.get.ensures.value))
