use Rattle.std.proofs.Common.{◌≡◌, ℕ, List, None, replicate, rules, sym, subst}
use Rattle.title_store.specs.Cells.{IsTable}
use Rattle.title_store.proofs.Indexed.{table_new}
use Rattle.title_store.proofs.table.Table.new.Goals as goal

pub invariant_of-result : goal.invariant_of-result
invariant_of-result c =
    let cells : c.in_ok-cells.cells.items ≡ replicate c.args.count None = search rules in
    subst (λ (es : List (List ℕ × ℕ)). IsTable es c.in_ok-cells.cells.items) (sym c.new.ensures.empty) (table_new c.in_ok-cells.cells.items c.args.count cells)
