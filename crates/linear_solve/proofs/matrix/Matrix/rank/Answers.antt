use Rattle.std.proofs.Common.{◌≡◌, ◌+◌, ◌-◌, ◌*◌, ◌≤◌, length, map, sym, subst, arith}
use Rattle.std.proofs.lemmas.List.{length-map}
use Rattle.system_terms.specs.Systems.{IsRank}
use Rattle.linear_solve.specs.Tables.{entries}
use Rattle.linear_solve.proofs.Products.{within_alone}
use Rattle.linear_solve.proofs.matrix.Matrix.rank.Goals as goal

pub returns-clause-rank : goal.returns-clause-rank
returns-clause-rank g c =
    let count : length c.in_ok-pivots.pivots.items ≡ c.len.result = omega (arith, c.len.ensures, c.in_ok-pivots.pivots.ok) in
    subst (λ t. IsRank g.F.Field.ring (length c.args.self.rows) c.args.self.columns (entries g.F.Field.ring c.args.self.rows) t) count
    (subst (λ t. IsRank g.F.Field.ring (length t.rows) t.columns (entries g.F.Field.ring t.rows) (length c.in_ok-pivots.pivots.items)) c.self.view_is c.in_ok-pivots.ensures.rank)

pub returns-in_err-pivots-clause-products : goal.returns-in_err-pivots-clause-products
returns-in_err-pivots-clause-products g c =
    let rows = map (λ row. row.items) c.self.inside.rows.items in
    let spent = subst (λ t. c.eliminate.new.prods ≤ c.args.prods.now + t * (1 + (t - 1) * (1 + c.self.inside.columns))) (sym (length-map c.self.inside.rows.items (λ row. row.items))) c.eliminate.ensures.products in
    subst (λ t. c.eliminate.new.prods ≤ c.args.prods.now + 3 * (length t.rows * length t.rows) * t.columns) c.self.view_is
    (within_alone (length rows) c.self.inside.columns c.eliminate.new.prods c.args.prods.now c.self.invariant.some_rows c.self.invariant.some_columns spent)

pub returns-clause-products : goal.returns-clause-products
returns-clause-products g c =
    let rows = map (λ row. row.items) c.self.inside.rows.items in
    let spent = subst (λ t. c.eliminate.new.prods ≤ c.args.prods.now + t * (1 + (t - 1) * (1 + c.self.inside.columns))) (sym (length-map c.self.inside.rows.items (λ row. row.items))) c.eliminate.ensures.products in
    subst (λ t. c.eliminate.new.prods ≤ c.args.prods.now + 3 * (length t.rows * length t.rows) * t.columns) c.self.view_is
    (within_alone (length rows) c.self.inside.columns c.eliminate.new.prods c.args.prods.now c.self.invariant.some_rows c.self.invariant.some_columns spent)
