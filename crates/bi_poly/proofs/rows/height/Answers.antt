use Rattle.std.proofs.Common.{◌≡◌, ◌+◌, ◌-◌, List, [], length, get_or, ap, ◌∙◌, arith}
use Rattle.std.proofs.lemmas.List.{get_or_default}
use Rattle.std.proofs.lemmas.Bool.Decides.{nat_tests}
use Rattle.algebra.specs.Lists.{coefficients}
use Rattle.bi_poly.specs.Rows.{cell}
use Rattle.bi_poly.proofs.rows.height.Goals as goal

pub returns-then-not-is_empty-clause-last : goal.returns-then-not-is_empty-clause-last
returns-then-not-is_empty-clause-last g c j e =
    let R = g.F.Field.ring in
    let rows = c.args.rows.now in
    let here : c.rows.j - 1 ≡ j = omega arith in
    let list = c.trimmed.result.now in
    let some : length list ≡ (length list - 1) + 1 = grind (arith, nat_tests, c.if-not-is_empty.ensures) in
    let row : c.index-rows-j.result ≡ get_or rows (c.rows.j - 1) [] =
    c.index-rows-j.is ∙ get_or_default rows (c.rows.j - 1) c.index-rows-j.result [] (omega arith) in
    let place : coefficients R c.index-rows-j.result (length list - 1) ≡ cell R rows (length list - 1) j =
    ap (λ (t : List g.row.F.Denot). coefficients R t (length list - 1)) row ∙ ap (cell R rows (length list - 1)) here in
    (length list - 1, λ z. c.trimmed.ensures.trimmed (length list - 1) some (c.trimmed.ensures.each (length list - 1) ∙ place ∙ z))
