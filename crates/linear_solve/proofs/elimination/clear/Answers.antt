use Rattle.std.proofs.Common.{◌≡◌, length, drop, get_or, ◌∙◌, ap, ap₂, arith}
use Rattle.std.specs.Simd.Lanes.{zip2}
use Rattle.std.proofs.lemmas.List.{get_or_default}
use Rattle.linear_solve.proofs.Rows.{written_back}
use Rattle.linear_solve.proofs.elimination.clear.Goals as goal

pub returns-clause-cleared : goal.returns-clause-cleared
returns-clause-cleared g c =
    let R = g.F.Field.ring in
    let entry : c.index.result.now ≡ get_or c.args.row.now.items c.args.column R.nil =
    c.index.ensures ∙ get_or_default c.args.row.now.items c.args.column c.index.result.now R.nil c.requires.column in
    written_back c.add_multiple.new.target (drop (length c.add_multiple.new.target) c.args.row.now.items) c.args.row.now.len (omega (arith, c.add_multiple.auto.target, c.deref_mut.ensures.len, ap length c.deref_mut.ensures.value, c.args.row.now.ok))
    ∙ c.add_multiple.ensures.value
    ∙ ap₂ (λ f row. zip2 (λ x y. R.plus x (R.times f y)) row c.args.pivot.now) (c.mul-factor.ensures.value ∙ ap (λ t. R.times t c.args.inverse) entry) c.deref_mut.ensures.value
