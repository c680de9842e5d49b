use Rattle.std.proofs.Common.{◌*◌, ◌≤◌, arith}
use Rattle.std.proofs.Math.Nat.{mul-le-mul, mul-le-mul_right}
use Rattle.gs_koetter.proofs.Laying.{term_at}
use Rattle.gs_koetter.proofs.frame.cells.Goals as goal

pub overflow_mul-term : goal.overflow_mul-term
overflow_mul-term c =
    let m = c.args.monomials.now in
    let at = term_at m.w m.e c.terms.k m.terms.items c.index-term.result.now m.terms_are (omega (arith, c.terms-test.true, m.terms.ok.0)) c.index-term.ensures in
    let small : c.index-term.result.now.x * c.args.width ≤ 4096 * 4096 = mul-le-mul {n₂ = 4096} (omega (arith, at.0, m.low)) c.requires.width in
    omega (arith, small)

pub overflow_add-term : goal.overflow_add-term
overflow_add-term c =
    let m = c.args.monomials.now in
    let at = term_at m.w m.e c.terms.k m.terms.items c.index-term.result.now m.terms_are (omega (arith, c.terms-test.true, m.terms.ok.0)) c.index-term.ensures in
    let once : 1 * c.index-term.result.now.y ≤ m.w * c.index-term.result.now.y = mul-le-mul_right c.index-term.result.now.y m.some_weight in
    let small : c.index-term.result.now.x * c.args.width ≤ 4096 * 4096 = mul-le-mul {n₂ = 4096} (omega (arith, at.0, m.low)) c.requires.width in
    omega (arith, small, once, at.0, m.low)
