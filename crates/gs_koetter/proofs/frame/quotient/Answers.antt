use Rattle.std.proofs.Common.{◌≡◌, ◌-◌, ap, arith}
use Rattle.term_lists.specs.Places.{place}
use Rattle.gs_koetter.proofs.Quotients.{less_by}
use Rattle.gs_koetter.proofs.frame.quotient.Goals as goal

pub overflow_sub-result-2 : goal.overflow_sub-result-2
overflow_sub-result-2 c =
    let is = less_by c.args.w c.args.term.x c.args.term.y c.args.k c.requires.some (λ e. absurd (omega (arith, e, c.if-term-eq0.false))) c.requires.place in
    omega (arith, is)

pub returns-clause-divided : goal.returns-clause-divided
returns-clause-divided c i e =
    let is = less_by c.args.w c.args.term.x c.args.term.y c.args.k c.requires.some (λ n. absurd (omega (arith, e, n))) c.requires.place in
    let one : c.args.term.x - 1 ≡ i = omega (arith, e) in
    let same : place c.args.w (c.args.term.x - 1) c.args.term.y ≡ place c.args.w i c.args.term.y = ap (λ n. place c.args.w n c.args.term.y) one in
    omega (arith, is, same)
