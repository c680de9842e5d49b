use Rattle.std.proofs.Common.{◌≤◌, length, ◌∙◌, ap, arith}
use Rattle.algebra.proofs.CoefficientLists.{coefficients_below, trimmed_length}
use Rattle.rr_roots.proofs.numbers.entry_of.Goals as goal

pub number_of-requires : goal.number_of-requires
number_of-requires g c =
    let R = g.F.Field.ring in
    let short : length c.in_ok-root.root ≤ length c.args.list.now =
    trimmed_length R (length c.args.list.now) c.in_ok-root.root c.in_ok-root.ensures.trimmed (λ k l. c.in_ok-root.ensures.each k ∙ coefficients_below R c.args.list.now k l) in
    omega (arith, ap length c.as_slice.ensures.value, c.requires)
