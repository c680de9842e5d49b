use Rattle.std.proofs.Common.{arith}
use Rattle.report_check.specs.Bounds.{check_bound}
use Rattle.report_check.proofs.checking.list_verdict.Goals as goal

pub returns-in-Some-clause-products : goal.returns-in-Some-clause-products
unfolding check_bound
returns-in-Some-clause-products g c = omega (arith, c.first_fault.ensures.products)

pub returns-in-Some-first_missed-clause-products : goal.returns-in-Some-first_missed-clause-products
unfolding check_bound
returns-in-Some-first_missed-clause-products g c = omega (arith, c.in-None.ensures.products, c.first_missed.ensures.products)

pub returns-in-None-first_missed-clause-products : goal.returns-in-None-first_missed-clause-products
unfolding check_bound
returns-in-None-first_missed-clause-products g c = omega (arith, c.in-None.ensures.products, c.first_missed.ensures.products)
