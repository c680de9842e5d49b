use Rattle.std.proofs.Common.{arith}
use Rattle.sample_maker.proofs.sampling.sample.Goals as goal

pub returns-in-Ok-traced-clause-products : goal.returns-in-Ok-traced-clause-products
returns-in-Ok-traced-clause-products g c = λ curve costs. omega (arith, c.traced.ensures.products curve costs)

pub returns-in-Ok-clause-products : goal.returns-in-Ok-clause-products
returns-in-Ok-clause-products g c = λ curve costs. omega (arith, c.traced.ensures.products curve costs)
