use Rattle.std.proofs.Common.{◌≡◌, rules}
use Rattle.sample_maker.proofs.Costs.{within}
use Rattle.sample_maker.proofs.tracing.findings_of.Goals as goal

pub returns-in-Ok-clause-products : goal.returns-in-Ok-clause-products
returns-in-Ok-clause-products g c =
    let places : c.unwrap-code.result.places ≡ 64 = search rules in
    let dimension : c.unwrap-code.result.dimension ≡ 3 = search rules in
    λ curve costs. within g.I.Interpolate.cost c.unwrap-code.result.places c.unwrap-code.result.dimension _ curve c.args.prods.now c.accuse.new.prods places dimension c.requires.readable (c.accuse.ensures.products curve) costs

pub returns-in-Err-clause-products : goal.returns-in-Err-clause-products
returns-in-Err-clause-products g c =
    let places : c.unwrap-code.result.places ≡ 64 = search rules in
    let dimension : c.unwrap-code.result.dimension ≡ 3 = search rules in
    λ curve costs. within g.I.Interpolate.cost c.unwrap-code.result.places c.unwrap-code.result.dimension _ curve c.args.prods.now c.accuse.new.prods places dimension c.requires.readable (c.accuse.ensures.products curve) costs
