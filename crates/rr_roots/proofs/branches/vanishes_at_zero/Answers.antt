use Rattle.std.proofs.Common.{refl}
use Rattle.rr_roots.proofs.Branching.{zero_coefficient, vanishes}
use Rattle.rr_roots.proofs.branches.vanishes_at_zero.Goals as goal

pub returns-in-Some : goal.returns-in-Some
returns-in-Some g c = (
  λ t. vanishes g.F.Field.ring c.args.q.now c.in-Some.degree c.in-Some.ensures.some (c.vanishes_below.ensures.0 t),
  λ zeros. c.vanishes_below.ensures.1 (λ i l. zeros i),
)

pub returns-in-None : goal.returns-in-None
returns-in-None g c = (λ t i. zero_coefficient g.F.Field.ring c.args.q.now (c.in-None.ensures.none.0 refl) i 0, λ zeros. refl)
