use Rattle.std.proofs.Common.{◌≡◌}
use Rattle.sample_terms.specs.Inputs.{register_with}
use Rattle.sample_maker.proofs.register.register_of.Given as goal

abbrev pub invariant-loop-serial : goal.invariant-loop-serial
invariant-loop-serial l = l.register ≡ register_with l.serial l.number
