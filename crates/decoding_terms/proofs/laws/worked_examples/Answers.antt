use Rattle.std.proofs.Common.{refl, arith}
use Rattle.decoding_terms.proofs.Examples.{least_weight}
use Rattle.decoding_terms.proofs.laws.worked_examples.Goals as goal

pub returns-clause-a : goal.returns-clause-a
returns-clause-a c = (
  record {
    agreement = record { holds = omega arith; none_below = λ k less h. omega (arith, less, h) };
    multiplicity = record { holds = (omega arith, omega arith); none_below = λ k less h. omega (arith, less, h.0, h.1) };
    weight = least_weight 4 3042 154 (omega arith) (omega arith) (omega arith);
  },
  refl,
  refl,
)

pub returns-clause-b : goal.returns-clause-b
returns-clause-b c = (
  record {
    agreement = record { holds = omega arith; none_below = λ k less h. omega (arith, less, h) };
    multiplicity = record { holds = (omega arith, omega arith); none_below = λ k less h. omega (arith, less, h.0, h.1) };
    weight = least_weight 1 2592 71 (omega arith) (omega arith) (omega arith);
  },
  refl,
  refl,
)

pub returns-clause-c : goal.returns-clause-c
returns-clause-c c = (
  record {
    agreement = record { holds = omega arith; none_below = λ k less h. omega (arith, less, h) };
    multiplicity = record { holds = (omega arith, omega arith); none_below = λ k less h. omega (arith, less, h.0, h.1) };
    weight = least_weight 2 6084 155 (omega arith) (omega arith) (omega arith);
  },
  refl,
  refl,
)

pub returns-clause-d : goal.returns-clause-d
returns-clause-d c = (
  record {
    agreement = record { holds = omega arith; none_below = λ k less h. omega (arith, less, h) };
    multiplicity = record { holds = (omega arith, omega arith); none_below = λ k less h. omega (arith, less, h.0, h.1) };
    weight = least_weight 4 200 38 (omega arith) (omega arith) (omega arith);
  },
  refl,
  refl,
)

pub returns-clause-e : goal.returns-clause-e
returns-clause-e c = (
  record {
    agreement = record { holds = omega arith; none_below = λ k less h. omega (arith, less, h) };
    multiplicity = record { holds = (omega arith, omega arith); none_below = λ k less h. omega (arith, less, h.0, h.1) };
    weight = least_weight 2 90 18 (omega arith) (omega arith) (omega arith);
  },
  refl,
  refl,
)

pub returns-clause-f : goal.returns-clause-f
returns-clause-f c = (
  record {
    agreement = record { holds = omega arith; none_below = λ k less h. omega (arith, less, h) };
    multiplicity = record { holds = (omega arith, omega arith); none_below = λ k less h. omega (arith, less, h.0, h.1) };
    weight = least_weight 1 2 1 (omega arith) (omega arith) (omega arith);
  },
  refl,
  refl,
)

pub returns-clause-g : goal.returns-clause-g
returns-clause-g c = (
  record {
    agreement = record { holds = omega arith; none_below = λ k less h. omega (arith, less, h) };
    multiplicity = record { holds = (omega arith, omega arith); none_below = λ k less h. omega (arith, less, h.0, h.1) };
    weight = least_weight 1 30 7 (omega arith) (omega arith) (omega arith);
  },
  refl,
  refl,
)
