use Rattle.std.proofs.Common.{subst}
use Rattle.std.proofs.Math.Numerals.{add-one}
use Rattle.algebra.specs.Series.{IsBelow}
use Rattle.algebra.proofs.Series.{product_comm, product_assoc, product_sum, product_below}
use Rattle.algebra.proofs.laws.laws_of_products.Goals as goal

pub returns-clause-commute : goal.returns-clause-commute
returns-clause-commute g c = λ R. product_comm R

pub returns-clause-associate : goal.returns-clause-associate
returns-clause-associate g c = λ R. product_assoc R

pub returns-clause-distribute : goal.returns-clause-distribute
returns-clause-distribute g c = λ R. product_sum R

pub returns-clause-degree : goal.returns-clause-degree
returns-clause-degree g c = λ R d e p q bp bq. product_below R d e p q bp (subst (λ t. IsBelow R t q) (add-one e) bq)
