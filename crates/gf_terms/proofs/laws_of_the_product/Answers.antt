use Rattle.gf_terms.proofs.Linear.{product_plus}
use Rattle.gf_terms.proofs.Field.{closed, product_comm, product_assoc, one_product, inverse, no_zero_divisors, is_power}
use Rattle.gf_terms.proofs.laws_of_the_product.Goals as goal

pub returns : goal.returns
returns c = record {
  closed = λ m x y l h. closed m l h x y;
  commutes = λ m x y l h. product_comm m l h x y;
  associates = λ m x y z l h. product_assoc m l h x y z;
  distributes = product_plus;
  unit = λ m x l h. one_product m l h x;
  inverses = λ m x l h a p. let i = inverse m l h x a p in (i.number, i.below, i.times);
  no_zero_divisors = λ m x y l h. no_zero_divisors m l h x y;
  generates = λ m x l h. is_power m l h x;
}
