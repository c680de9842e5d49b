use Rattle.packaging_terms.proofs.Apart.{apart}
use Rattle.packaging_terms.proofs.laws.variants_have_their_own_names.Goals as goal

pub returns : goal.returns
returns c = record {
  place = λ d i j v w i_small j_small v_small w_small is. (apart d i j v w i_small j_small v_small w_small is).place;
  symbol = λ d i j v w i_small j_small v_small w_small is. (apart d i j v w i_small j_small v_small w_small is).symbol;
}
