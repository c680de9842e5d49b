use Rattle.std.proofs.Common.{◌≡◌, ◌≤◌, ◌+◌, ◌-◌, true, false}
use Rattle.shelf_terms.specs.Causes.{ReadCauses}
use Rattle.shelf_io.proofs.Poured.{IsPouring}
use Rattle.shelf_io.proofs.pouring.pour.Given as goal

abbrev pub invariant-parts : goal.invariant-parts
invariant-parts g l =
    let shelf = g.S.Shelf in
    let taker = g.T.Taker in
    record {
      short : l.from ≤ l.limit;
      same : (shelf.store l.shelf).told ≡ (shelf.store l.fn.shelf).told;
      pouring : IsPouring (taker.stands l.fn.taker) (taker.stands l.taker) (shelf.store l.fn.shelf) (shelf.store l.shelf) l.name l.from;
      taken : taker.taken l.taker ≡ taker.taken l.fn.taker + l.from;
      spent : taker.spent l.taker ≡ true → taker.spent l.fn.taker ≡ true;
      causes : ReadCauses (shelf.store l.fn.shelf).counts (shelf.store l.shelf).counts l.name false false;
    }

abbrev pub decreases-parts : goal.decreases-parts
decreases-parts g l = l.limit - l.from
