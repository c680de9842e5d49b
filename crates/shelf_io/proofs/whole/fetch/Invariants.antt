use Rattle.std.proofs.Common.{◌≡◌, ◌≤◌, ◌-◌, vec_len, false}
use Rattle.shelf_terms.specs.Causes.{ReadCauses}
use Rattle.shelf_io.proofs.Prefixes.{IsFront}
use Rattle.shelf_io.proofs.Coming.{IsComing}
use Rattle.shelf_io.proofs.whole.fetch.Given as goal

abbrev pub invariant-parts : goal.invariant-parts
invariant-parts g l =
    let shelf = g.S.Shelf in
    record {
      short : vec_len l.whole ≤ l.limit;
      same : (shelf.store l.shelf).told ≡ (shelf.store l.fn.shelf).told;
      prefix : IsFront (shelf.store l.fn.shelf).told l.name l.whole.items;
      came : IsComing l.name l.whole.items (shelf.store l.fn.shelf).events (shelf.store l.shelf).events;
      causes : ReadCauses (shelf.store l.fn.shelf).counts (shelf.store l.shelf).counts l.name false false;
    }

abbrev pub decreases-parts : goal.decreases-parts
decreases-parts g l = l.limit - vec_len l.whole
