use Rattle.std.proofs.Common.{◌+◌, ◌*◌, ◌≤◌, take}
use Rattle.trace_desk.specs.Known.{AreKnown}
use Rattle.trace_desk.proofs.desk.known.Given as goal

-- Those who have one of the first i messages.
abbrev pub invariant-messages : goal.invariant-messages
invariant-messages g l = record {
  known : AreKnown (g.B.Book.roll l.book) l.pairs (take l.i l.messages) l.accused.items;
  products : l.prods ≤ l.fn.prods + l.i * (l.code.places * l.code.dimension);
  looks : l.looks ≤ l.fn.looks + l.i;
}
