use Rattle.std.proofs.Common.{◌≡◌, ◌+◌, ◌*◌, take, arith}
use Rattle.trace_desk.proofs.Known.{not_before, known_step}
use Rattle.trace_desk.proofs.desk.known.Goals as goal

pub messages-preserved : goal.messages-preserved
messages-preserved g c =
    let roll = g.B.Book.roll c.args.book.now in
    let one : (c.messages.i + 1) * (c.args.code.now.places * c.args.code.now.dimension) ≡ c.messages.i * (c.args.code.now.places * c.args.code.now.dimension) + c.args.code.now.places * c.args.code.now.dimension =
    omega arith in
    record {
      known = known_step roll c.args.pairs.now c.args.messages.now c.messages.i c.index-messages-i.result c.look_up.new.accused.items (omega arith) c.index-messages-i.is
          (c.in_ok-look_up.ensures.known (take c.messages.i c.args.messages.now) c.messages.invariant.known
          (not_before c.args.messages.now c.messages.i c.index-messages-i.result c.requires.apart (omega arith) c.index-messages-i.is));
      products = omega (arith, c.messages.invariant.products, c.look_up.ensures.products);
      looks = omega (arith, c.messages.invariant.looks, c.look_up.ensures.looks);
    }
