use Rattle.m3u8_text.specs.Readers.{Stands}
use Rattle.title_io.proofs.Stopped.{memory_pours}
use Rattle.title_io.proofs.playlist.poured.Goals as goal

pub returns-in_err-of-in-Err-Missing : goal.returns-in_err-of-in-Err-Missing
returns-in_err-of-in-Err-Missing g c =
    memory_pours c.args.name.now (g.S.Shelf.store c.args.shelf.now) (g.S.Shelf.store c.pour.new.shelf) (Stands c.pour.new.taker)
    c.in-Err-Missing.field-0 c.from_residual.result c.from_residual.ensures.1
    c.pour.ensures.same c.in-Err-Missing.ensures.causes c.in-Err-Missing.ensures.refused

pub returns-in_err-of-in-Err-Fault : goal.returns-in_err-of-in-Err-Fault
returns-in_err-of-in-Err-Fault g c =
    memory_pours c.args.name.now (g.S.Shelf.store c.args.shelf.now) (g.S.Shelf.store c.pour.new.shelf) (Stands c.pour.new.taker)
    c.in-Err-Fault.field-0 c.from_residual-in_err-of-in-Err-Fault.result c.from_residual-in_err-of-in-Err-Fault.ensures.1
    c.pour.ensures.same c.in-Err-Fault.ensures.causes c.in-Err-Fault.ensures.refused
