use Rattle.std.proofs.Common.{true, false}
use Rattle.line_reader.proofs.Cuts.{read_line, no_line, fewer_lines}
use Rattle.line_reader.proofs.lines.Lines.next_line.Goals as goal

pub returns-in-Some-clause-found : goal.returns-in-Some-clause-found
returns-in-Some-clause-found g c = rw (← c.self.view_is) (read_line c.args.missing c.args.unended c.self.inside.number c.self.inside.rest.now c.in-Some.text.now c.in-Some.rest.now c.in-Some.ensures.parts)

pub returns-in-Some-clause-fewer : goal.returns-in-Some-clause-fewer
returns-in-Some-clause-fewer g c = rw (← c.self.view_is) (fewer_lines c.self.inside.rest.now c.in-Some.text.now c.in-Some.rest.now c.in-Some.ensures.parts)

pub returns-in-None-clause-found : goal.returns-in-None-clause-found
returns-in-None-clause-found g c =
    rw (c.next_fault.ensures, ← c.self.view_is) (no_line c.args.missing c.args.unended c.self.inside.number c.self.inside.rest.now true c.in-None.ensures.parts c.if-is_empty.ensures)

pub returns-in-None-2-clause-found : goal.returns-in-None-2-clause-found
returns-in-None-2-clause-found g c =
    rw (c.next_fault-in-None-2.ensures, ← c.self.view_is) (no_line c.args.missing c.args.unended c.self.inside.number c.self.inside.rest.now false c.in-None-2.ensures.parts c.if-is_empty.ensures)
