use Rattle.copy_io.proofs.MetDemands.{some_places, not_more, small_symbols, bound_allowed}
use Rattle.trace_commands.proofs.trace_command.report.Goals as goal

pub report_on-requires : goal.report_on-requires
report_on-requires g c =
    let t = c.args.title.now in
    let e = c.args.register.now in
    let valid = c.places-places.ensures.valid in
    record {
      least = some_places t e valid c.requires.same_code _ c.requires.places;
      most = not_more t e valid c.requires.same_code _ c.requires.places;
      symbols = small_symbols t e valid c.requires.same_code c.args.word.now c.requires.symbols;
      bound = bound_allowed t e valid c.requires.same_code c.args.bound c.requires.served;
    }
