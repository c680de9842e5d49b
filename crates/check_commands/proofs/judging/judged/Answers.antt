use Rattle.copy_io.proofs.MetDemands.{some_places, not_more, small_symbols, bound_allowed}
use Rattle.check_commands.proofs.judging.judged.Goals as goal

pub judged_word-requires : goal.judged_word-requires
judged_word-requires g c =
    let t = c.args.title.now in
    let e = c.args.register.now in
    let valid = c.places-places.ensures.valid in
    record {
      least = some_places t e valid c.requires.same_code _ c.requires.places;
      most = not_more t e valid c.requires.same_code _ c.requires.places;
      symbols = small_symbols t e valid c.requires.same_code c.args.word.now c.requires.symbols;
      bound = bound_allowed t e valid c.requires.same_code c.args.findings.now.bound c.requires.served;
    }
