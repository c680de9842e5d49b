use Rattle.std.proofs.Common.{◌≡◌, false, filter, get_or}
use Rattle.std.specs.List.{range_with_len}
use Rattle.std.specs.Option.{option_to_list}
use Rattle.copy_match.proofs.reader.only_flag.Given as goal

-- what was found is all that is set so far
abbrev pub invariant-flags : goal.invariant-flags
invariant-flags l = option_to_list l.found ≡ filter (λ symbol. get_or l.flags symbol false) (range_with_len 0 l.symbol)
