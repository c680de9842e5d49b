use Rattle.std.proofs.Common.{◌≡◌, map}
use Rattle.std.specs.List.{range_with_len}
use Rattle.copy_match.specs.Readers.{only_flag, flags_at}
use Rattle.copy_match.proofs.reader.CopyReader.word.Given as goal

-- the slots of the places before this one
abbrev pub invariant-places : goal.invariant-places
invariant-places l = l.slots.items ≡ map (λ place. only_flag (flags_at l.fn.self place)) (range_with_len 0 l.place)
