use Rattle.std.proofs.Common.{◌≡◌, drop}
use Rattle.std.specs.Prelude.{nat_le}
use Rattle.std.specs.List.{find}
use Rattle.title_store.proofs.build.first_beyond.Given as goal

abbrev pub invariant-marks : goal.invariant-marks
invariant-marks l = find (λ segment. nat_le l.count segment) (drop l.segment-index l.design.marked) ≡ find (λ segment. nat_le l.count segment) l.design.marked
