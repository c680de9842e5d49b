use Rattle.std.proofs.Common.{◌≡◌, take}
use Rattle.packager.proofs.Targets.{raised_by}
use Rattle.packager.proofs.marking.raised_target.Given as goal

abbrev pub invariant-segments : goal.invariant-segments
invariant-segments l = l.target ≡ raised_by l.fn.list.target (take l.segment-index l.segment-items)
