use Rattle.std.proofs.Common.{◌≡◌, drop, []}
use Rattle.title_terms.specs.DesignRules.{marks_behind}
use Rattle.designs.specs.Answers.{AreMarks}
use Rattle.designs.proofs.judging.judge_marks.Given as goal

abbrev pub invariant-marks : goal.invariant-marks
invariant-marks l = record {
  so_far : marks_behind l.marks.items (drop l.item-index l.wanted) ≡ marks_behind [] l.wanted;
  are : AreMarks l.marks.items;
}
