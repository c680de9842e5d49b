use Rattle.std.proofs.Common.{◌≡◌, ◌∙◌, subst, Err}
use Rattle.std.specs.List.{range_with_len}
use Rattle.designs.specs.declared.errors.DesignError.{DesignError}
use Rattle.designs.specs.Answers.{Gives}
use Rattle.sample_maker.proofs.Lists.{design_made, none_refused, of_marks}
use Rattle.sample_maker.proofs.source.design.Goals as goal

pub returns-in-Ok : goal.returns-in-Ok
returns-in-Ok c = design_made c.as_slice.result.now c.in-Ok.design (c.as_slice.ensures.value ∙ c.in_ok-marked.ensures) c.in-Ok.ensures

pub unreachable-requires : goal.unreachable-requires
unreachable-requires c =
    let marks : c.as_slice.result.now ≡ range_with_len 0 64 = c.as_slice.ensures.value ∙ c.in_ok-marked.ensures in
    none_refused c.as_slice.result.now c.in-Err-NotDesign.field-0-0 marks
    (subst (λ (e : DesignError). Gives (Err e) (of_marks c.as_slice.result.now)) c.in-Err-NotDesign.field-0-is c.in-Err-NotDesign.ensures)
