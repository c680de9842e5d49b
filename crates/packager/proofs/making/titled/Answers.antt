use Rattle.std.proofs.Common.{◌∙◌, sym, ap, Some}
use Rattle.outcome_terms.specs.Stores.{no_memory}
use Rattle.packager.specs.Refusals.{refusal_of}
use Rattle.packager.proofs.Titles.{no_segment, was_titled, not_titled}
use Rattle.packager.proofs.making.titled.Goals as goal

pub returns-in-Err-NoSegment : goal.returns-in-Err-NoSegment
returns-in-Err-NoSegment g c =
    no_segment c.args.design c.args.source _ _ ((rw c.in-Err-NoSegment.field-0-is at c.in-Err-NoSegment.ensures) ∙ ap Some (sym c.in-Err-NoSegment.segment-is))

pub returns-in-Err-Memory : goal.returns-in-Err-Memory
returns-in-Err-Memory g c = no_memory

pub returns-in-Ok-add_variants : goal.returns-in-Ok-add_variants
returns-in-Ok-add_variants g c =
    was_titled c.args.design c.args.source c.in-Ok.builder c.add_variants.new.builder c.finish.result _ _ c.in-Ok.ensures.0 c.in-Ok.ensures.1 c.in-Ok-add_variants.ensures c.finish.ensures

pub returns-in-Err : goal.returns-in-Err
returns-in-Err g c =
    not_titled c.args.design c.args.source c.in-Ok.builder (refusal_of c.in-Err.error) _ _ c.in-Ok.ensures.0 c.in-Ok.ensures.1 c.in-Err.ensures
