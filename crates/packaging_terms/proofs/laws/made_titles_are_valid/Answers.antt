use Rattle.std.proofs.Common.{◌∙◌, sym, ap}
use Rattle.title_terms.specs.Titles.{Title}
use Rattle.packaging_terms.specs.Making.{title_with}
use Rattle.packaging_terms.proofs.Made.{was_made, made_valid, made_holds}
use Rattle.packaging_terms.proofs.laws.made_titles_are_valid.Goals as goal

pub returns : goal.returns
returns c = record {
  valid = made_valid;
  parts = λ limit blobs d p t is. let same = (was_made limit blobs d p t is).is in same ∙ ap (λ (u : Title). title_with d p u.digests) (sym same);
  held = made_holds;
}
