use Rattle.std.proofs.Common.{◌∙◌, ap, ℕ, get_or, Option, Some}
use Rattle.packaging_terms.specs.Licensees.{uri_at}
use Rattle.packaging_terms.proofs.Lists.{marked_at, licensed_at}
use Rattle.packaging_terms.proofs.laws.licensees_get_their_variants.Goals as goal

pub returns-clause-marked : goal.returns-clause-marked
returns-clause-marked c =
    λ t e serial place s valid inside held.
    licensed_at t e serial (get_or t.design.marked place 0) s held
    ∙ ap (λ (o : Option ℕ). Some (record s { uri = uri_at t e serial s.uri o })) (marked_at t.design place valid.design inside)

pub returns-clause-others : goal.returns-clause-others
returns-clause-others c =
    λ t e serial i s unmarked held.
    licensed_at t e serial i s held ∙ ap (λ (o : Option ℕ). Some (record s { uri = uri_at t e serial s.uri o })) unmarked
