use Rattle.std.proofs.Common.{◌≡◌, ◌∙◌, Some, None, sym, subst}
use Rattle.title_terms.specs.Titles.{Title, digest_at}
use Rattle.title_store.specs.Builds.{Build}
use Rattle.title_store.proofs.Wholes.{digest_in}
use Rattle.title_store.proofs.title.Title.digest.Goals as goal

pub returns-in-Some-at : goal.returns-in-Some-at
returns-in-Some-at c =
    let b : Build = record { design = c.self.inside.design; list = c.self.inside.list; cells = c.self.inside.table } in
    subst (λ (t : Title). Some c.in-Some-at.bytes ≡ digest_at t c.args.place c.args.symbol) c.self.view_is
    (sym (digest_in b c.self.invariant.full c.args.place c.args.symbol c.in-Some.cell (sym c.in-Some.ensures) ∙ sym c.in-Some-at.ensures))

pub returns-in-None-at : goal.returns-in-None-at
returns-in-None-at c =
    let b : Build = record { design = c.self.inside.design; list = c.self.inside.list; cells = c.self.inside.table } in
    subst (λ (t : Title). None ≡ digest_at t c.args.place c.args.symbol) c.self.view_is
    (sym (digest_in b c.self.invariant.full c.args.place c.args.symbol c.in-Some.cell (sym c.in-Some.ensures) ∙ sym c.in-None-at.ensures))
