use Rattle.std.proofs.Common.{◌≡◌, ◌∙◌, ◌/◌, ◌%◌, ◌<◌, ℕ, Some, sym, subst, arith}
use Rattle.title_terms.specs.Titles.{Title, digest_at}
use Rattle.title_store.specs.Builds.{Build}
use Rattle.title_store.proofs.Wholes.{digest_is, not_added, added_at}
use Rattle.title_store.proofs.title.Title.find.Goals as goal

pub returns-in-Some-clause-found : goal.returns-in-Some-clause-found
returns-in-Some-clause-found c =
    let b : Build = record { design = c.self.inside.design; list = c.self.inside.list; cells = c.self.inside.table } in
    let size : ℕ = c.symbols-symbols.result in
    let cell : ℕ = c.in-Some.cell in
    let some : 0 < size = omega (arith, c.symbols-symbols.ensures.low) in
    subst (λ (t : Title). digest_at t (cell / size) (cell % size) ≡ Some c.args.digest.now.bytes) c.self.view_is
    (digest_is b c.self.invariant.full (cell / size) (cell % size) ∙ added_at b cell c.args.digest.now.bytes size (sym c.symbols-symbols.ensures.number) some c.in-Some.ensures)

pub returns-in-None-clause-found : goal.returns-in-None-clause-found
returns-in-None-clause-found c = λ place symbol e.
    let b : Build = record { design = c.self.inside.design; list = c.self.inside.list; cells = c.self.inside.table } in
    let at : digest_at c.args.self.now place symbol ≡ Some c.args.digest.now.bytes = e in
    not_added b c.args.digest.now.bytes c.in-None.ensures place symbol
    (sym (digest_is b c.self.invariant.full place symbol) ∙ subst (λ (t : Title). digest_at t place symbol ≡ Some c.args.digest.now.bytes) (sym c.self.view_is) at)
