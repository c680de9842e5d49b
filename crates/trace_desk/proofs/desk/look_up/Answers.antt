use Rattle.std.proofs.Common.{◌≡◌, ◌++◌, [], ◌∷◌, refl, sym, ◌∙◌, ap₂, subst}
use Rattle.pair_terms.specs.Pairs.{fitting_places}
use Rattle.desk_terms.specs.declared.findings.Accused.{Accused}
use Rattle.trace_desk.specs.Known.{AreKnown}
use Rattle.trace_desk.proofs.Known.{nobody_known, one_known}
use Rattle.trace_desk.proofs.desk.look_up.Goals as goal

pub returns-in-None-clause-known : goal.returns-in-None-clause-known
returns-in-None-clause-known g c =
    λ earlier known another.
    nobody_known (g.B.Book.roll c.args.book.now) c.args.pairs.now earlier c.args.accused.now.items known c.args.message (c.in-None.ensures.none refl)

pub returns-in_ok-push-in-Some-clause-known : goal.returns-in_ok-push-in-Some-clause-known
returns-in_ok-push-in-Some-clause-known g c =
    λ earlier known another.
    let roll = g.B.Book.roll c.args.book.now in
    let one : Accused = c.in_ok-one-in-Some.one in
    let said : one ≡ record { serial = c.in-Some.serial; name = c.in-Some.licensee.name.now; places = fitting_places roll.bits roll.dimension c.args.message c.args.pairs.now } =
    c.in_ok-one-in-Some.ensures.said
    ∙ ap₂ (λ m k. record { serial = c.in-Some.serial; name = c.in-Some.licensee.name.now; places = fitting_places m k c.args.message c.args.pairs.now }) c.requires.bits c.requires.dimension in
    subst (AreKnown roll c.args.pairs.now (earlier ++ c.args.message ∷ [])) (sym c.in_ok-push-in-Some.ensures.items)
    (one_known roll c.args.pairs.now earlier c.args.accused.now.items known c.args.message c.in-Some.ensures.kept another c.in-Some.serial c.in-Some.licensee.name.now c.in-Some.ensures.some one said)
