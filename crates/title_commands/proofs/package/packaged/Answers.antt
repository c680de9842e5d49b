use Rattle.std.proofs.Common.{◌≡◌, ◌∙◌, sym, ap, Err, true, false}
use Rattle.packaging_terms.specs.Licensees.{fits}
use Rattle.outcome_terms.specs.declared.fault.Fault.TheVariants.{Unknown, Withdrawn}
use Rattle.outcome_terms.specs.Reading.{Give, Refuse}
use Rattle.outcome_terms.specs.Stores.{Exactly}
use Rattle.title_commands.proofs.Packaging.{mismatched, unknown, withdrawn, done}
use Rattle.title_commands.proofs.package.packaged.Goals as goal

pub returns-then-not-fits : goal.returns-then-not-fits
returns-then-not-fits g c =
    let fit : fits c.args.title.now c.args.register.now ≡ false = sym c.fits.ensures ∙ c.if-not-fits.true in
    mismatched c.args.title.now c.args.register.now c.args.name.now fit
    ∙ cc (c.bits.ensures.value, c.dimension.ensures.value, c.bits-then-not-fits.ensures.value, c.dimension-then-not-fits.ensures.value)

pub returns-in-None : goal.returns-in-None
returns-in-None g c =
    let fit : fits c.args.title.now c.args.register.now ≡ true = sym c.fits.ensures ∙ c.if-not-fits.false in
    unknown c.args.title.now c.args.register.now c.args.name.now fit (sym c.in-None.ensures.found)
    ∙ ap (λ name. Refuse (Unknown name)) (sym c.in_ok-of-in-None.ensures)

pub returns-in-Ok : goal.returns-in-Ok
returns-in-Ok g c =
    let fit : fits c.args.title.now c.args.register.now ≡ true = sym c.fits.ensures ∙ c.if-not-fits.false in
    done c.args.title.now c.args.register.now c.args.name.now c.in-Some.serial fit (sym c.in-Some.ensures.found) c.in-Ok.ensures.licensed.active
    ∙ ap (λ text. Give (Exactly text)) (sym c.in-Ok.ensures.text)

pub returns-in_ok-of-in-Err-Withdrawn : goal.returns-in_ok-of-in-Err-Withdrawn
returns-in_ok-of-in-Err-Withdrawn g c =
    let fit : fits c.args.title.now c.args.register.now ≡ true = sym c.fits.ensures ∙ c.if-not-fits.false in
    let gone = c.in-Err-Withdrawn.ensures.withdrawn (ap Err c.in-Err-Withdrawn.field-0-is) in
    withdrawn c.args.title.now c.args.register.now c.args.name.now c.in-Some.serial fit (sym c.in-Some.ensures.found) gone.inactive
    ∙ ap (λ name. Refuse (Withdrawn name)) (sym c.in_ok-of-in-Err-Withdrawn.ensures)
