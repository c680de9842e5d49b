use Rattle.std.proofs.Common.{◌≡◌, ◌∙◌, ap, ap₂, sym, subst, ℕ, ◌*◌, ◌<◌, ◌≤◌, true, false, List, length, Err, arith}
use Rattle.register_terms.specs.Enrolment.{Enrolment}
use Rattle.register_terms.specs.Rules.{is_active}
use Rattle.packager.specs.Licences.{IsWithdrawn}
use Rattle.title_terms.specs.Designs.{places}
use Rattle.title_terms.specs.Titles.{Title}
use Rattle.packaging_terms.specs.Licensees.{fits, licensed_text}
use Rattle.sample_maker.proofs.Copies.{fitting, title_bits, title_cost, text_short, active}
use Rattle.sample_maker.proofs.Traced.{enrolled_are}
use Rattle.sample_maker.proofs.playlists.list_for.Goals as goal

pub playlist-requires-clause-fits : goal.playlist-requires-clause-fits
playlist-requires-clause-fits g c = ap₂ fits c.requires.title c.requires.register ∙ fitting c.args.number

pub playlist-requires-clause-field : goal.playlist-requires-clause-field
playlist-requires-clause-field g c = sym (ap (λ (t : Title). t.design.bits) c.requires.title ∙ title_bits c.args.number)

pub read-requires : goal.read-requires
read-requires g c =
    let text : c.as_slice.result.now ≡ licensed_text c.args.title.now c.args.register.now c.args.serial = c.as_slice.ensures.value ∙ c.in-Ok.ensures.text in
    let whole = text ∙ ap₂ (λ (t : Title) (e : Enrolment). licensed_text t e c.args.serial) c.requires.title c.requires.register in
    subst (λ (bytes : List ℕ). length bytes < 4294967296) (sym whole) (text_short c.args.number c.args.serial)

pub returns-in-Ok-read-clause-products : goal.returns-in-Ok-read-clause-products
returns-in-Ok-read-clause-products g c =
    let cost : places c.args.title.now.design * c.args.title.now.design.dimension ≡ 192 = ap (λ (t : Title). places t.design * t.design.dimension) c.requires.title ∙ title_cost c.args.number in
    omega (arith, c.playlist.ensures.products, cost)

pub returns-in-Err-Memory-read-clause-products : goal.returns-in-Err-Memory-read-clause-products
returns-in-Err-Memory-read-clause-products g c =
    let cost : places c.args.title.now.design * c.args.title.now.design.dimension ≡ 192 = ap (λ (t : Title). places t.design * t.design.dimension) c.requires.title ∙ title_cost c.args.number in
    omega (arith, c.playlist.ensures.products, cost)

pub returns-clause-products : goal.returns-clause-products
returns-clause-products g c =
    let cost : places c.args.title.now.design * c.args.title.now.design.dimension ≡ 192 = ap (λ (t : Title). places t.design * t.design.dimension) c.requires.title ∙ title_cost c.args.number in
    omega (arith, c.playlist.ensures.products, cost)

pub unreachable-requires-in-Err-NoSuchSerial : goal.unreachable-requires-in-Err-NoSuchSerial
unreachable-requires-in-Err-NoSuchSerial g c =
    let gone : length c.args.register.now.licensees ≤ c.args.serial = c.playlist.ensures.no_such_serial.0 (c.in-Err-NoSuchSerial.is ∙ ap Err c.in-Err-NoSuchSerial.field-0-is) in
    omega (arith, gone, ap (λ (e : Enrolment). length e.licensees) c.requires.register, enrolled_are 1000 c.args.number, c.requires.serial)

pub unreachable-requires-in-Err-Withdrawn : goal.unreachable-requires-in-Err-Withdrawn
unreachable-requires-in-Err-Withdrawn g c =
    let withdrawn : IsWithdrawn c.args.register.now c.args.serial = c.playlist.ensures.withdrawn.0 (c.in-Err-Withdrawn.is ∙ ap Err c.in-Err-Withdrawn.field-0-is) in
    let yes : is_active c.args.register.now c.args.serial ≡ true = ap (λ (e : Enrolment). is_active e c.args.serial) c.requires.register ∙ active 1000 c.args.number c.args.serial c.requires.serial in
    let no : is_active c.args.register.now c.args.serial ≡ false = withdrawn.inactive in
    cc
