use Rattle.std.proofs.Common.{rules, sym, ◌∙◌, ap}
use Rattle.register_terms.specs.Enrolment.{names_of, serial_of}
use Rattle.lic_register.proofs.Entries.{place_of_name}
use Rattle.lic_register.proofs.register.Register.serial.Goals as goal

pub returns-in_err-place : goal.returns-in_err-place
returns-in_err-place c =
    c.from_residual.ensures ∙ sym c.in_err-place.was ∙ c.get_index_of.ensures.index ∙ place_of_name c.self.inside.licensees.entries c.args.name.now ∙ ap (λ e. serial_of (names_of e.licensees) c.args.name.now) c.self.view_is

pub returns : goal.returns
returns c =
    sym c.in_ok-place.was ∙ c.get_index_of.ensures.index ∙ place_of_name c.self.inside.licensees.entries c.args.name.now ∙ ap (λ e. serial_of (names_of e.licensees) c.args.name.now) c.self.view_is
