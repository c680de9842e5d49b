use Rattle.std.proofs.Common.{Err, ap, sym, subst, ◌∙◌}
use Rattle.std.proofs.lemmas.Result.{err_from_is_err_and}
use Rattle.lic_register.specs.Parts.{read_licensee, register_at, Admits}
use Rattle.lic_register.proofs.LicenseeLines.{goes_on, refused_name, refused_line}
use Rattle.lic_register.proofs.reading.enrol_line.Goals as goal

pub returns-in_err-line-clause-goes_on : goal.returns-in_err-line-clause-goes_on
returns-in_err-line-clause-goes_on c =
    let p = err_from_is_err_and c.from_residual.result c.from_residual.ensures.1 in
    rw (p.1, p.2) (refused_line c.args.edition c.args.register.now c.args.lines.now c.in_err-line.field-0.0 c.requires.more c.in_err-line.ensures.found)

pub returns-in-Ok-clause-goes_on : goal.returns-in-Ok-clause-goes_on
returns-in-Ok-clause-goes_on c =
    goes_on c.args.edition c.args.register.now c.args.lines.now c.licensee_line.new.lines (read_licensee c.in_ok-line.line) c.in_ok-line.ensures.found c.in-Ok.ensures.0
    ∙ ap (λ e. register_at c.args.edition e c.licensee_line.new.lines) (sym c.in-Ok.ensures.1)

pub returns-in-Err-Kind-clause-goes_on : goal.returns-in-Err-Kind-clause-goes_on
returns-in-Err-Kind-clause-goes_on c =
    let refused = subst (λ hindrance. Admits (Err hindrance) c.args.register.now c.admit.new.register c.in_ok-line.line.name.now c.in_ok-line.line.active) c.in-Err-Kind.field-0-is c.in-Err-Kind.ensures in
    rw (c.into.ensures, c.fault.ensures) (refused_name c.args.edition c.args.register.now c.args.lines.now c.licensee_line.new.lines (read_licensee c.in_ok-line.line) c.in-Err-Kind.kind c.in_ok-line.ensures.found refused)
