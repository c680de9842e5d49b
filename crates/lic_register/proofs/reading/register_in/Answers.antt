use Rattle.std.proofs.Common.{◌≡◌, ◌+◌, true, rules, eqb, length, Ok, Err, sym, ap, ◌∙◌, subst, refl, arith}
use Rattle.std.proofs.lemmas.Result.{err_from_is_err_and}
use Rattle.register_terms.specs.RegisterText.{header_form}
use Rattle.lic_register.specs.Parts.{register_by, register_at}
use Rattle.lic_register.proofs.LicenseeLines.{at_start, first_lines_read, first_lines_refused, all_read}
use Rattle.lic_register.proofs.reading.register_in.Goals as goal

pub first_lines-requires : goal.first_lines-requires
first_lines-requires c = record { start = ap (λ at. at.number) c.of-lines.ensures ∙ at_start c.args.bytes.now }

pub returns-in_err-edition : goal.returns-in_err-edition
returns-in_err-edition c =
    let p = err_from_is_err_and c.from_residual.result c.from_residual.ensures.1 in
    rw (p.1, p.2) (first_lines_refused c.args.bytes.now c.in_err-edition.field-0.0 (subst (λ at. header_form at ≡ Err c.in_err-edition.field-0.0) c.of-lines.ensures c.in_err-edition.ensures.found))

pub loop-lines-init : goal.loop-lines-init
loop-lines-init c =
    let is : header_form c.of-lines.result ≡ Ok ((c.in_ok-edition.edition, register_by c.in_ok-edition.rule), c.first_lines.new.lines) = c.in_ok-edition.ensures.found in
    let start = subst (λ at. header_form at ≡ Ok ((c.in_ok-edition.edition, register_by c.in_ok-edition.rule), c.first_lines.new.lines)) c.of-lines.ensures is in
    rw c.by_rule-register.ensures (first_lines_read c.in_ok-edition.edition (register_by c.in_ok-edition.rule) c.args.bytes.now c.first_lines.new.lines start refl, c.in_ok-edition.ensures.counted)

pub returns : goal.returns
returns c =
    let over : eqb (length c.loop-lines.lines.lines + length c.loop-lines.lines.tail) 0 ≡ true = search rules in
    sym c.loop-lines.invariant.0 ∙ all_read c.in_ok-edition.edition c.loop-lines.register c.loop-lines.lines over
