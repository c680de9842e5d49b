use Rattle.std.proofs.Common.{◌≡◌, true, false, sym, ◌∙◌, ap, refl}
use Rattle.std.specs.Str.{bytes_eq}
use Rattle.desk_terms.specs.Roll.{roll_of}
use Rattle.lic_register.specs.Index.{shown}
use Rattle.report_terms.specs.Verdicts.{is_enrolled}
use Rattle.report_check.proofs.Licensees.{nobody_enrolled, enrolled_by_name, serial_enrolled, is_false, is_true}
use Rattle.report_check.proofs.listed.message_of.Goals as goal

pub returns-in-None-clause-found : goal.returns-in-None-clause-found
returns-in-None-clause-found g c = rw (nobody_enrolled c.args.register.now c.args.one.now c.in-None.ensures.found) refl

pub returns-then-ne-clause-found : goal.returns-then-ne-clause-found
returns-then-ne-clause-found g c =
    let another : bytes_eq c.in-Some.licensee.name.now c.args.one.now.name ≡ false =
    ap (bytes_eq c.in-Some.licensee.name.now) (sym c.as_str.ensures) ∙ is_false (bytes_eq c.in-Some.licensee.name.now c.as_str.result.now) c.if-ne.ensures in
    let not_so : is_enrolled (roll_of c.args.register.now) c.args.one.now ≡ false = enrolled_by_name c.args.register.now c.args.one.now (shown c.in-Some.licensee) c.in-Some.ensures.found ∙ another in
    rw not_so refl

pub returns-clause-found : goal.returns-clause-found
returns-clause-found g c =
    let same : bytes_eq c.in-Some.licensee.name.now c.args.one.now.name ≡ true =
    ap (bytes_eq c.in-Some.licensee.name.now) (sym c.as_str.ensures) ∙ is_true (bytes_eq c.in-Some.licensee.name.now c.as_str.result.now) c.if-ne.ensures in
    let so : is_enrolled (roll_of c.args.register.now) c.args.one.now ≡ true = enrolled_by_name c.args.register.now c.args.one.now (shown c.in-Some.licensee) c.in-Some.ensures.found ∙ same in
    c.message_at.ensures.found ∙ rw (serial_enrolled c.args.register.now c.args.one.now (shown c.in-Some.licensee) c.in-Some.ensures.found, so) refl
