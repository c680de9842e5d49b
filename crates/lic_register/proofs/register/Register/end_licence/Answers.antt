use Rattle.std.proofs.Common.{sym, ap, ◌∙◌, subst}
use Rattle.register_terms.specs.Enrolment.{IsValid}
use Rattle.register_terms.specs.Rules.{with_withdrawn}
use Rattle.register_terms.proofs.Withdrawing.{with_withdrawn-valid}
use Rattle.lic_register.specs.Index.{register_with, entry_licensees}
use Rattle.lic_register.proofs.Entries.{withdrawn_entry}
use Rattle.lic_register.proofs.register.Register.end_licence.Goals as goal

pub invariant_of-self : goal.invariant_of-self
invariant_of-self c =
    subst (λ licensees. IsValid (register_with c.self.inside.rule licensees)) (sym (withdrawn_entry c.self.inside.licensees.entries c.args.serial))
    (with_withdrawn-valid (register_with c.self.inside.rule (entry_licensees c.self.inside.licensees.entries)) c.args.serial c.self.invariant)

pub returns : goal.returns
returns c =
    ap (register_with c.self.inside.rule) (withdrawn_entry c.self.inside.licensees.entries c.args.serial) ∙ ap (λ e. with_withdrawn e c.args.serial) c.self.view_is
