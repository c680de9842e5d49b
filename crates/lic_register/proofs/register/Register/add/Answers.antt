use Rattle.std.proofs.Common.{◌≡◌, ◌++◌, ◌∷◌, [], ap, sym, ◌∙◌, subst, None}
use Rattle.register_terms.specs.Enrolment.{Licensee, Enrolment, IsValid}
use Rattle.register_terms.specs.Rules.{refusal_of, with_licensee}
use Rattle.register_terms.proofs.Growing.{is_welcome, with_licensee-valid}
use Rattle.lic_register.specs.Index.{entry_licensees, register_with}
use Rattle.lic_register.proofs.Entries.{one_more_entry}
use Rattle.lic_register.proofs.register.Register.add.Goals as goal

pub invariant_of-self-2 : goal.invariant_of-self-2
invariant_of-self-2 c =
    let before : Enrolment = register_with c.self.inside.rule (entry_licensees c.self.inside.licensees.entries) in
    let free : refusal_of before c.args.name.now ≡ None = subst (λ (e : Enrolment). refusal_of e c.args.name.now ≡ None) (sym c.self.view_is) c.requires in
    let welcome = is_welcome before c.args.name.now free in
    let added : Licensee = record { name = c.args.name.now; active = c.args.active } in
    let grown : entry_licensees c.insert.new.self.entries ≡ entry_licensees c.self.inside.licensees.entries ++ added ∷ [] = ap entry_licensees c.in_ok-insert.ensures.entries ∙ one_more_entry c.self.inside.licensees c.in_ok-key.key c.args.active c.args.name.now c.in_ok-key.ensures.ok welcome.new in
    subst (λ licensees. IsValid (register_with c.self.inside.rule licensees)) (sym grown) (with_licensee-valid before added c.self.invariant welcome)

pub returns-clause-added : goal.returns-clause-added
returns-clause-added c =
    let before : Enrolment = register_with c.self.inside.rule (entry_licensees c.self.inside.licensees.entries) in
    let free : refusal_of before c.args.name.now ≡ None = subst (λ (e : Enrolment). refusal_of e c.args.name.now ≡ None) (sym c.self.view_is) c.requires in
    let welcome = is_welcome before c.args.name.now free in
    let added : Licensee = record { name = c.args.name.now; active = c.args.active } in
    let grown : entry_licensees c.insert.new.self.entries ≡ entry_licensees c.self.inside.licensees.entries ++ added ∷ [] = ap entry_licensees c.in_ok-insert.ensures.entries ∙ one_more_entry c.self.inside.licensees c.in_ok-key.key c.args.active c.args.name.now c.in_ok-key.ensures.ok welcome.new in
    ap (register_with c.self.inside.rule) grown ∙ ap (λ (e : Enrolment). with_licensee e added) c.self.view_is
