use Rattle.std.proofs.Common.{◌≡◌, ◌++◌, ℕ, List, map, sym, ap, ◌∙◌}
use Rattle.std.specs.List.{flat_map}
use Rattle.form_terms.specs.TextLines.{line}
use Rattle.register_terms.specs.RegisterText.{header_lines, licensee_line, register_text}
use Rattle.register_terms.specs.declared.edition.Edition.TheVariants.{Newer}
use Rattle.lic_register.specs.Index.{entry_licensees}
use Rattle.lic_register.specs.Parts.{register_by}
use Rattle.lic_register.proofs.Entries.{text_of_parts}
use Rattle.lic_register.proofs.register.Register.write.Goals as goal

pub returns-clause-text : goal.returns-clause-text
returns-clause-text g c =
    let licensees = entry_licensees c.self.inside.licensees.entries in
    let first : List ℕ = flat_map line (header_lines Newer (register_by c.self.inside.rule)) in
    let others : List ℕ = flat_map line (map (licensee_line Newer) licensees) in
    c.in_ok-put_licensees.ensures
    ∙ ap (λ (bytes : List ℕ). bytes ++ others) (c.in_ok-put_header.ensures ∙ ap (λ (bytes : List ℕ). bytes ++ first) c.new-out.ensures.items)
    ∙ sym (text_of_parts c.self.inside.rule licensees)
    ∙ ap register_text c.self.view_is
