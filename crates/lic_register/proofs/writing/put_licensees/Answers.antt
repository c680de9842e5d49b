use Rattle.std.proofs.Common.{◌≡◌, ◌++◌, ◌+◌, ℕ, Bool, Global, String, List, take, map, Some, sym, ap, ◌∙◌, append_assoc}
use Rattle.std.specs.Prelude.{slice_get}
use Rattle.std.specs.List.{flat_map}
use Rattle.std.specs.Option.{option_map}
use Rattle.form_terms.specs.TextLines.{line}
use Rattle.register_terms.specs.RegisterText.{licensee_line}
use Rattle.register_terms.specs.declared.edition.Edition.TheVariants.{Newer}
use Rattle.lic_register.specs.Index.{entry_licensees}
use Rattle.lic_register.proofs.Entries.{one_more_line}
use Rattle.lic_register.proofs.writing.put_licensees.Goals as goal

pub loop-serial-preserved : goal.loop-serial-preserved
loop-serial-preserved c =
    let entries = c.args.licensees.now.entries in
    let entry : String Global × Bool = (c.unwrap.result.0.now, c.unwrap.result.1.now) in
    let there : slice_get entries c.loop-serial.serial ≡ Some entry = sym c.get_index.ensures.entry ∙ ap (option_map (λ p. (p.0.now, p.1.now))) c.unwrap.ensures in
    let text : List ℕ = line (licensee_line Newer (record { name = c.as_str.result.now; active = c.unwrap.result.1.now })) in
    let before : List ℕ = flat_map line (map (licensee_line Newer) (entry_licensees (take c.loop-serial.serial entries))) in
    c.in_ok-put_licensee.ensures
    ∙ ap (λ (bytes : List ℕ). bytes ++ text) c.loop-serial.invariant
    ∙ append_assoc c.args.out.now.items before text
    ∙ ap (λ (name : List ℕ). c.args.out.now.items ++ (before ++ line (licensee_line Newer (record { name = name; active = c.unwrap.result.1.now })))) c.as_str.ensures.value
    ∙ ap (λ (bytes : List ℕ). c.args.out.now.items ++ bytes) (sym (one_more_line entries c.loop-serial.serial entry there))
