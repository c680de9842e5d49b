use Rattle.std.proofs.Common.{◌≡◌, ◌++◌, take, map}
use Rattle.std.specs.List.{flat_map}
use Rattle.form_terms.specs.TextLines.{line}
use Rattle.register_terms.specs.RegisterText.{licensee_line}
use Rattle.register_terms.specs.declared.edition.Edition.TheVariants.{Newer}
use Rattle.lic_register.specs.Index.{entry_licensees}
use Rattle.lic_register.proofs.writing.put_licensees.Given as goal

abbrev pub invariant-loop-serial : goal.invariant-loop-serial
invariant-loop-serial l = l.out.items ≡ l.fn.out.items ++ flat_map line (map (licensee_line Newer) (entry_licensees (take l.serial l.licensees.entries)))
