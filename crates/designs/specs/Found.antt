-- What is found in a document's table.
use Rattle.std.specs.Prelude.{◌≡◌, Result, Ok, Err}
use Rattle.toml.specs.View.{items_view}
use Rattle.title_terms.specs.declared.fault.DesignFault.{DesignFault}
use Rattle.title_terms.specs.DesignRules.{Proposal}
use Rattle.title_terms.specs.DesignText.{marks_said}
use Rattle.designs.specs.declared.document.Fields.{Fields}

-- what was found, seen so, or the fault
abbrev pub Finds : {X A : Type 0} → (X → A) → Result X DesignFault → Result A DesignFault → Type 0
Finds view (Ok x) wanted = wanted ≡ Ok (view x)
Finds view (Err fault) wanted = wanted ≡ Err fault

-- the values at the seven keys
abbrev pub fields_said : Fields → Proposal
fields_said f = record { name = f.name.now; bits = f.bits; dimension = f.dimension; bound = f.bound; prefix = f.prefix.now; suffix = f.suffix.now; marked = marks_said (items_view f.marked.now.items) }
