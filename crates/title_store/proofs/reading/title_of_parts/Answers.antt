use Rattle.std.proofs.Common.{◌≡◌, ℕ, List, ap, Ok, ◌∙◌, sym}
use Rattle.title_terms.specs.Designs.{Design}
use Rattle.title_terms.specs.DesignRules.{proposal, design_from}
use Rattle.designs.specs.Answers.{of_numbers}
use Rattle.title_store.specs.Cells.{filled}
use Rattle.title_store.specs.Reads.{head_view}
use Rattle.title_store.proofs.ReadTitles.{design_is, made_whole}
use Rattle.title_store.proofs.reading.title_of_parts.Goals as goal

pub invariant_of-result : goal.invariant_of-result
invariant_of-result c =
    let head = c.args.parts.head in
    let d : Design = record (head_view head) { marked = c.args.parts.marks.items } in
    let from : design_from (proposal d) ≡ Ok c.in-Ok.design =
    ap (λ (marks : List ℕ). design_from (of_numbers head.name.now head.bits head.dimension head.bound head.prefix.now head.suffix.now marks)) (sym c.as_slice.ensures.value) ∙ c.in-Ok.ensures in
    made_whole d c.in-Ok.design c.args.parts.list c.args.parts.table (design_is d c.in-Ok.design c.requires.valid.design from) c.requires.valid c.requires.full

pub returns-in-Ok-clause-made : goal.returns-in-Ok-clause-made
returns-in-Ok-clause-made c =
    let head = c.args.parts.head in
    let d : Design = record (head_view head) { marked = c.args.parts.marks.items } in
    let from : design_from (proposal d) ≡ Ok c.in-Ok.design =
    ap (λ (marks : List ℕ). design_from (of_numbers head.name.now head.bits head.dimension head.bound head.prefix.now head.suffix.now marks)) (sym c.as_slice.ensures.value) ∙ c.in-Ok.ensures in
    ap (λ (e : Design). record { design = e; list = c.args.parts.list; digests = filled c.args.parts.table }) (design_is d c.in-Ok.design c.requires.valid.design from)
