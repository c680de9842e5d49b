use Rattle.std.proofs.Common.{◌≡◌, ◌++◌, ℕ, List, map, sym, ap, subst, ◌∙◌}
use Rattle.std.specs.List.{flat_map}
use Rattle.hex.specs.Hex.{encode_lower}
use Rattle.form_terms.specs.TextLines.{line}
use Rattle.title_terms.specs.Titles.{IsTitle}
use Rattle.title_terms.proofs.Texts.{written_is_read}
use Rattle.title_terms.specs.TitleText.{design_lines, list_lines, marked_lines, title_text}
use Rattle.title_store.specs.Builds.{title_by}
use Rattle.title_store.proofs.WrittenLines.{title_text-parts, four_parts}
use Rattle.title_store.proofs.title.Title.write.Goals as goal

pub returns-clause-text : goal.returns-clause-text
returns-clause-text c =
    let t = title_by (record { design = c.self.inside.design; list = c.self.inside.list; cells = c.self.inside.table }) in
    let first : List ℕ = flat_map line (design_lines t.design) in
    let second : List ℕ = flat_map line (list_lines t.list) in
    let third : List ℕ = flat_map line (marked_lines t.design.marked) in
    let last : List ℕ = flat_map line (map encode_lower t.digests) in
    let marks : c.marks.result.now ≡ t.design.marked = c.marks.ensures.numbers in
    c.in_ok-put_digests.ensures
    ∙ ap (λ (bytes : List ℕ). bytes ++ last) (c.in_ok-put_marks.ensures
    ∙ ap (λ (bytes : List ℕ). bytes ++ flat_map line (marked_lines c.marks.result.now)) (c.in_ok-put_list.ensures
    ∙ ap (λ (bytes : List ℕ). bytes ++ second) c.in_ok-put_design.ensures)
    ∙ ap (λ (m : List ℕ). ((c.new-out.result.items ++ first) ++ second) ++ flat_map line (marked_lines m)) marks)
    ∙ four_parts c.new-out.result.items first second third last c.new-out.ensures.items
    ∙ sym (title_text-parts t)
    ∙ ap title_text c.self.view_is

pub returns-clause-again : goal.returns-clause-again
returns-clause-again c = written_is_read c.put_digests.new.out.items c.args.self.now (subst IsTitle c.self.view_is c.self.invariant.title) (returns-clause-text c)
