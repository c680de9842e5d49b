use Rattle.std.proofs.Common.{◌∙◌, ap, ap₂, ◌++◌, ◌∷◌, [], List, ℕ, map}
use Rattle.desk_terms.specs.declared.findings.Accused.{Accused}
use Rattle.sample_terms.specs.Numbers.{first_member, second_member}
use Rattle.sample_terms.specs.Summary.{spaced_or_none, line}
use Rattle.sample_maker.proofs.Lines.{assembled}
use Rattle.sample_maker.proofs.summary.summary.Goals as goal

abbrev serials_of : List Accused → List ℕ
serials_of accused = map (λ one. one.serial) accused

pub returns : goal.returns
returns c =
    let number = c.args.number in
    let readable = c.args.found.now.readable in
    let serials : List ℕ = serials_of c.args.found.now.accused in
    c.in_ok-push.ensures.items
    ∙ ap (λ (text : List ℕ). text ++ 10 ∷ []) (c.in_ok-put_serials.ensures ∙ ap₂ (λ (text : List ℕ) (accused : List Accused). text ++ spaced_or_none (serials_of accused)) c.in_ok-text.ensures c.as_slice.ensures)
    ∙ assembled number readable c.first_member-first.result c.second_member-second.result c.third_member-third.result serials
    ∙ ap (λ (first : ℕ). line number readable first c.second_member-second.result c.third_member-third.result serials) c.first_member-first.ensures.value
    ∙ ap (λ (second : ℕ). line number readable (first_member number) second c.third_member-third.result serials) c.second_member-second.ensures.value
    ∙ ap (λ (third : ℕ). line number readable (first_member number) (second_member number) third serials) c.third_member-third.ensures.value
