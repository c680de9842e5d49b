use Rattle.std.proofs.Common.{◌≡◌, ◌++◌, ◌∷◌, [], ℕ, List, codes, ap, ◌∙◌}
use Rattle.std.specs.List.{flat_map}
use Rattle.form_terms.specs.TextLines.{line, number_text}
use Rattle.title_store.proofs.WrittenLines.{seven_lines}
use Rattle.title_store.proofs.writing.put_design.Goals as goal

pub returns : goal.returns
returns c =
    let d = c.args.design.now in
    let out : List ℕ = c.args.out.now.items in
    let m : List ℕ = number_text (codes "m ") d.bits in
    let k : List ℕ = number_text (codes "k ") d.dimension in
    let b : List ℕ = number_text (codes "c ") d.bound in
    let name : c.as_str.result.now ≡ d.name = c.as_str.ensures ∙ c.name.ensures in
    let prefix : c.as_str-2.result.now ≡ d.prefix = c.as_str-2.ensures ∙ c.prefix.ensures in
    let suffix : c.as_str-3.result.now ≡ d.suffix = c.as_str-3.ensures ∙ c.suffix.ensures in
    c.in_ok-put_text_line-3.ensures
    ∙ ap (λ (t : List ℕ). t ++ line (codes "suffix " ++ c.as_str-3.result.now)) (c.in_ok-put_text_line-2.ensures
    ∙ ap (λ (t : List ℕ). t ++ line (codes "prefix " ++ c.as_str-2.result.now)) (c.in_ok-put_code.ensures
    ∙ ap (λ (t : List ℕ). t ++ (line m ++ (line k ++ line b))) (c.in_ok-put_text_line.ensures
    ∙ ap (λ (t : List ℕ). t ++ line (codes "name " ++ c.as_str.result.now)) c.in_ok-put_line.ensures)))
    ∙ seven_lines out (codes "title 1") (codes "name " ++ c.as_str.result.now) m k b (codes "prefix " ++ c.as_str-2.result.now) (codes "suffix " ++ c.as_str-3.result.now)
    ∙ (λ i. out ++ flat_map line (codes "title 1" ∷ (codes "name " ++ name i) ∷ m ∷ k ∷ b ∷ (codes "prefix " ++ prefix i) ∷ (codes "suffix " ++ suffix i) ∷ []))
