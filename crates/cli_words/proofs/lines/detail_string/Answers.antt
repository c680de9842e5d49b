use Rattle.std.proofs.Common.{◌≡◌, ◌∙◌, ℕ, List, ◌++◌, IfOk, append_assoc, codes, sym, ap, subst}
use Rattle.std.specs.Fmt.{decimal}
use Rattle.std.specs.String.{string_bytes}
use Rattle.packaging_terms.specs.Details.{pair_text}
use Rattle.cli_words.specs.Details.{detail_text}
use Rattle.cli_words.proofs.lines.detail_string.Goals as goal

four_numbers : (a b c d : ℕ) → decimal a ++ (codes " " ++ (decimal b ++ (codes " " ++ pair_text c d))) ≡ pair_text a b ++ (codes " " ++ pair_text c d)
four_numbers a b c d = sym (append_assoc (decimal a) (codes " " ++ decimal b) (codes " " ++ pair_text c d))

pub returns-in-FourNumbers : goal.returns-in-FourNumbers
returns-in-FourNumbers c =
    let v = c.in-FourNumbers in
    let whole = four_numbers v.n v.m v.o v.p ∙ ap detail_text (sym v.is) in
    subst (λ (t : List ℕ). IfOk c.format-in-FourNumbers.result (λ text. string_bytes text ≡ t)) whole c.format-in-FourNumbers.ensures.ok

pub returns-in-Words : goal.returns-in-Words
returns-in-Words c =
    subst (λ (t : List ℕ). IfOk c.format-in-Words.result (λ text. string_bytes text ≡ t)) (ap detail_text (sym c.in-Words.is)) c.format-in-Words.ensures.ok

pub returns-in-WordAndNumber : goal.returns-in-WordAndNumber
returns-in-WordAndNumber c =
    subst (λ (t : List ℕ). IfOk c.format-in-WordAndNumber.result (λ text. string_bytes text ≡ t)) (ap detail_text (sym c.in-WordAndNumber.is)) c.format-in-WordAndNumber.ensures.ok
