-- The parts of the line, put behind one another.
use Rattle.std.proofs.Common.{◌≡◌, ◌∙◌, ap, refl, ℕ, List, [], ◌∷◌, ◌++◌, append_assoc}
use Rattle.std.specs.Prelude.{codes}
use Rattle.std.specs.Fmt.{decimal}
use Rattle.sample_terms.specs.Summary.{line, spaced, spaced_or_none}
use Rattle.sample_maker.specs.Heads.{head}

-- texts in front of another one
abbrev before : List (List ℕ) → List ℕ → List ℕ
before [] text = text
before (first ∷ more) text = first ++ before more text

behind : (texts : List (List ℕ)) (text more : List ℕ) → before texts text ++ more ≡ before texts (text ++ more)
behind [] text more = refl
behind (first ∷ texts) text more = append_assoc first (before texts text) more ∙ ap (λ (rest : List ℕ). first ++ rest) (behind texts text more)

pub assembled : (number readable first second third : ℕ) (serials : List ℕ) → (head number readable first second third ++ spaced_or_none serials) ++ 10 ∷ [] ≡ line number readable first second third serials
assembled number readable first second third serials =
    append_assoc (head number readable first second third) (spaced_or_none serials) (10 ∷ [])
    ∙ behind (codes "sample " ∷ decimal number ∷ codes " licensees 1000 places 64 readable " ∷ decimal readable ∷ codes " bound 3 coalition" ∷ spaced first ∷ spaced second ∷ spaced third ∷ [])
    (codes " accused") (spaced_or_none serials ++ 10 ∷ [])
