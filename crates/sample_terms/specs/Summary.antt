-- The line that sums a sample up, or the two variants that stand in the way. This project's own.
use Rattle.std.specs.Prelude.{ℕ, List, [], ◌∷◌, ◌++◌, map, codes, Option, Some, None, Result, Ok, Err}
use Rattle.std.specs.Fmt.{decimal}
use Rattle.std.specs.List.{flat_map}
use Rattle.desk_terms.specs.declared.findings.Findings.{Findings}
use Rattle.desk_terms.specs.Findings.{findings}
use Rattle.desk_terms.specs.Roll.{roll_of}
use Rattle.sample_terms.specs.Numbers.{first_member, second_member, third_member}
use Rattle.sample_terms.specs.Inputs.{register_of, twins, variants}
use Rattle.sample_terms.specs.Copies.{word_of}

-- a number behind a space
abbrev pub spaced : ℕ → List ℕ
spaced n = codes " " ++ decimal n

abbrev pub spaced_or_none : List ℕ → List ℕ
spaced_or_none [] = codes " none"
spaced_or_none (n ∷ more) = flat_map spaced (n ∷ more)

-- a number, so many readable places, the members of the coalition and the serials of those who are accused
abbrev pub line : (number readable first second third : ℕ) → List ℕ → List ℕ
line number readable first second third serials =
    codes "sample " ++ (decimal number ++ (codes " licensees 1000 places 64 readable " ++ (decimal readable ++ (codes " bound 3 coalition"
    ++ (spaced first ++ (spaced second ++ (spaced third ++ (codes " accused" ++ (spaced_or_none serials ++ codes "\n")))))))))

-- what is said of these findings
abbrev pub line_on : ℕ → Findings → List ℕ
line_on number found = line number found.readable (first_member number) (second_member number) (third_member number) (map (λ one. one.serial) found.accused)

-- the findings at the bound 3
unfoldable pub found_in : ℕ → Findings
found_in number = findings (roll_of (register_of number)) (word_of number) 3

abbrev pub summary_of : ℕ → List ℕ
summary_of number = line_on number (found_in number)

abbrev pub unless_twins : Option (ℕ × ℕ) → List ℕ → Result (List ℕ) (ℕ × ℕ)
unless_twins None text = Ok text
unless_twins (Some pair) text = Err pair

-- the summary, or the first two variants with one digest
unfoldable pub sampled : ℕ → Result (List ℕ) (ℕ × ℕ)
sampled number = unless_twins (twins number variants) (summary_of number)
