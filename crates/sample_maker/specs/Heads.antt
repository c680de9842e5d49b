-- The front of the line that sums a sample up. This project's own.
use Rattle.std.specs.Prelude.{ℕ, List, ◌++◌, codes}
use Rattle.std.specs.Fmt.{decimal}
use Rattle.sample_terms.specs.Summary.{spaced}

-- up to the word `accused`
abbrev pub head : (number readable first second third : ℕ) → List ℕ
head number readable first second third =
    codes "sample " ++ (decimal number ++ (codes " licensees 1000 places 64 readable " ++ (decimal readable ++ (codes " bound 3 coalition"
    ++ (spaced first ++ (spaced second ++ (spaced third ++ codes " accused")))))))
