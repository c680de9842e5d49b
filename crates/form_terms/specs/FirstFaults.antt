-- Where a text of lines stops going on: the first line that no text of the kind has there, told beside the form that reads
-- it. This project's own.
use Rattle.std.specs.Prelude.{◌≡◌, ℕ, ◌+◌, ◌-◌, ◌≤◌, Bool, if◌then◌else◌, List, [], ◌∷◌, ◌++◌, length, take, drop, Option, Some, None}
use Rattle.form_terms.specs.declared.fault.LineFault.{LineFault}
use Rattle.form_terms.specs.TextLines.{ended_lines, rest_of}

-- what stands at a line: a text that a line feed ends, bytes that none ends, or nothing
pub data AtLine : Type 0 where
  whole : List ℕ → AtLine
  cut : AtLine
  nothing : AtLine

-- what stands in front of these lines and the bytes behind the last line feed
abbrev pub next_of : List (List ℕ) → List ℕ → AtLine
next_of (text ∷ lines) tail = whole text
next_of [] (b ∷ tail) = cut
next_of [] [] = nothing

-- what stands at a line of a text; lines are counted from 1
abbrev pub at_line : List ℕ → ℕ → AtLine
at_line bytes number = next_of (drop (number - 1) (ended_lines bytes)) (rest_of bytes)

-- the lines before it
abbrev pub lines_before : List ℕ → ℕ → List (List ℕ)
lines_before bytes number = take (number - 1) (ended_lines bytes)

-- a table of what can be wrong: the first kind that applies
abbrev pub first_that_applies : {K : Type 0} → List (Bool × K) → Option K
first_that_applies [] = None
first_that_applies ((applies, kind) ∷ others) = if applies then Some kind else first_that_applies others

-- the lines before this one begin a text of the kind, which this line does not go on with; and this is the first thing that
-- is wrong with it
pub record IsFirstFault {K : Type 0} (Begins : List (List ℕ) → Type 0) (wrong : List (List ℕ) → AtLine → Option K) (bytes : List ℕ) (f : LineFault K) : Type 0 where
  pub numbered : 1 ≤ f.line
  pub inside : f.line ≤ length (ended_lines bytes) + 1
  pub begins : Begins (lines_before bytes f.line)
  pub stops : (text : List ℕ) → at_line bytes f.line ≡ whole text → Begins (lines_before bytes f.line ++ text ∷ []) → ⊥
  pub first : wrong (lines_before bytes f.line) (at_line bytes f.line) ≡ Some f.kind
