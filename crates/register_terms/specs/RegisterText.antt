-- The two texts of a register, and what is wrong with any other text. This project's own.
-- The newer text says of each licensee whether the licence is held, and is the one that is written. The older one has the
-- names alone, and is read still; so only a register in which nobody is withdrawn has it.
use Rattle.std.specs.Prelude.{◌≡◌, ℕ, Bool, true, false, if◌then◌else◌, List, [], ◌∷◌, ◌++◌, map, codes, Option, Some, None, Result}
use Rattle.std.specs.List.{All, flat_map}
use Rattle.std.specs.Option.{option_map, option_or}
use Rattle.std.specs.Str.{bytes_eq}
use Rattle.std.specs.Fmt.{decimal}
use Rattle.form_terms.specs.declared.fault.LineFault.{LineFault}
use Rattle.form_terms.specs.declared.fault.RowKinds.{RowKinds}
use Rattle.form_terms.specs.TextLines.{line, after_word}
use Rattle.form_terms.specs.Forms.{Form, ◌>>=◌, ◌>>◌, give, row, number_row, demand, rows_after, lines_left, the_end, read_by}
use Rattle.register_terms.specs.declared.edition.Edition.{Edition}
use Rattle.register_terms.specs.declared.edition.Edition.TheVariants.{Newer, Older}
use Rattle.register_terms.specs.declared.fault.RegisterKind.{RegisterKind}
use Rattle.register_terms.specs.declared.fault.RegisterKind.TheVariants.{Ending, Header, BadM, BadK, BadMultiplier, BadShift, BadStatus}
use Rattle.register_terms.specs.Enrolment.{Licensee, Enrolment}
use Rattle.register_terms.specs.Rules.{are_bits, is_dimension, is_multiplier, is_shift, empty_register, with_licensees, refusal_of}

-- ---- the texts

abbrev pub edition_line : Edition → List ℕ
edition_line Newer = codes "register 2"
edition_line Older = codes "register 1"

-- the lines before the licensees
abbrev pub header_lines : Edition → Enrolment → List (List ℕ)
header_lines edition e =
    edition_line edition
    ∷ (codes "m " ++ decimal e.bits)
    ∷ (codes "k " ++ decimal e.dimension)
    ∷ (codes "a " ++ decimal e.multiplier)
    ∷ (codes "b " ++ decimal e.shift)
    ∷ []

abbrev pub state_word : Bool → List ℕ
state_word active = if active then codes "active " else codes "withdrawn "

-- the line of a licensee
abbrev pub licensee_line : Edition → Licensee → List ℕ
licensee_line Newer x = state_word x.active ++ x.name
licensee_line Older x = x.name

abbrev pub register_lines : Edition → Enrolment → List (List ℕ)
register_lines edition e = header_lines edition e ++ map (licensee_line edition) e.licensees

-- the text that is written
unfoldable pub register_text : Enrolment → List ℕ
register_text e = flat_map line (register_lines Newer e)

unfoldable pub older_text : Enrolment → List ℕ
older_text e = flat_map line (register_lines Older e)

-- the bytes are a text of the register
pub data IsTextOf (e : Enrolment) (bytes : List ℕ) : Type 0 where
  newer : bytes ≡ register_text e → IsTextOf e bytes
  older : All (λ x. x.active ≡ true) e.licensees → bytes ≡ older_text e → IsTextOf e bytes

abbrev pub RegisterFault : Type 0
RegisterFault = LineFault RegisterKind

-- ---- what single lines say

abbrev pub edition_in : List ℕ → Option Edition
edition_in text = if bytes_eq text (codes "register 2") then Some Newer else (if bytes_eq text (codes "register 1") then Some Older else None)

abbrev pub in_state : Bool → List ℕ → Licensee
in_state active name = record { name = name; active = active }

abbrev pub licensee_in : Edition → List ℕ → Option Licensee
licensee_in Newer text = option_or (option_map (in_state true) (after_word (codes "active ") text)) (option_map (in_state false) (after_word (codes "withdrawn ") text))
licensee_in Older text = Some (in_state true text)

-- ---- the form, from the first line to the last

-- one of the first five lines
abbrev pub header : RowKinds RegisterKind
header = record { missing = Header; unended = Ending; wrong = Header }

unfoldable pub header_form : Form RegisterKind (Edition × Enrolment)
header_form = do
  edition ← row header edition_in
  m ← number_row header (codes "m ") are_bits BadM
  k ← number_row header (codes "k ") is_dimension BadK
  a ← number_row header (codes "a ") (is_multiplier m k) BadMultiplier
  b ← number_row header (codes "b ") (is_shift m k) BadShift
  give (edition, empty_register m k a b)

-- a later line
abbrev pub later : RowKinds RegisterKind
later = record { missing = Header; unended = Ending; wrong = BadStatus }

-- the licensee behind these, who may be enrolled
unfoldable pub licensee_row : Edition → Enrolment → List Licensee → Form RegisterKind Licensee
licensee_row edition e past = do
  x ← row later (licensee_in edition)
  demand (refusal_of (with_licensees e past) x.name)
  give x

-- as many licensees as there are lines left, and no byte behind them
unfoldable pub licensees_form : Edition → Enrolment → List Licensee → Form RegisterKind Enrolment
licensees_form edition e past = do
  count ← lines_left
  licensees ← rows_after past count (licensee_row edition e)
  the_end Ending
  give (with_licensees e licensees)

unfoldable pub register_form : Form RegisterKind Enrolment
register_form = do
  found ← header_form
  licensees_form found.0 found.1 []

-- the register that a text spells, or the first line that breaks the form with the first thing that is wrong with it
unfoldable pub register_of : List ℕ → Result Enrolment RegisterFault
register_of bytes = read_by register_form bytes
