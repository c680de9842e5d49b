-- What the bytes of a report say: JSON, as the kit's `serde_json` reads it. Keys that are not named here are passed over, their
-- order and the white space are free, and of a key that is there twice the last value counts. This project's own, over RFC 8259.
use Rattle.std.specs.Prelude.{ℕ, ◌^◌, nat_lt, if◌then◌else◌, codes, List, [], ◌∷◌, Option, Some, None, option_map, option_and_then}
use Rattle.std.specs.Str.{is_utf8}
use Rattle.serde_json.specs.Data.{Data, Items, no_items, item}
use Rattle.serde_json.specs.Read.{read}
use Rattle.serde_json.specs.Find.{get, as_number, as_u64, as_str, as_array}
use Rattle.text_terms.specs.Names.{is_plain}
use Rattle.desk_terms.specs.declared.findings.Accused.{Accused}
use Rattle.desk_terms.specs.declared.findings.Findings.{Findings}

-- the value that the bytes are
abbrev pub document : List ℕ → Option Data
document bytes = if is_utf8 bytes then read bytes else None

infixl 10 ◌>>=◌
abbrev pub ◌>>=◌ : {A B : Type 0} → Option A → (A → Option B) → Option B
o >>= f = option_and_then f o

abbrev pub if_below : ℕ → ℕ → Option ℕ
if_below limit n = if nat_lt n limit then Some n else None

-- a whole number below the limit, written without point and exponent: what the reader takes for a float is none
abbrev pub number_said : ℕ → Data → Option ℕ
number_said limit d = option_and_then (if_below limit) (option_and_then as_u64 (as_number d))

abbrev pub if_plain : List ℕ → Option (List ℕ)
if_plain text = if is_plain text then Some text else None

-- a plain name
abbrev pub name_said : Data → Option (List ℕ)
name_said d = option_and_then if_plain (as_str d)

-- what each item says, where each says something
abbrev pub all_said : {A : Type 0} → (Data → Option A) → Items → Option (List A)
all_said said no_items = Some []
all_said said (item d ds) = option_and_then (λ a. option_map (λ more. a ∷ more) (all_said said ds)) (said d)

-- a list of such items
abbrev pub list_said : {A : Type 0} → (Data → Option A) → Data → Option (List A)
list_said said d = option_and_then (all_said said) (as_array d)

-- a place of a word
abbrev pub place_said : Data → Option ℕ
place_said d = number_said (2 ^ 16) d

-- one of the accused
unfoldable pub accused_said : Data → Option Accused
accused_said d = do
  name ← option_and_then name_said (get (codes "name") d)
  places ← option_and_then (list_said place_said) (get (codes "places") d)
  serial ← option_and_then (number_said (2 ^ 32)) (get (codes "serial") d)
  Some (record { serial = serial; name = name; places = places })

-- the findings that a value is
unfoldable pub findings_said : Data → Option Findings
findings_said d = do
  accused ← option_and_then (list_said accused_said) (get (codes "accused") d)
  bound ← option_and_then (number_said (2 ^ 32)) (get (codes "bound") d)
  readable ← option_and_then (number_said (2 ^ 32)) (get (codes "readable") d)
  Some (record { readable = readable; bound = bound; accused = accused })

-- the findings that the bytes say, None where they are no report
unfoldable pub report_of : List ℕ → Option Findings
report_of bytes = option_and_then findings_said (document bytes)
