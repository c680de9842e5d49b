-- The document that a design is read from: TOML, as the kit's `toml` reads it. Keys that are not named here are passed over.
-- This project's own.
use Rattle.std.specs.Prelude.{ℕ, ℤ, pos, negsuc, List, [], ◌∷◌, codes, if◌then◌else◌, Option, Some, None, Result, Ok, Err}
use Rattle.std.specs.Str.{is_utf8}
use Rattle.toml.specs.Data.{Data, string, integer, array, Items, no_items, item, Members, get_member}
use Rattle.toml.specs.Parse.{parse_document}
use Rattle.title_terms.specs.declared.fault.Key.{Key}
use Rattle.title_terms.specs.declared.fault.Key.TheVariants as keys
use Rattle.title_terms.specs.declared.fault.DesignFault.{DesignFault}
use Rattle.title_terms.specs.declared.fault.DesignFault.TheVariants.{NotToml, Missing, WrongType}
use Rattle.title_terms.specs.Designs.{Design}
use Rattle.title_terms.specs.DesignRules.{Proposal, ◌>>=◌, design_from}

-- the table that the bytes are as a document
abbrev pub document : List ℕ → Option Members
document bytes = if is_utf8 bytes then parse_document bytes else None

-- ---- what stands at a key

abbrev pub text_said : Key → Option Data → Result (List ℕ) DesignFault
text_said key None = Err (Missing key)
text_said key (Some (string text)) = Ok text
text_said key (Some other) = Err (WrongType key)

-- a whole number that is not below 0
abbrev pub natural : ℤ → Option ℕ
natural (pos n) = Some n
natural (negsuc n) = None

abbrev pub number_said : Key → Option Data → Result (Option ℕ) DesignFault
number_said key None = Err (Missing key)
number_said key (Some (integer z)) = Ok (natural z)
number_said key (Some other) = Err (WrongType key)

abbrev pub mark_said : Data → Option ℕ
mark_said (integer z) = natural z
mark_said other = None

abbrev pub marks_said : Items → List (Option ℕ)
marks_said no_items = []
marks_said (item first items) = mark_said first ∷ marks_said items

abbrev pub list_said : Key → Option Data → Result (List (Option ℕ)) DesignFault
list_said key None = Err (Missing key)
list_said key (Some (array items)) = Ok (marks_said items)
list_said key (Some other) = Err (WrongType key)

-- ---- the document

-- the values at the seven keys
unfoldable pub proposal_in : Members → Result Proposal DesignFault
proposal_in table = do
  name ← text_said keys.Name (get_member (codes "name") table)
  m ← number_said keys.M (get_member (codes "m") table)
  k ← number_said keys.K (get_member (codes "k") table)
  c ← number_said keys.C (get_member (codes "c") table)
  prefix ← text_said keys.Prefix (get_member (codes "prefix") table)
  suffix ← text_said keys.Suffix (get_member (codes "suffix") table)
  marked ← list_said keys.Marked (get_member (codes "marked") table)
  Ok (record { name = name; bits = m; dimension = k; bound = c; prefix = prefix; suffix = suffix; marked = marked })

abbrev pub design_in : Option Members → Result Design DesignFault
design_in None = Err NotToml
design_in (Some table) = proposal_in table >>= design_from

-- the design that a document says, or the first thing that is wrong with it
unfoldable pub design_of : List ℕ → Result Design DesignFault
design_of bytes = design_in (document bytes)
