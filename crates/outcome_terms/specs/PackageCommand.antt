-- `package TITLE REG NAME OUT`: the playlist that a licensee gets. This project's own.
use Rattle.std.specs.Prelude.{ℕ, ◌||◌, not, List, [], ◌∷◌, Option, Some, None}
use Rattle.std.specs.Str.{bytes_eq}
use Rattle.register_terms.specs.Enrolment.{Enrolment, names_of, serial_of}
use Rattle.register_terms.specs.Rules.{is_active}
use Rattle.title_terms.specs.Titles.{Title}
use Rattle.title_terms.specs.TitleText.{title_of}
use Rattle.packaging_terms.specs.Licensees.{fits, licensed_text}
use Rattle.outcome_terms.specs.declared.fault.Fault.{Fault}
use Rattle.outcome_terms.specs.declared.fault.Fault.TheVariants.{BadTitle, Mismatch, SameName, Unknown, Withdrawn}
use Rattle.outcome_terms.specs.Request.{Request, Package}
use Rattle.outcome_terms.specs.Words.{◌>>?◌, named}
use Rattle.outcome_terms.specs.Reading.{Reading, Give, ◌>>=◌, ◌>>◌, blob, understood, require, found}
use Rattle.outcome_terms.specs.Stores.{Writing, Exactly}
use Rattle.outcome_terms.specs.Registers.{register_under}

-- four words, each of the form of a blob's name
unfoldable pub package_of : List (List ℕ) → Option Request
package_of (title_word ∷ register_word ∷ name_word ∷ out_word ∷ []) =
    named title_word >>? λ title. named register_word >>? λ register. named name_word >>? λ name. named out_word >>? λ out.
    Some (Package title register name out)
package_of _ = None

-- the title under a name
unfoldable pub title_under : List ℕ → Reading Title
title_under name = do
  bytes ← blob name
  understood BadTitle (title_of bytes)

-- the title and the register are of different codes
abbrev pub mismatch : Title → Enrolment → Fault
mismatch t e = Mismatch t.design.bits t.design.dimension e.bits e.dimension

-- the playlist of the licensee of this name, who holds the licence still
unfoldable pub packaged : Title → Enrolment → List ℕ → Reading Writing
packaged t e name = do
  require (fits t e) (mismatch t e)
  serial ← found (Unknown name) (serial_of (names_of e.licensees) name)
  require (is_active e serial) (Withdrawn name)
  Give (Exactly (licensed_text t e serial))

-- the text of the playlist
unfoldable pub package_ : (title register name out : List ℕ) → Reading Writing
package_ title register name out = do
  require (not (bytes_eq out title || bytes_eq out register)) (SameName out)
  t ← title_under title
  e ← register_under register
  packaged t e name

-- the numbers of the statuses that it ends with, where the words do not refuse it
abbrev pub package_statuses : List ℕ
package_statuses = 0 ∷ 1 ∷ 3 ∷ 4 ∷ 5 ∷ 7 ∷ 10 ∷ 11 ∷ 13 ∷ 19 ∷ 27 ∷ []
