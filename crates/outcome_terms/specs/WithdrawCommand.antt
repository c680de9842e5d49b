-- `withdraw REG NAME OUT`: a register with a licensee withdrawn. This project's own.
use Rattle.std.specs.Prelude.{ℕ, List, [], ◌∷◌, not, Option, Some, None}
use Rattle.std.specs.Str.{bytes_eq}
use Rattle.register_terms.specs.Enrolment.{Enrolment, names_of, serial_of}
use Rattle.register_terms.specs.Rules.{is_active, with_withdrawn}
use Rattle.register_terms.specs.RegisterText.{register_text}
use Rattle.outcome_terms.specs.declared.fault.Fault.TheVariants.{Unknown, Withdrawn, SameName}
use Rattle.outcome_terms.specs.Request.{Request, Withdraw}
use Rattle.outcome_terms.specs.Words.{◌>>?◌, named}
use Rattle.outcome_terms.specs.Reading.{Reading, Give, ◌>>=◌, ◌>>◌, require, found}
use Rattle.outcome_terms.specs.Stores.{Writing, Exactly}
use Rattle.outcome_terms.specs.Registers.{register_under}

-- three words, each of the form of a blob's name
unfoldable pub withdraw_of : List (List ℕ) → Option Request
withdraw_of (register_word ∷ name_word ∷ out_word ∷ []) = named register_word >>? λ register. named name_word >>? λ name. named out_word >>? λ out. Some (Withdraw register name out)
withdraw_of _ = None

-- the register with the licensee of this name withdrawn
unfoldable pub withdrawn : Enrolment → List ℕ → Reading Enrolment
withdrawn e name = do
  serial ← found (Unknown name) (serial_of (names_of e.licensees) name)
  require (is_active e serial) (Withdrawn name)
  Give (with_withdrawn e serial)

-- the text of the register with the licensee withdrawn
unfoldable pub withdraw : (register name out : List ℕ) → Reading Writing
withdraw register name out = do
  require (not (bytes_eq out register)) (SameName out)
  e ← register_under register
  f ← withdrawn e name
  Give (Exactly (register_text f))

-- the numbers of the statuses that it ends with, where the words do not refuse it
abbrev pub withdraw_statuses : List ℕ
withdraw_statuses = 0 ∷ 1 ∷ 3 ∷ 4 ∷ 5 ∷ 7 ∷ 11 ∷ 19 ∷ 27 ∷ []
