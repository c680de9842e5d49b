-- `enrol REG NAME OUT`: a register with one more licensee. This project's own.
use Rattle.std.specs.Prelude.{ℕ, List, [], ◌∷◌, not, Option, Some, None}
use Rattle.std.specs.Str.{bytes_eq}
use Rattle.register_terms.specs.Enrolment.{Enrolment}
use Rattle.register_terms.specs.Rules.{with_name, enrolment_of}
use Rattle.register_terms.specs.RegisterText.{register_text}
use Rattle.outcome_terms.specs.declared.fault.Fault.TheVariants.{NotEnrolled, SameName}
use Rattle.outcome_terms.specs.Request.{Request, Enrol}
use Rattle.outcome_terms.specs.Words.{◌>>?◌, named}
use Rattle.outcome_terms.specs.Reading.{Reading, Give, ◌>>=◌, ◌>>◌, require, understood}
use Rattle.outcome_terms.specs.Stores.{Writing, Exactly}
use Rattle.outcome_terms.specs.Registers.{register_under}

-- three words, each of the form of a blob's name
unfoldable pub enrol_of : List (List ℕ) → Option Request
enrol_of (register_word ∷ name_word ∷ out_word ∷ []) = named register_word >>? λ register. named name_word >>? λ name. named out_word >>? λ out. Some (Enrol register name out)
enrol_of _ = None

-- the register with the name
unfoldable pub enrolled : Enrolment → List ℕ → Reading Enrolment
enrolled e name = do
  serial ← understood NotEnrolled (enrolment_of e name)
  Give (with_name e name)

-- the text of the register with the name
unfoldable pub enrol : (register name out : List ℕ) → Reading Writing
enrol register name out = do
  require (not (bytes_eq out register)) (SameName out)
  e ← register_under register
  f ← enrolled e name
  Give (Exactly (register_text f))

-- the numbers of the statuses that it ends with, where the words do not refuse it
abbrev pub enrol_statuses : List ℕ
enrol_statuses = 0 ∷ 1 ∷ 3 ∷ 4 ∷ 5 ∷ 7 ∷ 11 ∷ 16 ∷ 17 ∷ 18 ∷ []
