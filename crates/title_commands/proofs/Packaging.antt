-- What the reading of a playlist comes to, case by case.
use Rattle.std.proofs.Common.{◌≡◌, ◌∙◌, ap, ap₂, refl, ℕ, Bool, true, false, List, Option, Some, None}
use Rattle.register_terms.specs.Enrolment.{Enrolment, names_of, serial_of}
use Rattle.register_terms.specs.Rules.{is_active}
use Rattle.title_terms.specs.Titles.{Title}
use Rattle.packaging_terms.specs.Licensees.{fits, licensed_text}
use Rattle.outcome_terms.specs.declared.fault.Fault.TheVariants.{Unknown, Withdrawn}
use Rattle.outcome_terms.specs.Reading.{Reading, Give, Refuse, ◌>>=◌, ◌>>◌, require, found}
use Rattle.outcome_terms.specs.Stores.{Writing, Exactly}
use Rattle.outcome_terms.specs.PackageCommand.{mismatch, packaged}

module _ (t : Title) (e : Enrolment) (name : List ℕ) where
  -- the reading by what is tested
  abbrev by_active : ℕ → Bool → Reading Writing
  by_active serial active = require active (Withdrawn name) >> Give (Exactly (licensed_text t e serial))

  abbrev by_serial : Option ℕ → Reading Writing
  by_serial serial = found (Unknown name) serial >>= (λ serial. by_active serial (is_active e serial))

  abbrev by_fit : Bool → Option ℕ → Reading Writing
  by_fit fit serial = require fit (mismatch t e) >> by_serial serial

  is_by : packaged t e name ≡ by_fit (fits t e) (serial_of (names_of e.licensees) name)
  unfolding packaged
  is_by = refl

  pub mismatched : fits t e ≡ false → packaged t e name ≡ Refuse (mismatch t e)
  mismatched is = is_by ∙ ap (λ b. by_fit b (serial_of (names_of e.licensees) name)) is

  at : (serial : Option ℕ) → fits t e ≡ true → serial_of (names_of e.licensees) name ≡ serial → packaged t e name ≡ by_serial serial
  at serial fit is = is_by ∙ ap₂ by_fit fit is

  pub unknown : fits t e ≡ true → serial_of (names_of e.licensees) name ≡ None → packaged t e name ≡ Refuse (Unknown name)
  unfolding ◌>>=◌
  unknown fit is = at None fit is

  pub withdrawn : (serial : ℕ) → fits t e ≡ true → serial_of (names_of e.licensees) name ≡ Some serial → is_active e serial ≡ false → packaged t e name ≡ Refuse (Withdrawn name)
  unfolding ◌>>=◌
  withdrawn serial fit is inactive = at (Some serial) fit is ∙ ap (by_active serial) inactive

  pub done : (serial : ℕ) → fits t e ≡ true → serial_of (names_of e.licensees) name ≡ Some serial → is_active e serial ≡ true → packaged t e name ≡ Give (Exactly (licensed_text t e serial))
  unfolding ◌>>=◌
  done serial fit is active = at (Some serial) fit is ∙ ap (by_active serial) active
