-- Who gets a playlist of a register. This project's own.
use Rattle.std.specs.Prelude.{◌≡◌, ℕ, ◌<◌, ◌≤◌, true, false, length, Result, Ok, Err}
use Rattle.register_terms.specs.Enrolment.{Enrolment, message_of}
use Rattle.register_terms.specs.Rules.{is_active}
use Rattle.packager.specs.declared.errors.PlaylistFailure.{PlaylistFailure}
use Rattle.packager.specs.declared.errors.PlaylistFailure.TheVariants as failure

-- the licensee of this serial is withdrawn
pub record IsWithdrawn (e : Enrolment) (serial : ℕ) : Type 0 where
  pub enrolled : serial < length e.licensees
  pub inactive : is_active e serial ≡ false

-- the licensee of this serial holds the licence still
pub record IsLicensed (e : Enrolment) (serial : ℕ) : Type 0 where
  pub enrolled : serial < length e.licensees
  pub active : is_active e serial ≡ true

-- the message of the licensee, or why there is none
abbrev pub LicensesAs : Result ℕ PlaylistFailure → Enrolment → ℕ → Type 0
LicensesAs (Ok message) e serial = IsLicensed e serial × (message ≡ message_of e serial)
LicensesAs (Err failure.NoSuchSerial) e serial = length e.licensees ≤ serial
LicensesAs (Err failure.Withdrawn) e serial = IsWithdrawn e serial
LicensesAs (Err failure.Memory) e serial = ⊥
