-- Why a read or a write was refused: what the counts say of the call. This project's own.
use Rattle.std.specs.Prelude.{◌≡◌, ℕ, ◌≤◌, Bool, true, false, List}
use Rattle.shelf_terms.specs.Counts.{Rose, Tally}

-- A call that reads the blob of a name and writes nothing. `failed` and `missed` say how it was answered.
pub record ReadCauses (old new : Tally) (name : List ℕ) (failed missed : Bool) : Type 0 where
  pub faults_stay : old.faults ≤ new.faults
  pub misses_stay : old.misses ≤ new.misses
  pub writes_stay : new.write_faults ≡ old.write_faults
  pub fault : failed ≡ true → Rose old.faults new.faults
  pub blames : failed ≡ true → new.blamed ≡ name
  pub blames_none : failed ≡ false → new.blamed ≡ old.blamed
  pub missing : missed ≡ true → Rose old.misses new.misses

-- A call that writes and reads nothing.
pub record WriteCauses (old new : Tally) (failed : Bool) : Type 0 where
  pub faults_stay : new.faults ≡ old.faults
  pub misses_stay : new.misses ≡ old.misses
  pub blamed_stays : new.blamed ≡ old.blamed
  pub writes_stay : old.write_faults ≤ new.write_faults
  pub fault : failed ≡ true → Rose old.write_faults new.write_faults
