-- How a write was answered, and what the answer says of the blobs. This project's own.
use Rattle.std.specs.Prelude.{◌≡◌, ℕ, Bool, true, false, List, Option, Result, Ok, Err}
use Rattle.std.specs.FinMap.{insert}
use Rattle.shelf_terms.specs.Blobs.{Blobs, SameBut}
use Rattle.shelf_terms.specs.Told.{WhereTold}
use Rattle.shelf_io.specs.declared.errors.ShelfError.{ShelfError}
use Rattle.shelf_io.specs.declared.errors.ShelfError.TheVariants as shelf

abbrev pub write_failed : Result (Unit {0}) ShelfError → Bool
write_failed (Err shelf.Fault) = true
write_failed _ = false

-- Where the blobs are told before the write they are told after it. The written name then holds exactly the bytes,
-- and after a refusal maybe anything or nothing; every other name holds what it held.
abbrev pub WriteLeaves : List ℕ → List ℕ → Result (Unit {0}) ShelfError → Blobs → Blobs → Type 0
WriteLeaves name bytes (Ok done) old new = new ≡ insert old name bytes
WriteLeaves name bytes (Err error) old new = SameBut name old new

abbrev pub WriteGives : Option Blobs → Option Blobs → List ℕ → List ℕ → Result (Unit {0}) ShelfError → Type 0
WriteGives old new name bytes result = WhereTold (WriteLeaves name bytes result) old new
