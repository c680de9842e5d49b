-- How a put was answered, and what then stands in the output. This project's own.
use Rattle.std.specs.Prelude.{◌≡◌, ℕ, Bool, true, false, List, ◌++◌, Option, Result, Ok, Err}
use Rattle.shelf_terms.specs.Puts.{Puts}
use Rattle.shelf_terms.specs.Told.{WhereTold}
use Rattle.shelf_io.specs.declared.errors.SinkError.{SinkError}
use Rattle.shelf_io.specs.declared.errors.SinkError.TheVariants as sink

abbrev pub put_failed : Result (Unit {0}) SinkError → Bool
put_failed (Err sink.Fault) = true
put_failed _ = false

-- Where the output is told before the put it is told after it: with all the bytes behind it, and after a refusal with a prefix of them.
abbrev pub PutLeaves : List ℕ → Result (Unit {0}) SinkError → List ℕ → List ℕ → Type 0
PutLeaves bytes (Ok done) old new = new ≡ old ++ bytes
PutLeaves bytes (Err error) old new = Puts old new bytes

abbrev pub PutGives : Option (List ℕ) → Option (List ℕ) → List ℕ → Result (Unit {0}) SinkError → Type 0
PutGives old new bytes result = WhereTold (PutLeaves bytes result) old new
