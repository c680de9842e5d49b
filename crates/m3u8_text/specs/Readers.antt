-- Which lines and bytes a reader stands for.
use Rattle.std.specs.Prelude.{◌≡◌, ◌≢◌, ℕ, ◌+◌, Bool, List, ◌∷◌, ◌++◌, map, reverse, length, All, Option, Some, None, Result, Ok, Err}
use Rattle.playlist_terms.specs.Lines.{lines_of}
use Rattle.playlist_terms.specs.MediaLines.{MediaLine, media_line}
use Rattle.playlist_terms.specs.Faults.{fault_after}
use Rattle.playlist_terms.specs.Reading.{first_fault, media_lines_of, playlist_of}
use Rattle.playlist_terms.specs.declared.fault.LineFault.{LineFault}
use Rattle.m3u8_text.specs.declared.errors.LineError.{LineError}
use Rattle.m3u8_text.specs.declared.errors.LineError.TheVariants as stops
use Rattle.m3u8_text.specs.declared.line_reader.LineReader.{LineReader}
use Rattle.m3u8_text.specs.declared.pieces.Pieces.{Pieces}
use Rattle.m3u8_text.specs.Progress.{progress_of}

-- ---- lines

-- the reader took lines that say this, the last one first
pub record StandsFor (reader : LineReader) (before : List MediaLine) : Type 0 where
  pub lines : reader.lines ≡ length before
  pub state : reader.state ≡ progress_of before

-- one line more
abbrev pub TakesLine : Result (Unit {0}) LineError → List MediaLine → LineReader → MediaLine → Type 0
TakesLine (Ok _) before new line = (fault_after before line ≡ None) × StandsFor new (line ∷ before)
TakesLine (Err (stops.Faulty fault)) before new line = fault_after before line ≡ Some fault
TakesLine (Err stops.Memory) before new line = Unit {0}

-- the count of lines after one more, where memory did not run out
abbrev pub HasTaken : Result (Unit {0}) LineError → ℕ → ℕ → Type 0
HasTaken (Ok _) old new = new ≡ old + 1
HasTaken (Err (stops.Faulty fault)) old new = new ≡ old + 1
HasTaken (Err stops.Memory) old new = Unit {0}

-- ---- pieces

-- no line feed stands in it
abbrev pub IsOneLine : List ℕ → Type 0
IsOneLine text = All (λ b. b ≢ 10) text

-- The reader took each line of the bytes that a line feed ends, none of which has a fault, and the tail is what stands behind
-- the last line feed. So whatever comes behind the bytes, the lines are those that were taken, and then the tail's and more.
pub record IsAt (bytes tail : List ℕ) (reader : LineReader) : Type 0 where
  pub before : List MediaLine
  pub lines : (more : List ℕ) → media_lines_of (bytes ++ more) ≡ reverse (map media_line (lines_of (tail ++ more))) ++ before
  pub sound : first_fault before ≡ None
  pub stands : StandsFor reader before
  pub one : IsOneLine tail

-- the bytes have this fault, whatever comes behind them
abbrev pub HasFault : List ℕ → LineFault → Type 0
HasFault bytes found = (more : List ℕ) → playlist_of (bytes ++ more) ≡ Err found

abbrev pub StandsBy : Option LineFault → List ℕ → List ℕ → LineReader → Type 0
StandsBy (Some found) bytes tail reader = HasFault bytes found
StandsBy None bytes tail reader = IsAt bytes tail reader

abbrev pub StandsAt : Pieces → List ℕ → Type 0
StandsAt p bytes = StandsBy p.fault bytes p.tail.items p.reader

-- a reader of playlists: its pieces, how many bytes it took, and whether memory ran out
pub record Reading : Type 0 where
  pub pieces : Pieces
  pub taken : ℕ
  pub spent : Bool

-- the bytes that were taken are these
abbrev pub Stands : Reading → List ℕ → Type 0
Stands reading bytes = StandsAt reading.pieces bytes
