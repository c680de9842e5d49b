-- What stands in the output after an answer. This project's own.
use Rattle.std.specs.Prelude.{◌≡◌, ◌≢◌, ℕ, List, [], ◌∷◌, ◌++◌, Option, Some, None, Result, Ok, Err, codes, ◌⊎◌}
use Rattle.shelf_terms.specs.Counts.{Rose}
use Rattle.shelf_terms.specs.Puts.{Puts}
use Rattle.shelf_terms.specs.Told.{WhereTold}
use Rattle.records.specs.Events.{Took, Refused}
use Rattle.records.specs.Stores.{Output}
use Rattle.outcome_terms.specs.declared.status.Status.{Status}
use Rattle.outcome_terms.specs.declared.status.Status.TheVariants as status
use Rattle.outcome_terms.specs.declared.refusal.Refusal.{Refusal}
use Rattle.outcome_terms.specs.Statuses.{refusal_status, error_text, line_of}

-- a put failed between the one and the other
abbrev pub PutFailed : Output → Output → Type 0
PutFailed old new = Rose old.faults new.faults

-- the line for want of memory, which takes none
abbrev pub memory_line : List ℕ
memory_line = line_of status.Memory (codes "memory")

-- a prefix of one text, and behind it a prefix of another
pub record PutsBoth (old new first second : List ℕ) : Type 0 where
  pub between : List ℕ
  pub first_put : Puts old between first
  pub second_put : Puts between new second

-- A text was to be put out. With the status Ok all of it stands there, after a fault of the output a prefix of it, and for want
-- of memory a prefix of it and then the line for want of memory.
pub record PutsAnswer (s : Status) (text old new : List ℕ) : Type 0 where
  pub whole : s ≡ status.Ok → new ≡ old ++ text
  pub fault : s ≡ status.OutFault → Puts old new text
  pub memory : s ≡ status.Memory → PutsBoth old new text memory_line

-- A refusal was to be put out as its error line. With the refusal's status a prefix of the line stands there, and all of it where
-- no fault of the output was counted; for want of memory a prefix of this line or of the line for want of memory.
pub record PutsRefusal (s : Status) (e : Refusal) (rose : Type 0) (old new : List ℕ) : Type 0 where
  pub prefix : s ≢ status.Memory → Puts old new (error_text e)
  pub whole : s ≢ status.Memory → (rose → ⊥) → new ≡ old ++ error_text e
  pub memory : s ≡ status.Memory → Puts old new (error_text e) ⊎ Puts old new memory_line

-- a prefix of a text was put, where the output is told
abbrev pub TellsPrefix : List ℕ → Option (List ℕ) → Option (List ℕ) → Type 0
TellsPrefix text old new = WhereTold (λ before after. Puts before after text) old new

-- the same of an answer's text, and of a refusal's line
abbrev pub TellsAnswer : Status → List ℕ → Option (List ℕ) → Option (List ℕ) → Type 0
TellsAnswer s text old new = WhereTold (PutsAnswer s text) old new

abbrev pub TellsRefusal : Status → Refusal → Type 0 → Option (List ℕ) → Option (List ℕ) → Type 0
TellsRefusal s e rose old new = WhereTold (PutsRefusal s e rose) old new

-- How an answer is delivered: the status, and what then stands in the output. Where nothing is to be put, the output is not touched.
pub record PutsText (text : List ℕ) (s : Status) (old new : Output) : Type 0 where
  pub ends : (s ≡ status.Ok) ⊎ (((s ≡ status.OutFault) × PutFailed old new) ⊎ (s ≡ status.Memory))
  pub out : TellsAnswer s text old.written new.written
  -- over every output: the text was put once, and taken or refused
  pub taken : s ≡ status.Ok → new.events ≡ old.events ++ Took [] text ∷ []
  pub refused : s ≡ status.OutFault → new.events ≡ old.events ++ Refused [] text ∷ []

pub record PutsNothing (s : Status) (old new : Output) : Type 0 where
  pub ends : s ≡ status.Ok
  pub same : new ≡ old

pub record PutsLine (e : Refusal) (s : Status) (old new : Output) : Type 0 where
  pub ends : (s ≡ refusal_status e) ⊎ (s ≡ status.Memory)
  pub out : TellsRefusal s e (PutFailed old new) old.written new.written

abbrev pub Delivers : Result (Option (List ℕ)) Refusal → Status → Output → Output → Type 0
Delivers (Ok (Some text)) s old new = PutsText text s old new
Delivers (Ok None) s old new = PutsNothing s old new
Delivers (Err e) s old new = PutsLine e s old new
