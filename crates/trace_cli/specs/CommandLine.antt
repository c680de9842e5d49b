-- What the program's status says of its words, whatever the files hold. This project's own.
use Rattle.std.specs.Prelude.{◌≡◌, ℕ, List, true, Some, IfSome, ◌⊎◌}
use Rattle.std.specs.declared.io.ErrorKind.{ErrorKind}
use Rattle.std.specs.declared.io.ErrorKind.TheVariants.{OutOfMemory}
use Rattle.outcome_terms.specs.declared.status.Status.{Status}
use Rattle.outcome_terms.specs.declared.status.Status.TheVariants as status
use Rattle.outcome_terms.specs.Statuses.{refusal_status}
use Rattle.outcome_terms.specs.Commands.{deed, request_of, may_end}
use Rattle.outcome_terms.specs.Outcome.{DeedAsks, refused_by_words, written_name}
use Rattle.outcome_terms.specs.Call.{row}

-- the status of an error that came in place of the words
abbrev pub argument_status : ErrorKind → Status
argument_status OutOfMemory = status.Memory
argument_status _ = status.BadWords

pub record AnswersWords (words : List (List ℕ)) (s : Status) : Type 0 where
  -- where the words refuse the command, that is its status, but for want of memory
  pub refused : IfSome (refused_by_words (deed (request_of words))) (λ e. (s ≡ refusal_status e) ⊎ (s ≡ status.Memory))
  -- every other status is one that the command may end with
  pub row : may_end (row (request_of words)) s ≡ true
  -- a read fails only where the command reads a blob, and a write only where it writes one
  pub read_fault : s ≡ status.ReadFault → (name : List ℕ) × DeedAsks (deed (request_of words)) name
  pub write_fault : s ≡ status.WriteFault → (name : List ℕ) × (written_name (deed (request_of words)) ≡ Some name)
