-- The later half of `check`, for a title and a register of one code. This project's own.
use Rattle.std.specs.Prelude.{ℕ, List}
use Rattle.register_terms.specs.Enrolment.{Enrolment}
use Rattle.title_terms.specs.Titles.{Title}
use Rattle.outcome_terms.specs.declared.fault.Fault.TheVariants.{BadBound}
use Rattle.outcome_terms.specs.Reading.{Reading, ◌>>=◌, ◌>>◌, require}
use Rattle.outcome_terms.specs.TraceCommand.{is_served, word_shown}
use Rattle.outcome_terms.specs.CheckCommand.{findings_under, judged}

-- the answer to the report, from the report on
unfoldable pub checked : Title → Enrolment → (copy report : List ℕ) → Reading (List ℕ)
checked t e copy report = do
  f ← findings_under report
  require (is_served t f.bound) (BadBound f.bound)
  slots ← word_shown t copy
  judged e slots f
