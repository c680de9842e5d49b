-- What is demanded of a title, a register and a bound before a copy is read. This project's own.
use Rattle.std.specs.Prelude.{ℕ}
use Rattle.register_terms.specs.Enrolment.{Enrolment}
use Rattle.title_terms.specs.Titles.{Title}
use Rattle.packaging_terms.specs.Licensees.{fits}
use Rattle.outcome_terms.specs.declared.fault.Fault.TheVariants.{BadBound}
use Rattle.outcome_terms.specs.Reading.{Reading, Give, ◌>>◌, require}
use Rattle.outcome_terms.specs.PackageCommand.{mismatch}
use Rattle.outcome_terms.specs.TraceCommand.{is_served}

-- the bound, where title and register are of one code and the title serves the bound
unfoldable pub demanded : Title → Enrolment → ℕ → Reading ℕ
demanded t e c = do
  require (fits t e) (mismatch t e)
  require (is_served t c) (BadBound c)
  Give c
