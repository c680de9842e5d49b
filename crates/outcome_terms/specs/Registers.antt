-- The register under a name, which most commands read. This project's own.
use Rattle.std.specs.Prelude.{ℕ, List}
use Rattle.register_terms.specs.Enrolment.{Enrolment}
use Rattle.register_terms.specs.RegisterText.{register_of}
use Rattle.outcome_terms.specs.declared.fault.Fault.TheVariants.{BadRegister}
use Rattle.outcome_terms.specs.Reading.{Reading, ◌>>=◌, blob, understood}

unfoldable pub register_under : List ℕ → Reading Enrolment
register_under name = do
  bytes ← blob name
  understood BadRegister (register_of bytes)
