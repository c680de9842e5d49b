-- `check TITLE REG COPY REPORT`: whether a report says what the desk finds. This project's own.
use Rattle.std.specs.Prelude.{ℕ, List, [], ◌∷◌, Option, Some, None, codes}
use Rattle.register_terms.specs.Enrolment.{Enrolment}
use Rattle.decoder_terms.specs.Decoding.{not_enough}
use Rattle.desk_terms.specs.declared.findings.Findings.{Findings}
use Rattle.desk_terms.specs.Roll.{roll_of}
use Rattle.packaging_terms.specs.Licensees.{fits}
use Rattle.report_terms.specs.Reports.{report_of}
use Rattle.report_terms.specs.Verdicts.{verdict}
use Rattle.report_terms.specs.declared.verdict.Verdict.{Verdict}
use Rattle.report_terms.specs.declared.verdict.Verdict.TheVariants as verdicts
use Rattle.outcome_terms.specs.declared.fault.Fault.TheVariants.{BadBound, BadReport, Differs, TooFew}
use Rattle.outcome_terms.specs.Request.{Request, Check}
use Rattle.outcome_terms.specs.Words.{◌>>?◌, named}
use Rattle.outcome_terms.specs.Reading.{Reading, Give, Refuse, ◌>>=◌, ◌>>◌, require, blob, found}
use Rattle.outcome_terms.specs.Registers.{register_under}
use Rattle.outcome_terms.specs.PackageCommand.{title_under, mismatch}
use Rattle.outcome_terms.specs.TraceCommand.{is_served, word_shown}

-- four blobs' names
unfoldable pub check_of : List (List ℕ) → Option Request
check_of (title_word ∷ register_word ∷ copy_word ∷ report_word ∷ []) =
    named title_word >>? λ title. named register_word >>? λ register. named copy_word >>? λ copy. named report_word >>? λ report.
    Some (Check title register copy report)
check_of _ = None

-- the findings that the report under a name says
unfoldable pub findings_under : List ℕ → Reading Findings
findings_under name = do
  bytes ← blob name
  found BadReport (report_of bytes)

-- what is put out for a report that is right
abbrev pub right_line : List ℕ
right_line = codes "right\n"

-- the answer that a verdict is told by
abbrev pub told_verdict : ℕ → Verdict → Reading (List ℕ)
told_verdict needed verdicts.Right = Give right_line
told_verdict needed (verdicts.TooFew readable) = Refuse (TooFew readable needed)
told_verdict needed wrong = Refuse (Differs wrong)

-- the answer to findings in a word
unfoldable pub judged : Enrolment → List (Option ℕ) → Findings → Reading (List ℕ)
judged e word f = told_verdict (not_enough e.dimension f.bound) (verdict (roll_of e) word f)

-- the answer to a report
unfoldable pub check : (title register copy report : List ℕ) → Reading (List ℕ)
check title register copy report = do
  t ← title_under title
  e ← register_under register
  require (fits t e) (mismatch t e)
  f ← findings_under report
  require (is_served t f.bound) (BadBound f.bound)
  slots ← word_shown t copy
  judged e slots f

-- the numbers of the statuses that it ends with
abbrev pub check_statuses : List ℕ
check_statuses = 0 ∷ 1 ∷ 3 ∷ 4 ∷ 6 ∷ 7 ∷ 9 ∷ 10 ∷ 11 ∷ 12 ∷ 13 ∷ 14 ∷ 15 ∷ 22 ∷ []
