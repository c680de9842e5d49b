-- The numbers of the statuses, and the error line of each refusal. This project's own.
use Rattle.std.specs.Prelude.{ℕ, List, ◌++◌, codes}
use Rattle.std.specs.Fmt.{decimal}
use Rattle.code_terms.specs.declared.word_fault.WordFault.{WordFault}
use Rattle.code_terms.specs.declared.word_fault.WordFault.TheVariants as word
use Rattle.register_terms.specs.declared.fault.RegisterKind.{RegisterKind}
use Rattle.register_terms.specs.declared.fault.RegisterKind.TheVariants as kind
use Rattle.register_terms.specs.declared.refusal.RegisterError.{RegisterError}
use Rattle.register_terms.specs.declared.refusal.RegisterError.TheVariants as rules
use Rattle.register_terms.specs.declared.refusal.NameRefusal.{NameRefusal}
use Rattle.register_terms.specs.declared.refusal.NameRefusal.TheVariants as names
use Rattle.report_terms.specs.declared.verdict.Verdict.{Verdict}
use Rattle.report_terms.specs.declared.verdict.Verdict.TheVariants as verdict
use Rattle.packaging_terms.specs.Details.{design_text, playlist_text, title_text, pair_text}
use Rattle.outcome_terms.specs.declared.status.Status.{Status}
use Rattle.outcome_terms.specs.declared.status.Status.TheVariants as status
use Rattle.outcome_terms.specs.declared.fault.Fault.{Fault}
use Rattle.outcome_terms.specs.declared.fault.Fault.TheVariants as fault
use Rattle.outcome_terms.specs.declared.refusal.Refusal.{Refusal}
use Rattle.outcome_terms.specs.declared.refusal.Refusal.TheVariants as refusal

abbrev pub status_code : Status → ℕ
status_code status.Ok = 0
status_code status.Memory = 1
status_code status.BadWords = 2
status_code status.Missing = 3
status_code status.ReadFault = 4
status_code status.WriteFault = 5
status_code status.OutFault = 6
status_code status.TooLong = 7
status_code status.BadDesign = 8
status_code status.BadPlaylist = 9
status_code status.BadTitle = 10
status_code status.BadRegister = 11
status_code status.BadReport = 12
status_code status.Mismatch = 13
status_code status.BadBound = 14
status_code status.TooFew = 15
status_code status.NameTaken = 16
status_code status.BadName = 17
status_code status.Full = 18
status_code status.Unknown = 19
status_code status.Duplicate = 20
status_code status.SameName = 21
status_code status.Differs = 22
status_code status.BadWord = 23
status_code status.BadParameters = 24
status_code status.NoSegment = 25
status_code status.Withdrawn = 27

-- how a line breaks the form of a register
abbrev pub kind_text : RegisterKind → List ℕ
kind_text kind.Ending = codes "ending"
kind_text kind.Header = codes "header"
kind_text kind.BadM = codes "bad-m"
kind_text kind.BadK = codes "bad-k"
kind_text kind.BadMultiplier = codes "bad-multiplier"
kind_text kind.BadShift = codes "bad-shift"
kind_text kind.BadStatus = codes "bad-status"
kind_text kind.BadName = codes "bad-name"
kind_text kind.NameTaken = codes "name-taken"
kind_text kind.Full = codes "full"

-- which rule the numbers of a new register break
abbrev pub rule_text : RegisterError → List ℕ
rule_text rules.BadM = codes "bad-m"
rule_text rules.BadK = codes "bad-k"
rule_text rules.BadMultiplier = codes "bad-multiplier"
rule_text rules.BadShift = codes "bad-shift"

-- how a blob breaks the form of a word
abbrev pub word_fault_text : WordFault → List ℕ
word_fault_text (word.Token place) = codes "token " ++ decimal place
word_fault_text word.Long = codes "long"

-- what is wrong with a report
abbrev pub verdict_text : Verdict → List ℕ
verdict_text verdict.Right = codes "right"
verdict_text (verdict.TooFew readable) = codes "too-few " ++ decimal readable
verdict_text verdict.WrongReadable = codes "wrong-readable"
verdict_text (verdict.NotEnrolled position) = codes "not-enrolled " ++ decimal position
verdict_text (verdict.Order position) = codes "order " ++ decimal position
verdict_text (verdict.WrongPlaces position) = codes "wrong-places " ++ decimal position
verdict_text (verdict.Below position) = codes "below " ++ decimal position
verdict_text (verdict.Absent serial) = codes "absent " ++ decimal serial

-- what an error line tells: the status, and a detail
pub record Line : Type 0 where
  pub status : Status
  pub detail : List ℕ

abbrev pub says : Status → List ℕ → Line
says s detail = record { status = s; detail = detail }

-- why a name is not enrolled
abbrev pub name_line : NameRefusal → Line
name_line names.BadName = says status.BadName (codes "name")
name_line (names.NameTaken serial) = says status.NameTaken (decimal serial)
name_line (names.Full licensees) = says status.Full (decimal licensees)

-- what the words or the blobs are refused with
abbrev pub fault_line : Fault → Line
fault_line (fault.BadDesign broken) = says status.BadDesign (design_text broken)
fault_line (fault.BadPlaylist at) = says status.BadPlaylist (decimal at.line ++ (codes " " ++ playlist_text at.fault))
fault_line (fault.BadTitle at) = says status.BadTitle (decimal at.line ++ (codes " " ++ title_text at.kind))
fault_line (fault.BadRegister at) = says status.BadRegister (decimal at.line ++ (codes " " ++ kind_text at.kind))
fault_line fault.BadReport = says status.BadReport (codes "report")
fault_line (fault.Mismatch title_bits title_dimension register_bits register_dimension) =
    says status.Mismatch (pair_text title_bits title_dimension ++ (codes " " ++ pair_text register_bits register_dimension))
fault_line (fault.BadBound bound) = says status.BadBound (decimal bound)
fault_line (fault.TooFew readable not_enough) = says status.TooFew (pair_text readable not_enough)
fault_line (fault.NotEnrolled refusal) = name_line refusal
fault_line (fault.Unknown name) = says status.Unknown name
fault_line (fault.Withdrawn name) = says status.Withdrawn name
fault_line (fault.Duplicate place symbol again_place again_symbol) =
    says status.Duplicate (pair_text place symbol ++ (codes " " ++ pair_text again_place again_symbol))
fault_line (fault.SameName name) = says status.SameName name
fault_line (fault.Differs wrong) = says status.Differs (verdict_text wrong)
fault_line (fault.BadWord at) = says status.BadWord (word_fault_text at)
fault_line (fault.BadParameters broken) = says status.BadParameters (rule_text broken)
fault_line (fault.NoSegment segment) = says status.NoSegment (decimal segment)

abbrev pub refusal_line : Refusal → Line
refusal_line refusal.Memory = says status.Memory (codes "memory")
refusal_line refusal.BadWords = says status.BadWords (codes "words")
refusal_line (refusal.Missing name) = says status.Missing name
refusal_line (refusal.ReadFault name) = says status.ReadFault name
refusal_line (refusal.WriteFault name) = says status.WriteFault name
refusal_line (refusal.TooLong name) = says status.TooLong name
refusal_line (refusal.Content fault) = fault_line fault

-- the status that a refusal ends with
abbrev pub refusal_status : Refusal → Status
refusal_status e = (refusal_line e).status

-- `error`, the status's number and a detail, with spaces between, and a line feed
unfoldable pub line_of : Status → List ℕ → List ℕ
line_of s detail = codes "error " ++ (decimal (status_code s) ++ (codes " " ++ (detail ++ codes "\n")))

-- the error line of a refusal
abbrev pub error_text : Refusal → List ℕ
error_text e = line_of (refusal_line e).status (refusal_line e).detail
