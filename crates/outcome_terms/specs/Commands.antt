-- The commands: which words each is, what it does, and how it may end. This project's own. One line a command in each table.
use Rattle.std.specs.Prelude.{ℕ, List, [], ◌∷◌, Bool, ◌==◌, Option, Some, None, codes, if◌then◌else◌}
use Rattle.std.specs.List.{list_any}
use Rattle.std.specs.Str.{bytes_eq}
use Rattle.outcome_terms.specs.declared.status.Status.{Status}
use Rattle.outcome_terms.specs.Statuses.{status_code}
use Rattle.outcome_terms.specs.Request.{Request, Make, Enrol, Withdraw, MakeTitle, Package, Trace, Check, Accuse, Sample}
use Rattle.outcome_terms.specs.Reading.{Reading}
use Rattle.outcome_terms.specs.Stores.{Writing}
use Rattle.outcome_terms.specs.RegisterCommand.{make_of, make, make_statuses}
use Rattle.outcome_terms.specs.EnrolCommand.{enrol_of, enrol, enrol_statuses}
use Rattle.outcome_terms.specs.WithdrawCommand.{withdraw_of, withdraw, withdraw_statuses}
use Rattle.outcome_terms.specs.TitleCommand.{make_title_of, title, title_statuses}
use Rattle.outcome_terms.specs.PackageCommand.{package_of, package_, package_statuses}
use Rattle.outcome_terms.specs.TraceCommand.{trace_of, trace, trace_statuses}
use Rattle.outcome_terms.specs.CheckCommand.{check_of, check, check_statuses}
use Rattle.outcome_terms.specs.AccuseCommand.{accuse_of, accuse, accuse_statuses}
use Rattle.outcome_terms.specs.SampleCommand.{sample_of, sample, sample_statuses}

-- the command that the words are; every other list of words is none
unfoldable pub request_of : List (List ℕ) → Option Request
request_of [] = None
request_of (command ∷ arguments) =
    if bytes_eq command (codes "register") then make_of arguments
    else (if bytes_eq command (codes "enrol") then enrol_of arguments
    else (if bytes_eq command (codes "withdraw") then withdraw_of arguments
    else (if bytes_eq command (codes "title") then make_title_of arguments
    else (if bytes_eq command (codes "package") then package_of arguments
    else (if bytes_eq command (codes "trace") then trace_of arguments
    else (if bytes_eq command (codes "check") then check_of arguments
    else (if bytes_eq command (codes "accuse") then accuse_of arguments
    else (if bytes_eq command (codes "sample") then sample_of arguments
    else None))))))))

-- what is to be done
pub data Deed : Type 0 where
  -- nothing: the words are no command
  Nothing : Deed
  -- to put out the text that the reading gives
  Put : Reading (List ℕ) → Deed
  -- to write under the name a text as the reading gives it, and put out nothing
  Write : (out : List ℕ) → Reading Writing → Deed

-- what a command is to do
abbrev pub deed : Option Request → Deed
deed None = Nothing
deed (Some (Make m k a b out)) = Write out (make m k a b)
deed (Some (Enrol register name out)) = Write out (enrol register name out)
deed (Some (Withdraw register name out)) = Write out (withdraw register name out)
deed (Some (MakeTitle design source out)) = Write out (title design source out)
deed (Some (Package name register licensee out)) = Write out (package_ name register licensee out)
deed (Some (Trace name register copy c)) = Put (trace name register copy c)
deed (Some (Check name register copy reported)) = Put (check name register copy reported)
deed (Some (Accuse register word c)) = Put (accuse register word c)
deed (Some (Sample number)) = Put (sample number)

-- the numbers of the statuses that a command may end with which its words do not refuse
abbrev pub later_statuses : Option Request → List ℕ
later_statuses None = []
later_statuses (Some (Make m k a b out)) = make_statuses
later_statuses (Some (Enrol register name out)) = enrol_statuses
later_statuses (Some (Withdraw register name out)) = withdraw_statuses
later_statuses (Some (MakeTitle design source out)) = title_statuses
later_statuses (Some (Package name register licensee out)) = package_statuses
later_statuses (Some (Trace name register copy c)) = trace_statuses
later_statuses (Some (Check name register copy reported)) = check_statuses
later_statuses (Some (Accuse register word c)) = accuse_statuses
later_statuses (Some (Sample number)) = sample_statuses

abbrev pub may_end : List ℕ → Status → Bool
may_end numbers s = list_any (λ n. n == status_code s) numbers
