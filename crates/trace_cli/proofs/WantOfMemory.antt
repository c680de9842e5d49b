-- Want of memory may come in place of any answer.
use Rattle.std.proofs.Common.{◌≡◌, ℕ, List, true, Option, Some, None, refl, inr, ◌⊎◌}
use Rattle.std.specs.Option.{IfSome}
use Rattle.outcome_terms.specs.declared.status.Status.TheVariants as status
use Rattle.outcome_terms.specs.declared.refusal.Refusal.{Refusal}
use Rattle.outcome_terms.specs.Statuses.{refusal_status}
use Rattle.outcome_terms.specs.Request.{Request, Make, Enrol, Withdraw, MakeTitle, Package, Trace, Check, Accuse, Sample}
use Rattle.outcome_terms.specs.Commands.{deed, may_end, request_of, later_statuses}
use Rattle.outcome_terms.specs.Outcome.{refused_by_words}
use Rattle.outcome_terms.specs.Call.{row_behind, row}
use Rattle.trace_cli.specs.CommandLine.{AnswersWords}

behind : (o : Option Refusal) (later : List ℕ) → may_end later status.Memory ≡ true → may_end (row_behind o later) status.Memory ≡ true
behind None later h = h
behind (Some e) later h = refl

memory_row : (request : Option Request) → may_end (row request) status.Memory ≡ true
memory_row None = refl
memory_row (Some (Make m k a b out)) = behind (refused_by_words (deed (Some (Make m k a b out)))) (later_statuses (Some (Make m k a b out))) refl
memory_row (Some (Enrol register name out)) = behind (refused_by_words (deed (Some (Enrol register name out)))) (later_statuses (Some (Enrol register name out))) refl
memory_row (Some (Withdraw register name out)) = behind (refused_by_words (deed (Some (Withdraw register name out)))) (later_statuses (Some (Withdraw register name out))) refl
memory_row (Some (MakeTitle design source out)) = behind (refused_by_words (deed (Some (MakeTitle design source out)))) (later_statuses (Some (MakeTitle design source out))) refl
memory_row (Some (Package title register name out)) = behind (refused_by_words (deed (Some (Package title register name out)))) (later_statuses (Some (Package title register name out))) refl
memory_row (Some (Trace title register copy c)) = behind (refused_by_words (deed (Some (Trace title register copy c)))) (later_statuses (Some (Trace title register copy c))) refl
memory_row (Some (Check title register copy report)) = behind (refused_by_words (deed (Some (Check title register copy report)))) (later_statuses (Some (Check title register copy report))) refl
memory_row (Some (Accuse register word c)) = behind (refused_by_words (deed (Some (Accuse register word c)))) (later_statuses (Some (Accuse register word c))) refl
memory_row (Some (Sample number)) = behind (refused_by_words (deed (Some (Sample number)))) (later_statuses (Some (Sample number))) refl

in_place : (o : Option Refusal) → IfSome o (λ e. (status.Memory ≡ refusal_status e) ⊎ (status.Memory ≡ status.Memory))
in_place None = tt
in_place (Some e) = inr refl

pub memory_answers : (words : List (List ℕ)) → AnswersWords words status.Memory
memory_answers words = record { refused = in_place (refused_by_words (deed (request_of words))); row = memory_row (request_of words); read_fault = λ is. cc; write_fault = λ is. cc }
