-- Which answer each call on designs gives. Want of memory is the one answer that is always free.
use Rattle.std.specs.Prelude.{◌≡◌, ◌<◌, ◌≤◌, ℕ, ◌&&◌, nat_lt, if◌then◌else◌, List, length, map, All, Option, Some, None, Result, Ok, Err}
use Rattle.std.specs.List.Sorted.{IsStrictlyIncreasing}
use Rattle.text_terms.specs.Answers.{RefusesAs, AnswersAs}
use Rattle.title_terms.specs.declared.fault.DesignFault.{DesignFault}
use Rattle.title_terms.specs.Designs.{Design, is_above}
use Rattle.title_terms.specs.DesignRules.{Proposal}
use Rattle.designs.specs.declared.errors.DesignError.{DesignError}
use Rattle.designs.specs.declared.errors.DesignError.TheVariants as errors
use Rattle.designs.specs.declared.judging.Wanted.{Wanted}

abbrev pub fault_in : DesignError → Option DesignFault
fault_in errors.Memory = None
fault_in (errors.NotDesign fault) = Some fault

-- the refusal is the wanted one, or memory ran out
abbrev pub IsRefused : {A : Type 0} → DesignError → Result A DesignFault → Type 0
IsRefused error wanted = RefusesAs (fault_in error) wanted

-- the design or the fault that is wanted
abbrev pub Gives : Result Design DesignError → Result Design DesignFault → Type 0
Gives result wanted = AnswersAs fault_in result wanted

-- the list that is wanted, or the fault
abbrev pub GivesMarks : {X : Type 0} → (X → List ℕ) → Result X DesignError → Result (List ℕ) DesignFault → Type 0
GivesMarks items (Ok marks) wanted = wanted ≡ Ok (items marks)
GivesMarks items (Err error) wanted = IsRefused error wanted

-- the values that are wanted for a design
abbrev pub proposal_of : Wanted → Proposal
proposal_of w = record { name = w.name.now; bits = w.bits; dimension = w.dimension; bound = w.bound; prefix = w.prefix.now; suffix = w.suffix.now; marked = w.marked.now }

abbrev pub of_numbers : List ℕ → ℕ → ℕ → ℕ → List ℕ → List ℕ → List ℕ → Proposal
of_numbers name m k c prefix suffix marked =
    record { name = name; bits = Some m; dimension = Some k; bound = Some c; prefix = prefix; suffix = suffix; marked = map Some marked }

-- the number that may stand behind these
abbrev pub next_mark : List ℕ → Option ℕ → Option ℕ
next_mark past None = None
next_mark past (Some segment) = if is_above past segment && nat_lt segment 100000 then Some segment else None

-- numbers of segments, each above the one in front of it
pub record AreMarks (marks : List ℕ) : Type 0 where
  pub ascending : IsStrictlyIncreasing marks
  pub small : All (λ segment. segment < 100000) marks
  pub few : length marks ≤ 100000
