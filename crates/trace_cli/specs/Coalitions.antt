-- What a report says of coalitions, from the two blobs that were read.
-- Source: Silverberg, Staddon and Walker (2003), traceability of codes.
use Rattle.std.specs.Prelude.{ℕ, List, Option, Some, None, ⊤}
use Rattle.shelf_terms.specs.Blobs.{Blobs}
use Rattle.register_terms.specs.Enrolment.{Enrolment}
use Rattle.desk_terms.specs.Roll.{roll_of}
use Rattle.outcome_terms.specs.Reports.{HoldsRegister, HoldsWord}
use Rattle.coalition_terms.specs.Coalition.{IsCoalition, Explains, IsTraced}

-- Where the blobs are told: if a coalition of at most c licensees of the register explains the word, then everyone who is found is a
-- member, and somebody is found.
abbrev pub TracesCoalitions : Option Blobs → (register_name word_name : List ℕ) → ℕ → Type 0
TracesCoalitions None register_name word_name c = ⊤
TracesCoalitions (Some blobs) register_name word_name c =
    (e : Enrolment) (word : List (Option ℕ)) (K : List ℕ) → HoldsRegister blobs register_name e → HoldsWord blobs word_name e.bits word → IsCoalition (roll_of e) c K → Explains (roll_of e) K word → IsTraced (roll_of e) word c K
