-- What a reader of words answers, beside what the text spells.
use Rattle.std.specs.Prelude.{ℕ, List, Option, Some, None, Result}
use Rattle.text_terms.specs.Answers.{AnswersAs}
use Rattle.code_terms.specs.declared.word_fault.WordFault.{WordFault}
use Rattle.rs_code.specs.declared.word_error.WordError.{WordError}
use Rattle.rs_code.specs.declared.word_error.WordError.TheVariants.{NotWord, Memory}

abbrev pub fault_in : WordError → Option WordFault
fault_in (NotWord fault) = Some fault
fault_in Memory = None

-- the word that is spelled, or its first fault; only want of memory may come in place of either
abbrev pub ReadsWord : Result (List (Option ℕ)) WordError → Result (List (Option ℕ)) WordFault → Type 0
ReadsWord result wanted = AnswersAs fault_in result wanted
