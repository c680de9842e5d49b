-- `register M K A B OUT`: a register without licensees. This project's own.
use Rattle.std.specs.Prelude.{ℕ, List, [], ◌∷◌, Option, Some, None}
use Rattle.std.specs.Option.{option_map}
use Rattle.text_terms.specs.Numbers.{number_of}
use Rattle.register_terms.specs.Rules.{empty_register, broken_rule}
use Rattle.register_terms.specs.RegisterText.{register_text}
use Rattle.outcome_terms.specs.declared.fault.Fault.TheVariants.{BadParameters}
use Rattle.outcome_terms.specs.Request.{Request, Make}
use Rattle.outcome_terms.specs.Words.{◌>>?◌, named}
use Rattle.outcome_terms.specs.Reading.{Reading, Give, ◌>>◌}
use Rattle.outcome_terms.specs.Stores.{Writing, Exactly}

-- four numbers and a blob's name
unfoldable pub make_from : (m_word k_word a_word b_word out_word : List ℕ) → Option Request
make_from m_word k_word a_word b_word out_word =
    number_of m_word >>? λ m. number_of k_word >>? λ k. number_of a_word >>? λ a. number_of b_word >>? λ b. named out_word >>? λ out. Some (Make m k a b out)

unfoldable pub make_of : List (List ℕ) → Option Request
make_of (m_word ∷ k_word ∷ a_word ∷ b_word ∷ out_word ∷ []) = make_from m_word k_word a_word b_word out_word
make_of _ = None

-- the text of the register
unfoldable pub make : (m k a b : ℕ) → Reading Writing
make m k a b = do
  option_map BadParameters (broken_rule m k a b)
  Give (Exactly (register_text (empty_register m k a b)))

-- the numbers of the statuses that it ends with, where the words do not refuse it
abbrev pub make_statuses : List ℕ
make_statuses = 0 ∷ 1 ∷ 5 ∷ []
