-- The terms x^i y^j in order of their weight, where x weighs 1 and y weighs w, and terms of one weight by the power of y.
-- Source: the order that Koetter's interpolation needs; R. McEliece, The Guruswami-Sudan decoding algorithm for Reed-Solomon codes (2003).
use Rattle.std.specs.Prelude.{◌≡◌, ℕ, ◌+◌, ◌*◌, ◌<◌, List, length, slice_index_or}
use Rattle.decoding_terms.specs.Parameters.{term_count}
use Rattle.term_lists.specs.declared.exponents.Exponents.{Exponents}

-- how many terms come before x^i y^j: those that weigh less, and those that weigh the same and have fewer y
abbrev pub place : ℕ → ℕ → ℕ → ℕ
place w i j = term_count w (i + w * j) + j

-- the exponents at a place of a list
abbrev pub exponents_at : List Exponents → ℕ → Exponents
exponents_at list k = slice_index_or list k (record { x = 0; y = 0 })

-- the terms that weigh less than e, each once and in order
pub record AreTermsBelow (w e : ℕ) (list : List Exponents) : Type 0 where
  pub count : length list ≡ term_count w e
  pub light : (k : ℕ) → k < length list → (exponents_at list k).x + w * (exponents_at list k).y < e
  pub placed : (k : ℕ) → k < length list → place w (exponents_at list k).x (exponents_at list k).y ≡ k
  pub every : (i j : ℕ) → i + w * j < e → exponents_at list (place w i j) ≡ record { x = i; y = j }
