-- How many field products and looks a command may take. This project's own.
use Rattle.std.specs.Prelude.{ℕ, ◌+◌, ◌≤◌, List, Option, length}
use Rattle.code_terms.specs.Words.{readable}
use Rattle.desk_terms.specs.Bounds.{look_bound, tracing_bound}

-- what was counted so far
pub record Counted : Type 0 where
  pub products : ℕ
  pub looks : ℕ

abbrev pub nothing_counted : Counted
nothing_counted = record { products = 0; looks = 0 }

-- the numbers that a trace may take hang on: messages of so many coefficients, words of so many places, of which so many are
-- readable, and the bound; and what its command may take beside it
pub record Trace : Type 0 where
  pub dimension : ℕ
  pub places : ℕ
  pub readable : ℕ
  pub bound : ℕ
  pub beside : Counted

-- a trace of this word, and nothing beside it
abbrev pub trace_at : ℕ → List (Option ℕ) → ℕ → Trace
trace_at dimension word bound = record { dimension = dimension; places = length word; readable = readable word; bound = bound; beside = nothing_counted }

-- no more than one trace may take and what is beside it, for each number of products that its curve may cost
pub record IsWithin (costs : Trace → ℕ → Type 0) (trace : Trace) (old new : Counted) : Type 0 where
  pub products : (curve : ℕ) → costs trace curve → new.products ≤ old.products + tracing_bound curve trace.places trace.dimension trace.bound + trace.beside.products
  pub looks : new.looks ≤ old.looks + look_bound trace.places trace.bound + trace.beside.looks
