-- `sample NUMBER`: a large input that is made from a number, and whom the desk accuses in it. This project's own.
use Rattle.std.specs.Prelude.{ℕ, ◌^◌, ◌/◌, ◌%◌, nat_lt, List, [], ◌∷◌, Option, Some, None, if◌then◌else◌}
use Rattle.text_terms.specs.Numbers.{number_of}
use Rattle.sample_terms.specs.Summary.{sampled}
use Rattle.outcome_terms.specs.declared.fault.Fault.{Fault}
use Rattle.outcome_terms.specs.declared.fault.Fault.TheVariants.{Duplicate}
use Rattle.outcome_terms.specs.Request.{Request, Sample}
use Rattle.outcome_terms.specs.Words.{◌>>?◌}
use Rattle.outcome_terms.specs.Reading.{Reading, understood}
use Rattle.outcome_terms.specs.Traces.{Trace}

-- a number of eight bytes, from which a sample is made
abbrev pub seed_in : List ℕ → Option ℕ
seed_in word = number_of word >>? λ number. if nat_lt number (2 ^ 64) then Some number else None

-- such a number
unfoldable pub sample_of : List (List ℕ) → Option Request
sample_of (number_word ∷ []) = seed_in number_word >>? λ number. Some (Sample number)
sample_of _ = None

-- two of the sample's own variants have one digest: variants are counted place by place, 256 at each
abbrev pub same_digest : ℕ × ℕ → Fault
same_digest pair = Duplicate (pair.0 / 256) (pair.0 % 256) (pair.1 / 256) (pair.1 % 256)

-- the summary of the sample; no blob is read
unfoldable pub sample : ℕ → Reading (List ℕ)
sample number = understood same_digest (sampled number)

-- the trace that it makes: 64 places, of which 30 are readable, three symbols, the bound 3; three playlists and a word beside it
abbrev pub sample_trace : Trace
sample_trace = record { dimension = 3; places = 64; readable = 30; bound = 3; beside = record { products = 1152; looks = 9 } }

-- the numbers of the statuses that it ends with, where the words do not refuse it
abbrev pub sample_statuses : List ℕ
sample_statuses = 0 ∷ 1 ∷ 6 ∷ []
