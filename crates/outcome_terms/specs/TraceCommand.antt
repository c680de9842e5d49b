-- `trace TITLE REG COPY C`: who agrees with the word of a copy. This project's own.
use Rattle.std.specs.Prelude.{ℕ, Bool, ◌&&◌, nat_le, List, [], ◌∷◌, map, Option, Some, None}
use Rattle.text_terms.specs.Numbers.{number_of}
use Rattle.playlist_terms.specs.Playlists.{Playlist}
use Rattle.title_terms.specs.Titles.{Title}
use Rattle.packaging_terms.specs.Licensees.{fits}
use Rattle.copy_terms.specs.Copies.{word_of_copy}
use Rattle.outcome_terms.specs.declared.fault.Fault.TheVariants.{BadBound}
use Rattle.outcome_terms.specs.Request.{Request, Trace as Traces}
use Rattle.outcome_terms.specs.Words.{◌>>?◌, named}
use Rattle.outcome_terms.specs.Reading.{Reading, Give, ◌>>=◌, ◌>>◌, require, each}
use Rattle.outcome_terms.specs.Registers.{register_under}
use Rattle.outcome_terms.specs.TitleCommand.{playlist_under, digest_under}
use Rattle.outcome_terms.specs.PackageCommand.{title_under, mismatch}
use Rattle.outcome_terms.specs.AccuseCommand.{report}
use Rattle.outcome_terms.specs.Traces.{Trace, trace_at}

-- three blobs' names and a number
unfoldable pub trace_of : List (List ℕ) → Option Request
trace_of (title_word ∷ register_word ∷ copy_word ∷ c_word ∷ []) =
    named title_word >>? λ title. named register_word >>? λ register. named copy_word >>? λ copy. number_of c_word >>? λ c.
    Some (Traces title register copy c)
trace_of _ = None

-- a bound that the design of the title serves
abbrev pub is_served : Title → ℕ → Bool
is_served t c = nat_le 1 c && nat_le c t.design.bound

-- the names of the segments of a list, in order
abbrev pub segment_names : Playlist → List (List ℕ)
segment_names p = map (λ s. s.uri) p.segments

-- the word of a copy: the blob of each segment is read, in the order of the copy
unfoldable pub word_of_copy_under : Title → Playlist → Reading (List (Option ℕ))
word_of_copy_under t copy = do
  digests ← each digest_under (segment_names copy)
  Give (word_of_copy t digests)

-- the word of the copy that a blob names
unfoldable pub word_shown : Title → List ℕ → Reading (List (Option ℕ))
word_shown t copy = do
  p ← playlist_under copy
  word_of_copy_under t p

-- the report of the word's findings
unfoldable pub trace : (title register copy : List ℕ) (c : ℕ) → Reading (List ℕ)
trace title register copy c = do
  t ← title_under title
  e ← register_under register
  require (fits t e) (mismatch t e)
  require (is_served t c) (BadBound c)
  slots ← word_shown t copy
  report e slots c

-- the trace that it makes, where nothing is refused before
unfoldable pub trace_trace : (title register copy : List ℕ) (c : ℕ) → Reading Trace
trace_trace title register copy c = do
  t ← title_under title
  e ← register_under register
  require (fits t e) (mismatch t e)
  require (is_served t c) (BadBound c)
  slots ← word_shown t copy
  Give (trace_at e.dimension slots c)

-- the numbers of the statuses that it ends with
abbrev pub trace_statuses : List ℕ
trace_statuses = 0 ∷ 1 ∷ 3 ∷ 4 ∷ 6 ∷ 7 ∷ 9 ∷ 10 ∷ 11 ∷ 13 ∷ 14 ∷ 15 ∷ []
