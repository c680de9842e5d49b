-- A folder of files, and the names that it refuses. This project's own.
use Rattle.std.specs.Prelude.{refl, ℕ, Bool, ◌||◌, ◌==◌, List, slice_index, codes}
use Rattle.std.specs.List.{list_any, slice_split}
use Rattle.std.specs.Str.{bytes_eq}
use Rattle.std.specs.Coded.{Coded, code_by, coded×}
use Rattle.shelf_terms.specs.Counts.{Tally, tally_code}
use Rattle.records.specs.Events.{Event}
use Rattle.records.specs.Rows.{events_code}

-- the parts into which its slashes cut a name
abbrev pub name_parts : List ℕ → List (List ℕ)
name_parts name = slice_split (λ b. b == 47) name

-- a name from the root, or with `..` as one of its parts
abbrev pub leaves_folder : List ℕ → Bool
leaves_folder name = slice_index name 0 == 47 || list_any (λ part. bytes_eq part (codes "..")) (name_parts name)

-- what contracts see of a folder
pub record FolderView : Type 0 where
  pub counts : Tally
  pub events : List Event

-- by which a proof tells such folders apart
abbrev pub folder_code : Coded FolderView
folder_code =
    code_by (Tally × List Event)
    (coded× tally_code events_code)
    (λ s. (s.counts, s.events))
    (λ p. record { counts = p.0; events = p.1 })
    (λ _. refl)
