-- Cells that hold a digest or nothing, and an index of them.
use Rattle.std.specs.List.{list_all}
use Rattle.std.specs.Prelude.{◌≡◌, ◌≤◌, ℕ, List, [], length, take, map, slice_index_or, true, is_some, Option, Some, None}
use Rattle.std.specs.Option.{unwrap_or}
use Rattle.std.specs.Map.{lookup}
use Rattle.std.specs.Str.{bytes_eq}
use Rattle.title_terms.specs.Titles.{IsDigest}
use Rattle.title_store.specs.declared.table.CellError.{CellError}
use Rattle.title_store.specs.declared.table.CellError.TheVariants as errors

-- what a cell holds; nothing also where there is no such cell
abbrev pub held_at : List (Option (List ℕ)) → ℕ → Option (List ℕ)
held_at cells i = slice_index_or cells i None

-- the cell holds the digest
abbrev pub HoldsDigest : List (Option (List ℕ)) → ℕ → List ℕ → Type 0
HoldsDigest cells i digest = held_at cells i ≡ Some digest

-- no cell holds the digest
abbrev pub IsAbsent : List (Option (List ℕ)) → List ℕ → Type 0
IsAbsent cells digest = (i : ℕ) → HoldsDigest cells i digest → ⊥

-- the cells hold digests, no two the same
pub record AreDistinct (cells : List (Option (List ℕ))) : Type 0 where
  pub digests : (i : ℕ) (d : List ℕ) → HoldsDigest cells i d → IsDigest d
  pub once : (i j : ℕ) (d : List ℕ) → HoldsDigest cells i d → HoldsDigest cells j d → i ≡ j

-- the index gives for each digest the cell that holds it
pub record IsTable (entries : List (List ℕ × ℕ)) (cells : List (Option (List ℕ))) : Type 0 where
  pub found : (d : List ℕ) (i : ℕ) → lookup (bytes_eq d) entries ≡ Some i → HoldsDigest cells i d
  pub held : (d : List ℕ) (i : ℕ) → HoldsDigest cells i d → lookup (bytes_eq d) entries ≡ Some i
  pub digests : (i : ℕ) (d : List ℕ) → HoldsDigest cells i d → IsDigest d

-- why nothing was put: the cell was full, or else another one holds the digest
abbrev pub IsRefusal : List (Option (List ℕ)) → ℕ → List ℕ → CellError → Type 0
IsRefusal cells i digest errors.Full = is_some (held_at cells i) ≡ true
IsRefusal cells i digest (errors.HeldBy j) = (held_at cells i ≡ None) × HoldsDigest cells j digest
IsRefusal cells i digest errors.Memory = Unit {0}

-- the digests of full cells
abbrev pub filled : List (Option (List ℕ)) → List (List ℕ)
filled cells = map (λ cell. unwrap_or cell []) cells

-- so many cells from the first one on are full, and the others are empty
pub record IsFilled (cells : List (Option (List ℕ))) (i count : ℕ) : Type 0 where
  pub long : length cells ≡ count
  pub front : list_all is_some (take i cells) ≡ true
  pub rest : (k : ℕ) → i ≤ k → held_at cells k ≡ None
