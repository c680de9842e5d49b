-- A title that is being built, and which answer each call gives. Want of memory is the one answer that is always free.
use Rattle.std.specs.Prelude.{◌≡◌, ℕ, ◌*◌, ◌<◌, Bool, true, nat_le, nat_lt, is_some, List, length, slice_set, replicate, All, Option, Some, None, Result, Ok, Err, if◌then◌else◌}
use Rattle.std.specs.List.{find, list_all}
use Rattle.playlist_terms.specs.Playlists.{Playlist, IsPlaylist}
use Rattle.title_terms.specs.Designs.{Design, IsDesign, places, symbols}
use Rattle.title_terms.specs.Titles.{Title, IsTitle, cell_of}
use Rattle.title_store.specs.Cells.{held_at, filled}
use Rattle.title_store.specs.declared.errors.BuildError.{BuildError}
use Rattle.title_store.specs.declared.errors.BuildError.TheVariants as build
use Rattle.title_store.specs.declared.errors.AddError.{AddError}
use Rattle.title_store.specs.declared.errors.AddError.TheVariants as add

pub record Build : Type 0 where
  pub design : Design
  pub list : Playlist
  -- place by place, and at each place symbol by symbol: the digests that were added
  pub cells : List (Option (List ℕ))

-- the digest that was added for a variant
abbrev pub added : Build → ℕ → ℕ → Option (List ℕ)
added b place symbol = if nat_lt symbol (symbols b.design) then held_at b.cells (cell_of b.design place symbol) else None

abbrev pub is_full : Build → Bool
is_full b = list_all is_some b.cells

-- without digests
abbrev pub empty_build : Design → Playlist → Build
empty_build design list = record { design = design; list = list; cells = replicate (places design * symbols design) None }

abbrev pub with_digest : Build → ℕ → ℕ → List ℕ → Build
with_digest b place symbol digest = record b { cells = slice_set b.cells (cell_of b.design place symbol) (Some digest) }

-- the title of a full build
abbrev pub title_by : Build → Title
title_by b = record { design = b.design; list = b.list; digests = filled b.cells }

-- what is kept while a title is built
pub record IsBuild (b : Build) : Type 0 where
  pub design : IsDesign b.design
  pub list : IsPlaylist b.list
  pub marked : All (λ segment. segment < length b.list.segments) b.design.marked
  pub cells : length b.cells ≡ places b.design * symbols b.design

-- what a title keeps: it is valid, and all its cells are full
pub record IsWhole (b : Build) : Type 0 where
  pub title : IsTitle (title_by b)
  pub full : is_full b ≡ true

-- ---- answers

-- the first marked number without a segment
abbrev pub first_beyond : Design → Playlist → Option ℕ
first_beyond design list = find (λ segment. nat_le (length list.segments) segment) design.marked

-- nothing is added yet; or which marked number is the first without a segment
abbrev pub BuildsAs : Result Build BuildError → Design → Playlist → Type 0
BuildsAs (Ok b) design list = (first_beyond design list ≡ None) × (b ≡ empty_build design list)
BuildsAs (Err (build.NoSegment segment)) design list = first_beyond design list ≡ Some segment
BuildsAs (Err build.Memory) design list = Unit {0}

-- Whether the variant was free and the digest new; or that the variant was not free; or else which variant has the digest. No two
-- of these stand together, so each answer comes exactly where its condition holds, unless memory runs out.
abbrev pub AddsAs : Result (Unit {0}) AddError → Build → ℕ → ℕ → List ℕ → Type 0
AddsAs (Ok _) b place symbol digest = (added b place symbol ≡ None) × ((p v : ℕ) → added b p v ≡ Some digest → ⊥)
AddsAs (Err add.Twice) b place symbol digest = is_some (added b place symbol) ≡ true
AddsAs (Err (add.Duplicate p v)) b place symbol digest = (added b place symbol ≡ None) × (added b p v ≡ Some digest)
AddsAs (Err add.Memory) b place symbol digest = Unit {0}
