-- What a done `title` and a done `package` leave, where the blobs are told. This project's own.
use Rattle.std.specs.Prelude.{◌≡◌, ℕ, List, Option, Some}
use Rattle.std.specs.FinMap.{insert}
use Rattle.shelf_terms.specs.Blobs.{Blobs}
use Rattle.outcome_terms.specs.PackagingReports.{IsMadeTitle, IsMadePlaylist}

-- the name holds the title of the design and the source that two blobs hold, made of the variants that are held
pub record WritesTitle (blobs : Blobs) (design source out : List ℕ) (told : Option Blobs) : Type 0 where
  pub text : List ℕ
  pub is_title : IsMadeTitle blobs design source out text
  pub after : told ≡ Some (insert blobs out text)

-- the name holds the playlist that the licensee of this name gets of the title
pub record WritesPlaylist (blobs : Blobs) (title register name out : List ℕ) (told : Option Blobs) : Type 0 where
  pub text : List ℕ
  pub is_playlist : IsMadePlaylist blobs title register name out text
  pub after : told ≡ Some (insert blobs out text)
