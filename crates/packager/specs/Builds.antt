-- A title that is built variant by variant, beside the reading that it follows. This project's own.
use Rattle.std.specs.Prelude.{◌≡◌, ◌≢◌, ℕ, ◌+◌, ◌*◌, ◌<◌, slice_index_or, List, [], ◌++◌, length, map, take, replicate, true, Some, None, Result, Ok, Err}
use Rattle.sha2.specs.Sha256.{sha256}
use Rattle.blob_digests.specs.declared.digest.Digest.{Digest}
use Rattle.title_terms.specs.Designs.{places, symbols}
use Rattle.title_store.specs.Cells.{filled}
use Rattle.title_store.specs.Builds.{Build, is_full}
use Rattle.packaging_terms.specs.Variants.{variants}
use Rattle.outcome_terms.specs.Reading.{Give}
use Rattle.outcome_terms.specs.Stores.{Settles, Reads, Follows}
use Rattle.records.specs.Stores.{Store}
use Rattle.outcome_terms.specs.Along.{along}
use Rattle.outcome_terms.specs.TitleCommand.{with_digest, with_variant}
use Rattle.packager.specs.declared.errors.PackError.{PackError}
use Rattle.packager.specs.Refusals.{refusal_of}

-- the digests of so many variants
abbrev pub so_far : Build → ℕ → List (List ℕ)
so_far b i = filled (take i b.cells)

-- So many variants have digests, all of them different, and the others have none yet.
pub record IsBegun (b : Build) (i : ℕ) : Type 0 where
  pub rest : ℕ
  pub cells : b.cells ≡ map Some (so_far b i) ++ replicate rest None
  pub long : length (so_far b i) ≡ i
  pub count : i + rest ≡ places b.design * symbols b.design
  pub distinct : (j k : ℕ) → j < k → k < i → slice_index_or (so_far b i) j [] ≢ slice_index_or (so_far b i) k []

-- the same title
pub record IsSame (old new : Build) : Type 0 where
  pub design : new.design ≡ old.design
  pub list : new.list ≡ old.list

-- a blob was read, and this is its digest
pub record HasHashed (name digest : List ℕ) (s t : Store) : Type 0 where
  pub bytes : List ℕ
  pub read : Reads name s t (Ok bytes)
  pub is : digest ≡ sha256 bytes

abbrev pub HashesAs : List ℕ → Store → Store → Result Digest PackError → Type 0
HashesAs name s t (Ok digest) = HasHashed name digest.bytes s t
HashesAs name s t (Err e) = Reads name s t (Err (refusal_of e))

-- a digest was put for the next variant
pub record Puts (old new : Build) (i : ℕ) (digest : List ℕ) : Type 0 where
  pub gives : with_digest old.design (so_far old i) i digest ≡ Give (so_far new (i + 1))
  pub begun : IsBegun new (i + 1)
  pub same : IsSame old new

abbrev pub PutsAs : Result (Unit {0}) PackError → Build → Build → ℕ → List ℕ → Type 0
PutsAs (Ok _) old new i digest = Puts old new i digest
PutsAs (Err e) old new i digest = Settles (Err (refusal_of e)) (with_digest old.design (so_far old i) i digest)

-- the next variant was read, and its digest was put
pub record Adds (old new : Build) (i : ℕ) (s t : Store) : Type 0 where
  pub follows : Follows (with_variant old.design (so_far old i) i) s t (Ok (so_far new (i + 1)))
  pub begun : IsBegun new (i + 1)
  pub same : IsSame old new

abbrev pub AddsAs : Result (Unit {0}) PackError → Build → Build → ℕ → Store → Store → Type 0
AddsAs (Ok _) old new i s t = Adds old new i s t
AddsAs (Err e) old new i s t = Follows (with_variant old.design (so_far old i) i) s t (Err (refusal_of e))

-- all variants were read, and each has its digest
pub record Fills (old new : Build) (s t : Store) : Type 0 where
  pub follows : Follows (along (with_variant old.design) [] (variants old.design)) s t (Ok (filled new.cells))
  pub full : is_full new ≡ true
  pub same : IsSame old new

abbrev pub FillsAs : Result (Unit {0}) PackError → Build → Build → Store → Store → Type 0
FillsAs (Ok _) old new s t = Fills old new s t
FillsAs (Err e) old new s t = Follows (along (with_variant old.design) [] (variants old.design)) s t (Err (refusal_of e))
