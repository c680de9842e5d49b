-- A store and an output as contracts see them. This project's own.
use Rattle.std.specs.Prelude.{ℕ, List, Option}
use Rattle.shelf_terms.specs.Blobs.{Blobs}
use Rattle.shelf_terms.specs.Counts.{Tally}
use Rattle.records.specs.Events.{Event}

pub record Store : Type 0 where
  -- the blobs, where they are told
  pub told : Option Blobs
  -- what went wrong so far
  pub counts : Tally
  -- what it was asked and answered so far
  pub events : List Event

pub record Output : Type 0 where
  -- what stands there, where it is told
  pub written : Option (List ℕ)
  -- how many puts failed so far
  pub faults : ℕ
  -- what was put so far, and whether it was taken
  pub events : List Event
