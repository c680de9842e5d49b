-- Bytes that a writer tells, over two calls.
use Rattle.std.proofs.Common.{◌∙◌, ℕ, List, Option, Some, None}
use Rattle.std.specs.Io.KnownBytes.{Appends, Keeps}

-- what is appended stays where a later call keeps all
pub appends_kept : (old mid new : Option (List ℕ)) (bytes : List ℕ) → Appends old mid bytes → Keeps mid new → Appends old new bytes
appends_kept None mid new bytes appended kept = tt
appends_kept (Some a) None new bytes appended kept = absurd appended
appends_kept (Some a) (Some b) None bytes appended kept = absurd kept
appends_kept (Some a) (Some b) (Some c) bytes appended kept = kept ∙ appended
