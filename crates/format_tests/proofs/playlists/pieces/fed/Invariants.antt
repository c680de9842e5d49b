use Rattle.std.proofs.Common.{◌≤◌, ◌+◌, length}
use Rattle.format_tests.proofs.playlists.pieces.fed.Given as goal

abbrev pub invariant-pieces : goal.invariant-pieces
invariant-pieces l = l.reader.taken + length l.rest ≤ length l.text

abbrev pub decreases-pieces : goal.decreases-pieces
decreases-pieces l = length l.rest
