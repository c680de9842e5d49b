use Rattle.std.proofs.Common.{subst, Some, Err}
use Rattle.copy_match.specs.declared.error.MatchError.{MatchError}
use Rattle.copy_match.specs.Matches.{Matches}
use Rattle.sample_maker.proofs.Copies.{word_is_copied, none_missing, none_long}
use Rattle.sample_maker.proofs.copying.word_over.Goals as goal

pub returns-in-Ok : goal.returns-in-Ok
returns-in-Ok c =
    word_is_copied c.args.number c.args.shelf.now.blobs c.requires.held c.args.title.now c.args.copy.now c.in-Ok.word c.requires.title c.requires.copy (c.in-Ok.ensures.told).is

pub unreachable-requires : goal.unreachable-requires
unreachable-requires c =
    none_missing c.args.number c.args.shelf.now.blobs c.requires.held c.args.copy.now c.in-Err-Missing.field-0-0 c.requires.copy
    (subst (λ (e : MatchError). Matches (Some c.args.shelf.now.blobs) c.args.title.now c.args.copy.now (Err e)) c.in-Err-Missing.field-0-is (c.in-Err-Missing.ensures).told)

pub unreachable-requires-in-Err-TooLong : goal.unreachable-requires-in-Err-TooLong
unreachable-requires-in-Err-TooLong c =
    none_long c.args.number c.args.shelf.now.blobs c.requires.held c.args.copy.now c.in-Err-TooLong.field-0-0 c.ranges.number.fits c.requires.copy
    (subst (λ (e : MatchError). Matches (Some c.args.shelf.now.blobs) c.args.title.now c.args.copy.now (Err e)) c.in-Err-TooLong.field-0-is (c.in-Err-TooLong.ensures).told)
