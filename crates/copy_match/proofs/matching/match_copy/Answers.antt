use Rattle.std.proofs.Common.{◌≡◌, ◌∙◌, ◌≤◌, length, Some, Err, sym, ap, subst, arith}
use Rattle.std.specs.Prelude.{slice_get}
use Rattle.std.proofs.lemmas.List.{length-map}
use Rattle.playlist_terms.specs.Playlists.{PlaylistSegment}
use Rattle.outcome_terms.specs.Stores.{Follows, no_memory}
use Rattle.outcome_terms.specs.TraceCommand.{segment_names, word_of_copy_under}
use Rattle.copy_match.specs.declared.error.MatchError.{MatchError}
use Rattle.copy_match.specs.Matches.{Matches, refusal_of}
use Rattle.copy_match.proofs.Progress.{none_read, named, one_read, stopped_follows, stopped_matches, all_read, all_follows, all_matches, all_long, all_small, memory_follows}
use Rattle.copy_match.proofs.matching.match_copy.Goals as goal

pub segments-init : goal.segments-init
segments-init g c = none_read c.args.title.now c.args.copy.now c.in-Ok.reader _ c.in-Ok.ensures.title c.in-Ok.ensures.nothing

pub returns-in-Err-segment_digest-clause-told : goal.returns-in-Err-segment_digest-clause-told
returns-in-Err-segment_digest-clause-told g c =
    let at = named c.args.copy.now c.segments-segments.result.now c.segments.i c.index-segments-i.result c.segments-segments.ensures.items c.segments-test.true c.index-segments-i.is in
    subst (λ (e : MatchError). Matches (g.S.Shelf.store c.args.shelf.now).told c.args.title.now c.args.copy.now (Err e)) (sym c.stopped_at.ensures)
    (stopped_matches c.args.title.now c.args.copy.now c.segments.reader c.segments.i c.index-segments-i.result.uri c.in-Err-segment_digest.error
    (g.S.Shelf.store c.args.shelf.now) (g.S.Shelf.store c.segments.shelf) (g.S.Shelf.store c.segment_digest.new.shelf) c.segments.invariant at c.in-Err-segment_digest.ensures.digest)

pub returns-in-Err-segment_digest-clause-reading : goal.returns-in-Err-segment_digest-clause-reading
returns-in-Err-segment_digest-clause-reading g c =
    let at = named c.args.copy.now c.segments-segments.result.now c.segments.i c.index-segments-i.result c.segments-segments.ensures.items c.segments-test.true c.index-segments-i.is in
    subst (λ (e : MatchError). Follows (word_of_copy_under c.args.title.now c.args.copy.now) (g.S.Shelf.store c.args.shelf.now)
    (g.S.Shelf.store c.segment_digest.new.shelf) (Err (refusal_of c.args.copy.now e))) (sym c.stopped_at.ensures)
    (stopped_follows c.args.title.now c.args.copy.now c.segments.reader c.segments.i c.index-segments-i.result.uri c.in-Err-segment_digest.error
    (g.S.Shelf.store c.args.shelf.now) (g.S.Shelf.store c.segments.shelf) (g.S.Shelf.store c.segment_digest.new.shelf)
    c.segments.invariant at c.in-Err-segment_digest.ensures.reads)

pub segments-preserved : goal.segments-preserved
segments-preserved g c =
    let at = named c.args.copy.now c.segments-segments.result.now c.segments.i c.index-segments-i.result c.segments-segments.ensures.items c.segments-test.true c.index-segments-i.is in
    one_read c.args.title.now c.args.copy.now c.segments.reader c.see.new.self c.segments.i c.index-segments-i.result.uri c.in-Ok-segment_digest.digest.bytes
    (g.S.Shelf.store c.args.shelf.now) (g.S.Shelf.store c.segments.shelf) (g.S.Shelf.store c.segment_digest.new.shelf)
    c.segments.invariant at c.in-Ok-segment_digest.ensures.reads c.in-Ok-segment_digest.ensures.digest c.see.ensures.title c.see.ensures.seen

pub returns-in-Ok-word-clause-told : goal.returns-in-Ok-word-clause-told
returns-in-Ok-word-clause-told g c =
    all_matches c.args.title.now c.args.copy.now c.segments.reader c.segments.i (g.S.Shelf.store c.args.shelf.now) (g.S.Shelf.store c.segments.shelf) c.segments.invariant
    (all_read c.args.copy.now c.segments-segments.result.now c.segments.i c.segments-segments.ensures.items c.segments-test.false) c.in-Ok-word.word c.in-Ok-word.ensures.word

pub returns-in-Ok-word-clause-reading : goal.returns-in-Ok-word-clause-reading
returns-in-Ok-word-clause-reading g c =
    all_follows c.args.title.now c.args.copy.now c.segments.reader c.segments.i (g.S.Shelf.store c.args.shelf.now) (g.S.Shelf.store c.segments.shelf) c.segments.invariant
    (all_read c.args.copy.now c.segments-segments.result.now c.segments.i c.segments-segments.ensures.items c.segments-test.false) c.in-Ok-word.word c.in-Ok-word.ensures.word

pub returns-in-Ok-word-clause-places : goal.returns-in-Ok-word-clause-places
returns-in-Ok-word-clause-places g c =
    all_long c.args.title.now c.args.copy.now c.segments.reader c.segments.i (g.S.Shelf.store c.args.shelf.now) (g.S.Shelf.store c.segments.shelf) c.segments.invariant
    (all_read c.args.copy.now c.segments-segments.result.now c.segments.i c.segments-segments.ensures.items c.segments-test.false) c.in-Ok-word.word c.in-Ok-word.ensures.word

pub returns-in-Ok-word-clause-symbols : goal.returns-in-Ok-word-clause-symbols
returns-in-Ok-word-clause-symbols g c =
    all_small c.args.title.now c.args.copy.now c.segments.reader c.segments.i (g.S.Shelf.store c.args.shelf.now) (g.S.Shelf.store c.segments.shelf) c.segments.invariant
    (all_read c.args.copy.now c.segments-segments.result.now c.segments.i c.segments-segments.ensures.items c.segments-test.false) c.in-Ok-word.word c.in-Ok-word.ensures.word

pub returns-clause-reading : goal.returns-clause-reading
returns-clause-reading g c =
    memory_follows c.args.title.now c.args.copy.now c.segments.reader c.segments.i (g.S.Shelf.store c.args.shelf.now) (g.S.Shelf.store c.segments.shelf) c.segments.invariant
    (all_read c.args.copy.now c.segments-segments.result.now c.segments.i c.segments-segments.ensures.items c.segments-test.false)

pub returns-in-Err-clause-reading : goal.returns-in-Err-clause-reading
returns-in-Err-clause-reading g c = no_memory
