use Rattle.std.proofs.Common.{◌∷◌, [], ap, subst, length, length-append, arith}
use Rattle.std.proofs.lemmas.List.Elements.{All-append, All-cons, All-nil}
use Rattle.playlist_terms.specs.Playlists.{IsSegment}
use Rattle.m3u8_text.proofs.media_list.MediaList.push.Goals as goal

pub invariant_of-self-2 : goal.invariant_of-self-2
invariant_of-self-2 c =
    let old = c.self.inside.segments.items in
    let one = c.args.segment ∷ [] in
    record {
      version_low = c.self.invariant.version_low;
      version_high = c.self.invariant.version_high;
      target = c.self.invariant.target;
      sequence = c.self.invariant.sequence;
      segments = rw c.in_ok-push.ensures.items (All-append IsSegment old one c.self.invariant.segments (All-cons IsSegment c.args.segment [] (subst IsSegment c.segment.view_is c.segment.invariant) (All-nil IsSegment)));
      room = omega (arith, ap length c.in_ok-push.ensures.items, length-append old one, c.if-len-ge-MOST_SEGMENTS.false, c.len.ensures);
    }
