use Rattle.std.proofs.Common.{◌≡◌, sym, subst, true, List, ℕ, ◌++◌, codes, rules}
use Rattle.std.specs.Fmt.{decimal}
use Rattle.playlist_terms.specs.Playlists.{is_segment_uri}
use Rattle.sample_maker.proofs.Lists.{segment_uri}
use Rattle.sample_maker.proofs.source.source_segment.Goals as goal

pub segment_of-requires-clause-uri : goal.segment_of-requires-clause-uri
segment_of-requires-clause-uri c =
    let uri : c.as_str.result.now ≡ codes "s" ++ (decimal c.args.place ++ codes ".ts") = search rules in
    subst (λ (text : List ℕ). is_segment_uri text ≡ true) (sym uri) (segment_uri c.args.place c.requires)
