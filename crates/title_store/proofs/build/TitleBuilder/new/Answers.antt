use Rattle.std.proofs.Common.{◌∙◌, sym, ap, length, None, subst}
use Rattle.title_terms.specs.Designs.{IsDesign}
use Rattle.playlist_terms.specs.Playlists.{IsPlaylist}
use Rattle.title_store.proofs.Wholes.{none_beyond, none_from}
use Rattle.std.proofs.lemmas.List.{length-replicate}
use Rattle.title_store.proofs.build.TitleBuilder.new.Goals as goal

pub invariant_of-result : goal.invariant_of-result
invariant_of-result c = record {
  design = subst IsDesign c.design.view_is c.design.invariant;
  list = subst IsPlaylist c.source.view_is c.source.invariant;
  marked = none_beyond c.args.design.marked (length c.args.source.segments) (sym c.first_beyond.ensures ∙ none_from c.first_beyond.result c.in_default.not-Some);
  cells = ap length c.in-Ok.ensures ∙ length-replicate c.variant_count-count.result None ∙ c.variant_count-count.ensures.number;
}
