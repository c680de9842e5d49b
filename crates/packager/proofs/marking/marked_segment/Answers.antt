use Rattle.std.proofs.Common.{rules, ◌<◌, arith}
use Rattle.title_terms.specs.Designs.{places}
use Rattle.packaging_terms.proofs.VariantNames.{HasVariant, variant_uri}
use Rattle.packager.proofs.marking.marked_segment.Goals as goal

pub segment_of-requires-in-Some-clause-uri : goal.segment_of-requires-in-Some-clause-uri
segment_of-requires-in-Some-clause-uri c =
    let design = c.places-places.ensures.valid.design in
    let inside : c.in-Some.place < places c.args.title.now.design = search rules in
    let has : HasVariant c.args.title.now.design c.in-Some.place c.symbol_in-symbol.result = record {
      prefix = design.prefix;
      suffix = design.suffix;
      few = omega (arith, c.places-places.ensures.number, c.places-places.ensures.few, inside);
      byte = omega arith;
    } in
    rw (c.as_str-in-Some.ensures, c.in_ok-name-in-Some.ensures) (variant_uri c.args.title.now.design c.in-Some.place c.symbol_in-symbol.result has)
