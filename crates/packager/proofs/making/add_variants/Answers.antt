use Rattle.std.proofs.Common.{◌≡◌, ap₂, ℕ, ◌*◌, ◌<◌, arith}
use Rattle.title_terms.specs.Designs.{places, symbols}
use Rattle.packager.specs.Refusals.{refusal_of}
use Rattle.packager.proofs.Filling.{same_itself, same_then, none_read, read_more, read_stops, all_read}
use Rattle.packager.proofs.making.add_variants.Goals as goal

pub variants-init : goal.variants-init
variants-init g c = record {
  follows = none_read c.args.builder.now.design _;
  begun = c.requires.begun;
  same = same_itself c.args.builder.now;
}

pub variants-preserved : goal.variants-preserved
variants-preserved g c =
    let count : c.args.place_count * c.args.symbol_count ≡ places c.args.builder.now.design * symbols c.args.builder.now.design = ap₂ (λ (n q : ℕ). n * q) c.requires.places c.requires.symbols in
    let inside : c.variants.variant < places c.args.builder.now.design * symbols c.args.builder.now.design = omega (arith, c.variants-test.true, count) in
    record {
      follows = read_more c.args.builder.now c.variants.builder c.add_variant.new.builder c.variants.variant _ _ _ c.variants.invariant.same inside c.variants.invariant.follows c.in-Ok.ensures;
      begun = c.in-Ok.ensures.begun;
      same = same_then c.variants.invariant.same c.in-Ok.ensures.same;
    }

pub returns-in-Err : goal.returns-in-Err
returns-in-Err g c =
    let count : c.args.place_count * c.args.symbol_count ≡ places c.args.builder.now.design * symbols c.args.builder.now.design = ap₂ (λ (n q : ℕ). n * q) c.requires.places c.requires.symbols in
    let inside : c.variants.variant < places c.args.builder.now.design * symbols c.args.builder.now.design = omega (arith, c.variants-test.true, count) in
    read_stops c.args.builder.now c.variants.builder c.variants.variant (refusal_of c.in-Err.error) _ _ _ c.variants.invariant.same inside c.variants.invariant.follows c.in-Err.ensures

pub returns : goal.returns
returns g c =
    let count : c.args.place_count * c.args.symbol_count ≡ places c.args.builder.now.design * symbols c.args.builder.now.design = ap₂ (λ (n q : ℕ). n * q) c.requires.places c.requires.symbols in
    let all : c.variants.variant ≡ places c.args.builder.now.design * symbols c.args.builder.now.design = omega (arith, c.variants-test.false, c.variants.auto.variant-end, count) in
    all_read c.args.builder.now c.variants.builder c.variants.variant _ _ all c.variants.invariant.same c.variants.invariant.begun c.variants.invariant.follows
