use Rattle.std.proofs.Common.{[], take, Ok}
use Rattle.packaging_terms.specs.Variants.{variants}
use Rattle.outcome_terms.specs.Along.{along}
use Rattle.outcome_terms.specs.Stores.{Follows}
use Rattle.outcome_terms.specs.TitleCommand.{with_variant}
use Rattle.packager.specs.Builds.{so_far, IsBegun, IsSame}
use Rattle.packager.proofs.making.add_variants.Given as goal

abbrev pub invariant-variants : goal.invariant-variants
invariant-variants g l =
    let shelf = g.S.Shelf in
    record {
      follows : Follows (along (with_variant l.fn.builder.design) [] (take l.variant (variants l.fn.builder.design)))
          (shelf.store l.fn.shelf) (shelf.store l.shelf) (Ok (so_far l.builder l.variant));
      begun : IsBegun l.builder l.variant;
      same : IsSame l.fn.builder l.builder;
    }
