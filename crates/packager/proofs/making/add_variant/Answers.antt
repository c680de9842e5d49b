use Rattle.std.proofs.Common.{◌∙◌, sym, subst}
use Rattle.outcome_terms.specs.Stores.{no_memory}
use Rattle.packager.specs.Refusals.{refusal_of}
use Rattle.packager.specs.Builds.{IsBegun, PutsAs}
use Rattle.packager.proofs.Adding.{not_hashed, added_after, named_by, cell_by, name_by}
use Rattle.packager.proofs.making.add_variant.Goals as goal

pub returns-in_default : goal.returns-in_default
returns-in_default g c = no_memory

pub digest_under-requires : goal.digest_under-requires
digest_under-requires g c =
    name_by c.args.builder.now.design c.args.variant c.args.symbol_count c.in-Ok.name c.as_str.result.now c.requires.design c.requires.inside c.requires.symbols c.in-Ok.ensures c.as_str.ensures

pub put-requires-clause-begun : goal.put-requires-clause-begun
put-requires-clause-begun g c =
    subst (IsBegun c.args.builder.now) (sym (cell_by c.args.builder.now.design c.args.variant c.args.symbol_count c.requires.symbols)) c.requires.begun

pub returns-in-Ok-digest_under : goal.returns-in-Ok-digest_under
returns-in-Ok-digest_under g c =
    let design = c.args.builder.now.design in
    added_after c.args.builder.now c.put.new.builder c.args.variant c.as_str.result.now c.in-Ok-digest_under.digest.bytes _ _ c.put.result
    (c.as_str.ensures ∙ named_by design c.args.variant c.args.symbol_count c.in-Ok.name c.requires.symbols c.in-Ok.ensures)
    c.in-Ok-digest_under.ensures
    (subst (λ i. PutsAs c.put.result c.args.builder.now c.put.new.builder i c.in-Ok-digest_under.digest.bytes) (cell_by design c.args.variant c.args.symbol_count c.requires.symbols) c.put.ensures)

pub returns : goal.returns
returns g c =
    not_hashed c.args.builder.now c.args.variant c.as_str.result.now _ _ (refusal_of c.in-Err.error)
    (c.as_str.ensures ∙ named_by c.args.builder.now.design c.args.variant c.args.symbol_count c.in-Ok.name c.requires.symbols c.in-Ok.ensures)
    c.in-Err.ensures
