use Rattle.std.proofs.Common.{◌≡◌, ◌∙◌, sym, ap, subst, ℕ, ◌/◌, ◌%◌, List, IfOk}
use Rattle.title_terms.specs.Designs.{Design, variant_name}
use Rattle.packaging_terms.specs.Variants.{blob_of}
use Rattle.sample_terms.specs.Inputs as inputs
use Rattle.sample_maker.proofs.Held.{blob_is}
use Rattle.sample_maker.proofs.holding.blob_name.Goals as goal

pub returns : goal.returns
returns c =
    let variant : ℕ = c.args.variant in
    let same : variant_name c.args.design.now (variant / 256) (variant % 256) ≡ blob_of inputs.design variant =
    ap (λ (d : Design). variant_name d (variant / 256) (variant % 256)) c.requires ∙ sym (blob_is variant) in
    subst (λ (n : List ℕ). IfOk c.variant_name.result (λ name. name ≡ n)) same c.variant_name.ensures
