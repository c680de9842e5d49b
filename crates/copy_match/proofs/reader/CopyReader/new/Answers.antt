use Rattle.std.proofs.Common.{◌≡◌, ◌∙◌, ℕ, ◌*◌, false, replicate, rules, sym, ap}
use Rattle.title_terms.specs.Designs.{symbols}
use Rattle.copy_match.proofs.Flags.{none_seen}
use Rattle.copy_match.proofs.reader.CopyReader.new.Goals as goal

pub returns-clause-nothing : goal.returns-clause-nothing
returns-clause-nothing c =
    let count : ℕ = c.places.result * c.symbols.result in
    let empty : c.in_ok-flags.flags.items ≡ replicate count false = search rules in
    none_seen c.args.title.now count c.in_ok-flags.flags.items empty
    (c.places.ensures.valid.full ∙ ap (λ (n : ℕ). n * symbols c.args.title.now.design) (sym c.places.ensures.number) ∙ ap (λ (n : ℕ). c.places.result * n) (sym c.symbols.ensures.number))
