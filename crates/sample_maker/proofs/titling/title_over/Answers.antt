use Rattle.std.proofs.Common.{◌≡◌, sym, subst, ℕ, Option, Some, Ok, Err}
use Rattle.text_terms.specs.Answers.{RefusesAs}
use Rattle.shelf_terms.specs.Blobs.{Blobs}
use Rattle.title_terms.specs.Titles.{Title}
use Rattle.packager.specs.Refusals.{told_by}
use Rattle.sample_terms.specs.Inputs.{title_of, twins, variants}
use Rattle.sample_maker.specs.Answers.{title_unless}
use Rattle.sample_maker.specs.Holding.{HoldsVariants}
use Rattle.sample_maker.proofs.Held.{variants_are}
use Rattle.sample_maker.proofs.Titled.{made_then, title_given, twins_given, free_given}
use Rattle.sample_maker.proofs.titling.title_over.Goals as goal

pub sample_error-requires : goal.sample_error-requires
sample_error-requires c =
    let number = c.args.number in
    let holds = subst (λ (n : ℕ). HoldsVariants number c.hold_variants.new.shelf.blobs n) (sym variants_are) c.in_ok-hold_variants.ensures in
    free_given (twins number variants) (title_of number) c.in-Err.error
    (made_then number c.hold_variants.new.shelf.blobs c.ranges.number.fits holds c.in_ok-design.design c.in_ok-source.source (told_by (λ (t : Title). t) (Err c.in-Err.error)) c.in_ok-design.ensures c.in_ok-source.ensures (c.in-Err.ensures).held)

pub returns-in-Ok-clause-answer : goal.returns-in-Ok-clause-answer
returns-in-Ok-clause-answer c =
    let number = c.args.number in
    let holds = subst (λ (n : ℕ). HoldsVariants number c.hold_variants.new.shelf.blobs n) (sym variants_are) c.in_ok-hold_variants.ensures in
    title_given (twins number variants) (title_of number) c.in-Ok.title
    (made_then number c.hold_variants.new.shelf.blobs c.ranges.number.fits holds c.in_ok-design.design c.in_ok-source.source (told_by (λ (t : Title). t) (Ok c.in-Ok.title)) c.in_ok-design.ensures c.in_ok-source.ensures (c.in-Ok.ensures).held)

pub returns-in-Ok-clause-held : goal.returns-in-Ok-clause-held
returns-in-Ok-clause-held c =
    let number = c.args.number in
    let holds = subst (λ (n : ℕ). HoldsVariants number c.hold_variants.new.shelf.blobs n) (sym variants_are) c.in_ok-hold_variants.ensures in
    let same : c.make_title.new.shelf.blobs ≡ c.hold_variants.new.shelf.blobs = same_blobs _ _ c.make_title.ensures.same in
    subst (λ (blobs : Blobs). HoldsVariants number blobs variants) (sym same) holds
  where
    same_blobs : (x y : Blobs) → Some x ≡ Some y → x ≡ y
    same_blobs x y is = cc

pub returns-in-Err-clause-answer : goal.returns-in-Err-clause-answer
returns-in-Err-clause-answer c =
    let number = c.args.number in
    let holds = subst (λ (n : ℕ). HoldsVariants number c.hold_variants.new.shelf.blobs n) (sym variants_are) c.in_ok-hold_variants.ensures in
    subst (λ (o : Option (ℕ × ℕ)). RefusesAs o (title_unless (twins number variants) (title_of number))) (sym c.sample_error.ensures)
    (twins_given (twins number variants) (title_of number) c.in-Err.error
    (made_then number c.hold_variants.new.shelf.blobs c.ranges.number.fits holds c.in_ok-design.design c.in_ok-source.source (told_by (λ (t : Title). t) (Err c.in-Err.error)) c.in_ok-design.ensures c.in_ok-source.ensures (c.in-Err.ensures).held))
