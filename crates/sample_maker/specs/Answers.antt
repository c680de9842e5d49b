-- What a sample answers. This project's own.
use Rattle.std.specs.Prelude.{ℕ, ◌+◌, ◌*◌, List, Option, Some, None, Result, Ok, Err, Vec, ⊤}
use Rattle.text_terms.specs.Answers.{AnswersAs}
use Rattle.title_terms.specs.Titles.{Title}
use Rattle.packager.specs.declared.errors.PackError.{PackError}
use Rattle.packager.specs.declared.errors.PackError.TheVariants as pack
use Rattle.sample_terms.specs.Inputs.{title_of, twins, variants}
use Rattle.sample_maker.specs.declared.error.SampleError.{SampleError}
use Rattle.sample_maker.specs.declared.error.SampleError.TheVariants as errors

-- the numbers of the two variants
abbrev pub twins_in : SampleError → Option (ℕ × ℕ)
twins_in (errors.Duplicate place symbol again_place again_symbol) = Some (place * 256 + symbol, again_place * 256 + again_symbol)
twins_in errors.Memory = None

module _ {Z : Type 0} where
  abbrev shown : Result (Vec ℕ Z) SampleError → Result (List ℕ) SampleError
  shown (Ok text) = Ok text.items
  shown (Err error) = Err error

  -- the summary or the twins that are wanted; want of memory alone may come in place of either
  abbrev pub SamplesAs : Result (Vec ℕ Z) SampleError → Result (List ℕ) (ℕ × ℕ) → Type 0
  SamplesAs result wanted = AnswersAs twins_in (shown result) wanted

-- ---- the title

abbrev pub title_unless : Option (ℕ × ℕ) → Title → Result Title (ℕ × ℕ)
title_unless None title = Ok title
title_unless (Some pair) title = Err pair

-- the title of the number, or the first two variants with one digest; want of memory alone may come in place of either
abbrev pub TitlesAs : Result Title SampleError → ℕ → Type 0
TitlesAs result number = AnswersAs twins_in result (title_unless (twins number variants) (title_of number))

-- the two variants that a maker of titles tells
abbrev pub told_twins : PackError → Option (ℕ × ℕ)
told_twins (pack.Duplicate place symbol again_place again_symbol) = Some (place * 256 + symbol, again_place * 256 + again_symbol)
told_twins other = None

-- an error that may come where every variant is held and every mark has its segment
abbrev pub IsFree : PackError → Type 0
IsFree (pack.NoSegment segment) = ⊥
IsFree (pack.Missing name) = ⊥
IsFree (pack.TooLong name) = ⊥
IsFree other = ⊤
