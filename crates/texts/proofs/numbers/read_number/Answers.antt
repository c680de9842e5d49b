use Rattle.std.proofs.Common.{rules, ◌≡◌, ◌∙◌, true}
use Rattle.text_terms.specs.Numbers.{is_numeral}
use Rattle.texts.proofs.Numerals.{parsed_numeral}
use Rattle.texts.proofs.numbers.read_number.Goals as goal

pub returns : goal.returns
returns c =
    let numeral : is_numeral c.args.text.now ≡ true = search rules in
    c.ok.ensures.value ∙ parsed_numeral c.args.text.now c.parse.result c.parse.ensures.value.0 numeral
