-- What an error line says after the status.
use Rattle.std.specs.Prelude.{ℕ, List, ◌++◌, codes}
use Rattle.std.specs.Fmt.{decimal}
use Rattle.packaging_terms.specs.Details.{pair_text}
use Rattle.cli_words.specs.declared.lines.Detail.{Detail}
use Rattle.cli_words.specs.declared.lines.Detail.TheVariants as detail

abbrev pub detail_text : Detail → List ℕ
detail_text (detail.Word text) = text.now
detail_text (detail.Number n) = decimal n
detail_text (detail.Numbers n m) = pair_text n m
detail_text (detail.NumberAndWord n text) = decimal n ++ (codes " " ++ text.now)
detail_text (detail.FourNumbers a b c d) = pair_text a b ++ (codes " " ++ pair_text c d)
detail_text (detail.Words first second) = first.now ++ (codes " " ++ second.now)
detail_text (detail.WordAndNumber text n) = text.now ++ (codes " " ++ decimal n)
