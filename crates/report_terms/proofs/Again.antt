-- A report is read again as the findings that it was written from.
use Rattle.std.proofs.Common.{◌≡◌, ℕ, zero, suc, ◌^◌, ◌<◌, ◌≤◌, true, List, [], ◌∷◌, ◌++◌, map, All, Option, Some, refl, sym, ap, ◌∙◌, append-nil, arith}
use Rattle.std.specs.Prelude.{codes, option_and_then, slice_index}
use Rattle.std.specs.List.{list_all}
use Rattle.std.specs.Fmt.{decimal}
use Rattle.std.specs.Str.{IsUtf8}
use Rattle.std.proofs.lemmas.Bool.{and_parts, lt-ltb}
use Rattle.std.proofs.lemmas.Fmt.{IsAscii-decimal}
use Rattle.std.proofs.lemmas.Str.{IsUtf8-from_ascii, IsUtf8-append, IsUtf8-nil, is_utf8-from_IsUtf8}
use Rattle.json.specs.Json as json
use Rattle.json.specs.Lex.{tokens}
use Rattle.json.specs.Tree as tree
use Rattle.json.specs.Tree.{HasNumbers, ItemsHaveNumbers, json_tokens}
use Rattle.json.proofs.Printed.Decimals.{IsNumber-decimal}
use Rattle.json.proofs.Printed.Trees.{ArePrintable-json_tokens, value-json_tokens}
use Rattle.json.proofs.Printed.Utf8.{IsUtf8-are_ascii}
use Rattle.serde_json.specs.Data.{Data, Items}
use Rattle.serde_json.specs.View.{items_of}
use Rattle.serde_json.specs.Read.{read, of_json, of_items, max_depth}
use Rattle.serde_json.specs.Written.{outline, items_outline, compact_text}
use Rattle.serde_json.proofs.Numbers.{number_of-decimal}
use Rattle.serde_json.proofs.Texts.{print-outline}
use Rattle.text_terms.specs.Names.{is_plain_character}
use Rattle.text_terms.proofs.NameLaws.{plain_form, plain_character}
use Rattle.desk_terms.specs.declared.findings.Accused.{Accused}
use Rattle.desk_terms.specs.declared.findings.Findings.{Findings}
use Rattle.desk_terms.specs.Report.{comma_separated, accused_text, report_text}
use Rattle.report_terms.specs.Reports.{document, number_said, place_said, all_said, accused_said, findings_said, report_of}
use Rattle.report_terms.specs.Values.{number_value, accused_value, report_value, IsAccusation, AreReportable, HasPlainNames}
use Rattle.report_terms.proofs.Texts.{compact_text-report}
use Rattle.report_terms.proofs.LineFeeds.{tokens-line}

-- ---- what the reader makes of a written value

-- its numbers are numbers, it nests so deep, and it is the value again
record IsReadAgain (d : Data) (deep : ℕ) : Type 0 where
  numbers : HasNumbers (outline d)
  shallow : tree.depth (outline d) ≤ deep
  back : of_json (outline d) ≡ Some d

record AreReadAgain (ds : Items) (deep : ℕ) : Type 0 where
  numbers : ItemsHaveNumbers (items_outline ds)
  shallow : tree.items_depth (items_outline ds) ≤ deep
  back : of_items (items_outline ds) ≡ Some ds

number_again : (n : ℕ) → n < 2 ^ 64 → IsReadAgain (number_value n) 0
number_again n fits = record { numbers = IsNumber-decimal n fits; shallow = omega arith; back = rw (number_of-decimal n fits) refl }

items_again : {X : Type 0} (value : X → Data) (P : X → Type 0) (deep : ℕ) → ((x : X) → P x → IsReadAgain (value x) deep) → (xs : List X) → All P xs → AreReadAgain (items_of (map value xs)) deep
items_again value P deep one [] all = record { numbers = tt; shallow = omega arith; back = refl }
items_again value P deep one (x ∷ xs) all =
    let first = one x (all 0 x (omega arith)) in
    let rest = items_again value P deep one xs (λ k d within. all (suc k) d (omega (arith, within))) in
    record { numbers = (first.numbers, rest.numbers); shallow = omega (arith, first.shallow, rest.shallow); back = rw (first.back, rest.back) refl }

place_again : (place : ℕ) → place < 2 ^ 16 → IsReadAgain (number_value place) 0
place_again place fits = number_again place (omega (arith, fits))

accused_again : (a : Accused) → IsAccusation a → IsReadAgain (accused_value a) 2
unfolding accused_value
accused_again a is =
    let places = items_again number_value (λ place. place < 2 ^ 16) 0 place_again a.places is.places in
    let serial = number_again a.serial (omega (arith, is.serial)) in
    record { numbers = (tt, (places.numbers, (serial.numbers, tt))); shallow = omega (arith, places.shallow, serial.shallow); back = rw (places.back, serial.back) refl }

report_again : (f : Findings) → AreReportable f → IsReadAgain (report_value f) 4
unfolding report_value
report_again f is =
    let accused = items_again accused_value IsAccusation 2 accused_again f.accused is.accused in
    let bound = number_again f.bound (omega (arith, is.bound)) in
    let readable = number_again f.readable (omega (arith, is.readable)) in
    record { numbers = (accused.numbers, (bound.numbers, (readable.numbers, tt))); shallow = omega (arith, accused.shallow, bound.shallow, readable.shallow); back = rw (accused.back, bound.back, readable.back) refl }

-- the value's text and a line feed are read as the value
read_line : (d : Data) (deep : ℕ) → deep ≤ max_depth → IsReadAgain d deep → read (compact_text d ++ 10 ∷ []) ≡ Some d
read_line d deep shallow is =
    let told : tokens (compact_text d ++ 10 ∷ []) ≡ json_tokens (outline d) ++ [] =
    ap (λ text. tokens (text ++ 10 ∷ [])) (sym (print-outline d)) ∙ tokens-line (json_tokens (outline d)) (ArePrintable-json_tokens (outline d) is.numbers) ∙ sym (append-nil (json_tokens (outline d))) in
    let parsed : json.value max_depth (tokens (compact_text d ++ 10 ∷ [])) ≡ Some (outline d, []) = ap (json.value max_depth) told ∙ value-json_tokens (outline d) max_depth [] (omega (arith, shallow, is.shallow)) in
    ap (λ o. option_and_then of_json (option_and_then (λ p. json.if_last p.0 p.1) o)) parsed ∙ is.back

-- ---- what the value says

number_is_said : (limit n : ℕ) → n < limit → number_said limit (number_value n) ≡ Some n
number_is_said limit n fits = rw (lt-ltb n limit fits) refl

all_are_said : {X : Type 0} (value : X → Data) (said : Data → Option X) (P : X → Type 0) → ((x : X) → P x → said (value x) ≡ Some x) → (xs : List X) → All P xs → all_said said (items_of (map value xs)) ≡ Some xs
all_are_said value said P one [] all = refl
all_are_said value said P one (x ∷ xs) all =
    rw (one x (all 0 x (omega arith)), all_are_said value said P one xs (λ k d within. all (suc k) d (omega (arith, within)))) refl

accused_is_said : (a : Accused) → IsAccusation a → accused_said (accused_value a) ≡ Some a
unfolding accused_said accused_value
accused_is_said a is =
    rw (is.plain, all_are_said number_value place_said (λ place. place < 2 ^ 16) (λ place fits. number_is_said (2 ^ 16) place fits) a.places is.places, lt-ltb a.serial (2 ^ 32) is.serial) refl

report_is_said : (f : Findings) → AreReportable f → findings_said (report_value f) ≡ Some f
unfolding findings_said report_value
report_is_said f is =
    rw (all_are_said accused_value accused_said IsAccusation accused_is_said f.accused is.accused, lt-ltb f.bound (2 ^ 32) is.bound, lt-ltb f.readable (2 ^ 32) is.readable) refl

-- ---- the text is UTF-8

characters_ascii : (name : List ℕ) → list_all is_plain_character name ≡ true → (i : ℕ) → slice_index name i < 128
characters_ascii [] is i = omega arith
characters_ascii (b ∷ bs) is zero = omega (arith, (plain_character b (and_parts (is_plain_character b) (list_all is_plain_character bs) is).0).1)
characters_ascii (b ∷ bs) is (suc i) = characters_ascii bs (and_parts (is_plain_character b) (list_all is_plain_character bs) is).1 i

separated_utf8 : {X : Type 0} (text : X → List ℕ) (P : X → Type 0) → ((x : X) → P x → IsUtf8 (text x)) → (xs : List X) → All P xs → IsUtf8 (comma_separated (map text xs))
separated_utf8 text P one [] all = IsUtf8-nil
separated_utf8 text P one (x ∷ []) all = one x (all 0 x (omega arith))
separated_utf8 text P one (x ∷ y ∷ more) all =
    let rest = separated_utf8 text P one (y ∷ more) (λ k d within. all (suc k) d (omega (arith, within))) in
    IsUtf8-append (text x) (44 ∷ comma_separated (map text (y ∷ more))) (one x (all 0 x (omega arith))) (IsUtf8-append (44 ∷ []) (comma_separated (map text (y ∷ more))) (IsUtf8-are_ascii (44 ∷ []) refl) rest)

number_utf8 : (n : ℕ) → n < 2 ^ 32 → IsUtf8 (decimal n)
number_utf8 n fits = IsUtf8-from_ascii (decimal n) (IsAscii-decimal n (omega (arith, fits)))

accused_utf8 : (a : Accused) → IsAccusation a → IsUtf8 (accused_text a)
unfolding accused_text
accused_utf8 a is =
    IsUtf8-append (codes "{\"name\":\"") _ (IsUtf8-are_ascii (codes "{\"name\":\"") refl)
    (IsUtf8-append a.name _ (IsUtf8-from_ascii a.name (characters_ascii a.name (plain_form a.name is.plain).characters))
    (IsUtf8-append (codes "\",\"places\":[") _ (IsUtf8-are_ascii (codes "\",\"places\":[") refl)
    (IsUtf8-append (comma_separated (map decimal a.places)) _ (separated_utf8 decimal (λ place. place < 2 ^ 16) (λ place fits. number_utf8 place (omega (arith, fits))) a.places is.places)
    (IsUtf8-append (codes "],\"serial\":") _ (IsUtf8-are_ascii (codes "],\"serial\":") refl)
    (IsUtf8-append (decimal a.serial) (codes "}") (number_utf8 a.serial is.serial) (IsUtf8-are_ascii (codes "}") refl))))))

report_utf8 : (f : Findings) → AreReportable f → IsUtf8 (report_text f)
unfolding report_text
report_utf8 f is =
    IsUtf8-append (codes "{\"accused\":[") _ (IsUtf8-are_ascii (codes "{\"accused\":[") refl)
    (IsUtf8-append (comma_separated (map accused_text f.accused)) _ (separated_utf8 accused_text IsAccusation accused_utf8 f.accused is.accused)
    (IsUtf8-append (codes "],\"bound\":") _ (IsUtf8-are_ascii (codes "],\"bound\":") refl)
    (IsUtf8-append (decimal f.bound) _ (number_utf8 f.bound is.bound)
    (IsUtf8-append (codes ",\"readable\":") _ (IsUtf8-are_ascii (codes ",\"readable\":") refl)
    (IsUtf8-append (decimal f.readable) (codes "}\n") (number_utf8 f.readable is.readable) (IsUtf8-are_ascii (codes "}\n") refl))))))

-- ---- the whole

plain_names : (f : Findings) → AreReportable f → HasPlainNames f
plain_names f is = λ k d within. (is.accused k d within).plain

pub report_of-report_text : (f : Findings) → AreReportable f → report_of (report_text f) ≡ Some f
unfolding report_of
report_of-report_text f is =
    let text : compact_text (report_value f) ++ 10 ∷ [] ≡ report_text f = compact_text-report f (plain_names f is) in
    let said : read (report_text f) ≡ Some (report_value f) = ap read (sym text) ∙ read_line (report_value f) 4 (omega arith) (report_again f is) in
    let is_document : document (report_text f) ≡ Some (report_value f) = rw (is_utf8-from_IsUtf8 (report_text f) (report_utf8 f is)) said in
    ap (option_and_then findings_said) is_document ∙ report_is_said f is
