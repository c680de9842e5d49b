-- The text of a report is the text of its value, and a line feed.
use Rattle.std.proofs.Common.{◌≡◌, ℕ, suc, true, false, List, [], ◌∷◌, ◌++◌, map, refl, sym, ap, ap₂, ◌∙◌, append_assoc, arith, All}
use Rattle.std.specs.Prelude.{codes}
use Rattle.std.specs.List.{list_all}
use Rattle.std.specs.Fmt.{decimal}
use Rattle.std.proofs.lemmas.Bool.{and_parts}
use Rattle.std.proofs.lemmas.Bool.Decides.{nat_tests}
use Rattle.json.specs.Print.{escape, escape_byte}
use Rattle.json.proofs.Printed.Strings.{escape_byte_plain}
use Rattle.serde_json.specs.Data.{Data}
use Rattle.serde_json.specs.View.{items_of}
use Rattle.serde_json.specs.Written.{compact_text, items_text, has_float, items_have_float}
use Rattle.text_terms.specs.Names.{is_plain, is_plain_character}
use Rattle.text_terms.proofs.NameLaws.{plain_form, plain_character}
use Rattle.desk_terms.specs.declared.findings.Accused.{Accused}
use Rattle.desk_terms.specs.declared.findings.Findings.{Findings}
use Rattle.desk_terms.specs.Report.{comma_separated, accused_text, report_text}
use Rattle.report_terms.specs.Values.{number_value, accused_value, report_value, HasPlainNames}

-- ---- a plain name has nothing that JSON escapes

no_quote : (b : ℕ) → is_plain_character b ≡ true → b ≡ 34 → ⊥
no_quote b is e = grind (arith, nat_tests)

no_backslash : (b : ℕ) → is_plain_character b ≡ true → b ≡ 92 → ⊥
no_backslash b is e = grind (arith, nat_tests)

all_as_they_are : (name : List ℕ) → list_all is_plain_character name ≡ true → escape name ≡ name
all_as_they_are [] is = refl
all_as_they_are (b ∷ bs) is =
    let parts = and_parts (is_plain_character b) (list_all is_plain_character bs) is in
    let seen = plain_character b parts.0 in
    ap₂ (λ x y. x ++ y) (escape_byte_plain b (no_quote b parts.0) (no_backslash b parts.0) (omega (arith, seen.0))) (all_as_they_are bs parts.1)

pub escape-plain : (name : List ℕ) → is_plain name ≡ true → escape name ≡ name
escape-plain name is = all_as_they_are name (plain_form name is).characters

-- ---- lists

module _ {X : Type 0} (value : X → Data) (text : X → List ℕ) (P : X → Type 0) (one : (x : X) → P x → compact_text (value x) ≡ text x) where
  items_text-some : (x : X) (xs : List X) → All P (x ∷ xs) → items_text false (items_of (map value (x ∷ xs))) ≡ comma_separated (map text (x ∷ xs)) ++ 93 ∷ []
  items_text-some x [] all = ap (λ t. t ++ 93 ∷ []) (one x (all 0 x (omega arith)))
  items_text-some x (y ∷ ys) all =
      let rest : All P (y ∷ ys) = λ k d lt. all (suc k) d (omega (arith, lt)) in
      ap₂ (λ t more. t ++ 44 ∷ more) (one x (all 0 x (omega arith))) (items_text-some y ys rest) ∙ sym (append_assoc (text x) (44 ∷ comma_separated (map text (y ∷ ys))) (93 ∷ []))

  pub items_text-list : (xs : List X) → All P xs → items_text false (items_of (map value xs)) ≡ comma_separated (map text xs) ++ 93 ∷ []
  items_text-list [] all = refl
  items_text-list (x ∷ xs) all = items_text-some x xs all

-- ---- the accused and the whole

abbrev Any : ℕ → Type 0
Any n = Unit {0}

accused_regroup : (name places serial : List ℕ)
    → codes "{\"name\":\"" ++ ((name ++ 34 ∷ []) ++ (codes ",\"places\":[" ++ ((places ++ 93 ∷ []) ++ (codes ",\"serial\":" ++ (serial ++ codes "}")))))
    ≡ codes "{\"name\":\"" ++ (name ++ (codes "\",\"places\":[" ++ (places ++ (codes "],\"serial\":" ++ (serial ++ codes "}")))))
accused_regroup name places serial =
    let tail : List ℕ = codes ",\"serial\":" ++ (serial ++ codes "}") in
    ap (λ t. codes "{\"name\":\"" ++ ((name ++ 34 ∷ []) ++ (codes ",\"places\":[" ++ t))) (append_assoc places (93 ∷ []) tail)
    ∙ ap (λ t. codes "{\"name\":\"" ++ t) (append_assoc name (34 ∷ []) (codes ",\"places\":[" ++ (places ++ 93 ∷ tail)))

pub compact_text-accused : (a : Accused) → is_plain a.name ≡ true → compact_text (accused_value a) ≡ accused_text a
unfolding accused_value accused_text escape_byte
compact_text-accused a plain =
    ap₂ (λ name places. codes "{\"name\":\"" ++ ((name ++ 34 ∷ []) ++ (codes ",\"places\":[" ++ (places ++ (codes ",\"serial\":" ++ (decimal a.serial ++ codes "}"))))))
    (escape-plain a.name plain) (items_text-list number_value decimal Any (λ n any. refl) a.places (λ k d lt. tt))
    ∙ accused_regroup a.name (comma_separated (map decimal a.places)) (decimal a.serial)

report_regroup : (accused bound readable : List ℕ)
    → (codes "{\"accused\":[" ++ ((accused ++ 93 ∷ []) ++ (codes ",\"bound\":" ++ (bound ++ (codes ",\"readable\":" ++ (readable ++ codes "}")))))) ++ 10 ∷ []
    ≡ codes "{\"accused\":[" ++ (accused ++ (codes "],\"bound\":" ++ (bound ++ (codes ",\"readable\":" ++ (readable ++ codes "}\n")))))
report_regroup accused bound readable = simp append_assoc

pub compact_text-report : (f : Findings) → HasPlainNames f → compact_text (report_value f) ++ 10 ∷ [] ≡ report_text f
unfolding report_value report_text escape_byte
compact_text-report f plain =
    ap (λ accused. (codes "{\"accused\":[" ++ (accused ++ (codes ",\"bound\":" ++ (decimal f.bound ++ (codes ",\"readable\":" ++ (decimal f.readable ++ codes "}")))))) ++ 10 ∷ [])
    (items_text-list accused_value accused_text (λ a. is_plain a.name ≡ true) compact_text-accused f.accused plain)
    ∙ report_regroup (comma_separated (map accused_text f.accused)) (decimal f.bound) (decimal f.readable)

-- ---- no value of a report has a float

no_floats : {X : Type 0} (value : X → Data) → ((x : X) → has_float (value x) ≡ false) → (xs : List X) → items_have_float (items_of (map value xs)) ≡ false
no_floats value none [] = refl
no_floats value none (x ∷ xs) = rw (none x) (no_floats value none xs)

accused_no_float : (a : Accused) → has_float (accused_value a) ≡ false
unfolding accused_value
accused_no_float a = rw (no_floats number_value (λ n. refl) a.places) refl

pub report_no_float : (f : Findings) → has_float (report_value f) ≡ false
unfolding report_value
report_no_float f = rw (no_floats accused_value accused_no_float f.accused) refl
