-- The first seven lines of a title: what is written is read, and what is read was written.
use Rattle.std.proofs.Common.{◌≡◌, ◌∙◌, subst, ℕ, ◌+◌, ◌^◌, ◌<◌, ◌≤◌, Bool, true, ◌&&◌, nat_le, List, [], ◌∷◌, ◌++◌, length, codes, Ok, All, refl, arith}
use Rattle.std.specs.Fmt.{decimal}
use Rattle.std.specs.List.{list_all}
use Rattle.std.specs.Str.{is_utf8}
use Rattle.std.proofs.lemmas.Bool.{and_parts, and_from, leb-true}
use Rattle.std.proofs.lemmas.Bool.Decides.{nat_tests}
use Rattle.std.proofs.lemmas.List.Elements.{All-weaker}
use Rattle.std.proofs.lemmas.List.Sums.{AllPass-from_list_all}
use Rattle.std.proofs.lemmas.Str.{IsUtf8-from_ascii, is_utf8-from_IsUtf8}
use Rattle.std.proofs.lemmas.Str.Ascii.{IsAscii-from_all}
use Rattle.text_terms.specs.Names.{is_plain}
use Rattle.text_terms.proofs.NameLaws.{plain_bytes}
use Rattle.form_terms.specs.Forms.{Place, place, row, number_row, require}
use Rattle.form_terms.proofs.LineLaws.{OneLine}
use Rattle.form_terms.proofs.FormLaws.{Took, took_then, split, join, gave, given, met, meets, line_read, line_again, number_read, number_again}
use Rattle.title_terms.specs.declared.fault.TitleKind.{TitleKind}
use Rattle.title_terms.specs.declared.fault.TitleKind.TheVariants as kinds
use Rattle.decoding_terms.specs.Parameters.{is_bound, is_light}
use Rattle.register_terms.specs.Rules.{are_bits, is_dimension}
use Rattle.title_terms.specs.Designs.{Design, IsDesign, is_affix, is_affix_character}
use Rattle.title_terms.specs.TitleText.{design_lines, exactly, text_after, kinds_of_rows, text_line, design_form}
use Rattle.title_terms.proofs.SayLaws.{exactly_is, exactly_again, text_after_is, text_after_again}

-- ---- a line of a word and a text

pub record TextLine (word : List ℕ) (allowed : List ℕ → Bool) (text : List ℕ) (at after : Place) : Type 0 where
  pub allows : allowed text ≡ true
  pub took : Took at ((word ++ text) ∷ []) after

pub text_read : (word : List ℕ) (allowed : List ℕ → Bool) {at after : Place} {text : List ℕ} → text_line word allowed at ≡ Ok (text, after) → TextLine word allowed text at after
unfolding text_line
text_read word allowed {at} {after} {text} e =
    let s = split e in
    let l = line_read kinds_of_rows s.first in
    let t = split s.next in
    let m = met kinds.Rule t.first in
    let g = gave {K = TitleKind} t.next in
    let said = text_after_is word l.text s.x l.says in
    let took : Took at ((word ++ s.x) ∷ []) s.between = subst (λ (line : List ℕ). Took at (line ∷ []) s.between) said.is l.took in
    let there : Took at ((word ++ s.x) ∷ []) after = subst (λ (p : Place). Took at ((word ++ s.x) ∷ []) p) (m.same ∙ g.same) took in
    record {
      allows = subst (λ (x : List ℕ). allowed x ≡ true) g.is m.is;
      took = subst (λ (x : List ℕ). Took at ((word ++ x) ∷ []) after) g.is there;
    }

pub text_again : (word : List ℕ) (allowed : List ℕ → Bool) (text : List ℕ) (number : ℕ) (lines : List (List ℕ)) (tail : List ℕ) → is_utf8 text ≡ true → allowed text ≡ true
    → text_line word allowed (place number ((word ++ text) ∷ lines) tail) ≡ Ok (text, place (number + 1) lines tail)
unfolding text_line
text_again word allowed text number lines tail utf8 allows =
    join (row kinds_of_rows (text_after word)) _ (line_again kinds_of_rows (text_after word) (word ++ text) text number lines tail (text_after_again word text utf8))
    (join {K = TitleKind} (require (allowed text) kinds.Rule) _ (meets kinds.Rule (place (number + 1) lines tail) allows) (given text (place (number + 1) lines tail)))

-- ---- which texts are allowed

pub plain_utf8 : (text : List ℕ) → is_plain text ≡ true → is_utf8 text ≡ true
plain_utf8 text is =
    let low : All (λ b. b < 128) text = λ k d lt. let byte = plain_bytes text is k d lt in omega (arith, byte.1) in
    is_utf8-from_IsUtf8 text (IsUtf8-from_ascii text (IsAscii-from_all text low))

-- the characters of an affix are seen ones of ASCII
affix_byte : (b : ℕ) → is_affix_character b ≡ true → (33 ≤ b) × (b < 127)
affix_byte b is = grind (arith, nat_tests)

affix_bytes : (text : List ℕ) → is_affix text ≡ true → All (λ b. (33 ≤ b) × (b < 127)) text
affix_bytes text is =
    let parts = and_parts (nat_le (length text) 64) (list_all is_affix_character text) is in
    All-weaker (λ b. is_affix_character b ≡ true) (λ b. (33 ≤ b) × (b < 127)) affix_byte text (AllPass-from_list_all is_affix_character text parts.1)

pub affix_utf8 : (text : List ℕ) → is_affix text ≡ true → is_utf8 text ≡ true
affix_utf8 text is =
    let low : All (λ b. b < 128) text = λ k d lt. let byte = affix_bytes text is k d lt in omega (arith, byte.1) in
    is_utf8-from_IsUtf8 text (IsUtf8-from_ascii text (IsAscii-from_all text low))

pub affix_one_line : (text : List ℕ) → is_affix text ≡ true → OneLine text
affix_one_line text is = λ k d lt e. omega (arith, affix_bytes text is k d lt, e)

-- ---- the seven lines

-- what a design keeps whose segments are not marked yet
pub record IsSketch (d : Design) : Type 0 where
  pub name : is_plain d.name ≡ true
  pub bits : are_bits d.bits ≡ true
  pub dimension : is_dimension d.dimension ≡ true
  pub bound : (is_bound d.bound && is_light d.dimension d.bound) ≡ true
  pub prefix : is_affix d.prefix ≡ true
  pub suffix : is_affix d.suffix ≡ true

pub sketch_of : (d : Design) → IsDesign d → IsSketch d
sketch_of d valid = record {
  name = valid.name;
  bits = valid.bits;
  dimension = valid.dimension;
  bound = and_from (is_bound d.bound) (is_light d.dimension d.bound) valid.bound valid.light;
  prefix = valid.prefix;
  suffix = valid.suffix;
}

pub record IsDesignRead (d : Design) (at after : Place) : Type 0 where
  pub sketch : IsSketch d
  pub unmarked : d.marked ≡ []
  pub took : Took at (design_lines d) after

pub design_read : (at after : Place) (found : Design) → design_form at ≡ Ok (found, after) → IsDesignRead found at after
unfolding design_form
design_read at after found is =
    let first = split is in
    let first_line = line_read kinds_of_rows first.first in
    let name = split first.next in
    let name_line = text_read (codes "name ") is_plain name.first in
    let m = split name.next in
    let m_line = number_read kinds_of_rows kinds.Rule m.first in
    let k = split m.next in
    let k_line = number_read kinds_of_rows kinds.Rule k.first in
    let c = split k.next in
    let c_line = number_read kinds_of_rows kinds.Rule c.first in
    let prefix = split c.next in
    let prefix_line = text_read (codes "prefix ") is_affix prefix.first in
    let suffix = split prefix.next in
    let suffix_line = text_read (codes "suffix ") is_affix suffix.first in
    let g = gave {K = TitleKind} suffix.next in
    let title : Took at (codes "title 1" ∷ []) first.between = subst (λ (t : List ℕ). Took at (t ∷ []) first.between) (exactly_is (codes "title 1") first_line.text first.x first_line.says) first_line.took in
    let made : Design = record { name = name.x; bits = m.x; dimension = k.x; bound = c.x; prefix = prefix.x; suffix = suffix.x; marked = [] } in
    let took : Took at (design_lines made) suffix.between = took_then title (took_then name_line.took (took_then m_line.took (took_then k_line.took (took_then c_line.took (took_then prefix_line.took suffix_line.took))))) in
    let here : IsDesignRead made at after = record {
      sketch = record { name = name_line.allows; bits = m_line.allows; dimension = k_line.allows; bound = c_line.allows; prefix = prefix_line.allows; suffix = suffix_line.allows };
      unmarked = refl;
      took = subst (λ (p : Place). Took at (design_lines made) p) g.same took;
    } in
    subst (λ (d : Design). IsDesignRead d at after) g.is here

pub design_again : (d : Design) (lines : List (List ℕ)) → IsSketch d → design_form (place 0 (design_lines d ++ lines) []) ≡ Ok (record d { marked = [] }, place 7 lines [])
unfolding design_form
design_again d lines sketch =
    let m_high = (and_parts (nat_le 4 d.bits) (nat_le d.bits 8) sketch.bits).1 in
    let k_high = (and_parts (nat_le 2 d.dimension) (nat_le d.dimension 13) sketch.dimension).1 in
    let bound = (and_parts (is_bound d.bound) (is_light d.dimension d.bound) sketch.bound).0 in
    let c_high = (and_parts (nat_le 1 d.bound) (nat_le d.bound 8) bound).1 in
    let m_small : d.bits < 2 ^ 128 = omega (arith, leb-true d.bits 8 m_high) in
    let k_small : d.dimension < 2 ^ 128 = omega (arith, leb-true d.dimension 13 k_high) in
    let c_small : d.bound < 2 ^ 128 = omega (arith, leb-true d.bound 8 c_high) in
    let suffix_lines : List (List ℕ) = (codes "suffix " ++ d.suffix) ∷ lines in
    let prefix_lines : List (List ℕ) = (codes "prefix " ++ d.prefix) ∷ suffix_lines in
    let c_lines : List (List ℕ) = (codes "c " ++ decimal d.bound) ∷ prefix_lines in
    let k_lines : List (List ℕ) = (codes "k " ++ decimal d.dimension) ∷ c_lines in
    let m_lines : List (List ℕ) = (codes "m " ++ decimal d.bits) ∷ k_lines in
    let name_lines : List (List ℕ) = (codes "name " ++ d.name) ∷ m_lines in
    let light : ℕ → Bool = λ c. is_bound c && is_light d.dimension c in
    join (row kinds_of_rows (exactly (codes "title 1"))) _ (line_again kinds_of_rows (exactly (codes "title 1")) (codes "title 1") tt 0 name_lines [] (exactly_again (codes "title 1")))
    (join (text_line (codes "name ") is_plain) _ (text_again (codes "name ") is_plain d.name 1 m_lines [] (plain_utf8 d.name sketch.name) sketch.name)
    (join (number_row kinds_of_rows (codes "m ") are_bits kinds.Rule) _ (number_again kinds_of_rows (codes "m ") are_bits kinds.Rule d.bits 2 k_lines [] m_small sketch.bits)
    (join (number_row kinds_of_rows (codes "k ") is_dimension kinds.Rule) _ (number_again kinds_of_rows (codes "k ") is_dimension kinds.Rule d.dimension 3 c_lines [] k_small sketch.dimension)
    (join (number_row kinds_of_rows (codes "c ") light kinds.Rule) _ (number_again kinds_of_rows (codes "c ") light kinds.Rule d.bound 4 prefix_lines [] c_small sketch.bound)
    (join (text_line (codes "prefix ") is_affix) _ (text_again (codes "prefix ") is_affix d.prefix 5 suffix_lines [] (affix_utf8 d.prefix sketch.prefix) sketch.prefix)
    (join (text_line (codes "suffix ") is_affix) _ (text_again (codes "suffix ") is_affix d.suffix 6 lines [] (affix_utf8 d.suffix sketch.suffix) sketch.suffix)
    (given (record d { marked = [] }) (place 7 lines []))))))))
