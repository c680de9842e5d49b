-- Cutting a text into lines, from the front.
use Rattle.std.proofs.Common.{◌≡◌, ◌≢◌, ◌∙◌, ap, ℕ, ◌<◌, ◌≤◌, ◌-◌, Bool, true, false, cond, eqb, nat_le, List, [], ◌∷◌, ◌++◌, length, get_or, append_assoc, All, refl, arith}
use Rattle.std.specs.List.{onto_first, slice_split, flat_map, list_all}
use Rattle.std.specs.Str.Lines.{strip_carriage_return}
use Rattle.std.proofs.lemmas.Bool.{ne_eqb, leb-true}
use Rattle.std.proofs.lemmas.List.Elements.{All-weaker}
use Rattle.std.proofs.lemmas.List.Sums.{AllPass-from_list_all}
use Rattle.std.proofs.lemmas.List.Splits.{slice_split_at, slice_split_none}
use Rattle.playlist_terms.specs.Lines.{lines_among, lines_of, fed}

-- no line feed stands in it
abbrev pub IsOneLine : List ℕ → Type 0
IsOneLine text = All (λ b. b ≢ 10) text

-- there is always a first part
record HasPart (parts : List (List ℕ)) : Type 0 where
  first : List ℕ
  others : List (List ℕ)
  is : parts ≡ first ∷ others

onto_part : (b : ℕ) (parts : List (List ℕ)) → HasPart (onto_first b parts)
onto_part b [] = record { first = b ∷ []; others = []; is = refl }
onto_part b (part ∷ parts) = record { first = b ∷ part; others = parts; is = refl }

part_or_onto : (feed : Bool) (b : ℕ) (parts : List (List ℕ)) → HasPart (cond feed ([] ∷ parts) (onto_first b parts))
part_or_onto true b parts = record { first = []; others = parts; is = refl }
part_or_onto false b parts = onto_part b parts

has_part : (bytes : List ℕ) → HasPart (slice_split (λ b. eqb b 10) bytes)
has_part [] = record { first = []; others = []; is = refl }
has_part (b ∷ bytes) = part_or_onto (eqb b 10) b (slice_split (λ b. eqb b 10) bytes)

before_parts : (part bytes : List ℕ) → lines_among (part ∷ slice_split (λ b. eqb b 10) bytes) ≡ strip_carriage_return part ∷ lines_of bytes
before_parts part bytes =
    let some = has_part bytes in
    rw some.is refl

no_feed : (text : List ℕ) → IsOneLine text → All (λ b. eqb b 10 ≡ false) text
no_feed text one = All-weaker (λ b. b ≢ 10) (λ b. eqb b 10 ≡ false) (λ b differs. ne_eqb b 10 differs) text one

-- a line that is fed, and what follows it
pub lines_of-fed : (text rest : List ℕ) → IsOneLine text → lines_of (text ++ 10 ∷ rest) ≡ strip_carriage_return text ∷ lines_of rest
lines_of-fed text rest one = ap lines_among (slice_split_at (λ b. eqb b 10) text 10 rest (no_feed text one) refl) ∙ before_parts text rest

-- the last line, which nothing feeds
pub lines_of-last : (text : List ℕ) → IsOneLine text → 0 < length text → lines_of text ≡ strip_carriage_return text ∷ []
lines_of-last text one some =
    ap lines_among (slice_split_none (λ b. eqb b 10) text (no_feed text one)) ∙ rw (ne_eqb (length text) 0 (λ none. omega (arith, none, some))) refl

-- ---- lines of bytes from 32 on, as they are written

abbrev pub IsPlainLine : List ℕ → Type 0
IsPlainLine text = list_all (λ b. nat_le 32 b) text ≡ true

pub one_line : (text : List ℕ) → IsPlainLine text → IsOneLine text
one_line text plain k d inside = λ e. omega (arith, e, leb-true 32 _ (AllPass-from_list_all (λ b. nat_le 32 b) text plain k d inside))

abbrev pub ArePlainLines : List (List ℕ) → Type 0
ArePlainLines [] = Unit {0}
ArePlainLines (text ∷ texts) = IsPlainLine text × ArePlainLines texts

pub no_return : (text : List ℕ) → IsPlainLine text → strip_carriage_return text ≡ text
no_return [] plain = refl
no_return (b ∷ bs) plain =
    let end : ℕ = length (b ∷ bs) - 1 in
    let high : 32 ≤ get_or (b ∷ bs) end 0 = leb-true 32 _ (AllPass-from_list_all (λ b. nat_le 32 b) (b ∷ bs) plain end 0 (omega arith)) in
    rw (ne_eqb (get_or (b ∷ bs) end 0) 13 (λ e. omega (arith, e, high))) refl

-- lines that were written are cut again
pub lines_again : (texts : List (List ℕ)) → ArePlainLines texts → lines_of (flat_map fed texts) ≡ texts
lines_again [] plain = refl
lines_again (text ∷ texts) plain =
    ap lines_of (append_assoc text (10 ∷ []) (flat_map fed texts)) ∙ lines_of-fed text (flat_map fed texts) (one_line text plain.0)
    ∙ (λ i. no_return text plain.0 i ∷ lines_again texts plain.1 i)
