-- Names of variants: each is a name that stands as a URI, and no two variants of a design have one name.
use Rattle.std.proofs.Common.{◌≡◌, ◌≢◌, ℕ, zero, suc, ◌*◌, ◌^◌, ◌<◌, ◌≤◌, true, false, ◌&&◌, not, eqb, nat_le, List, [], ◌∷◌, ◌++◌, length, length-append, get_or, codes, All, arith}
use Rattle.std.specs.Fmt.{decimal}
use Rattle.std.specs.List.{list_all}
use Rattle.std.specs.Str.{IsUtf8}
use Rattle.std.proofs.lemmas.Bool.{and_parts, and_from, leb-true, le-leb, ne_eqb, not_from_false}
use Rattle.std.proofs.lemmas.Bool.Decides.{nat_tests}
use Rattle.std.proofs.lemmas.Fmt.{decimal_is_IsNumeral_wide, length-decimal-le_succ}
use Rattle.std.proofs.lemmas.List.Elements.{All-weaker, All-append, All-from_get_or}
use Rattle.std.proofs.lemmas.List.Sums.{AllPass-from_list_all, list_all-from_AllPass}
use Rattle.std.proofs.lemmas.List.Folds.{list_all_at}
use Rattle.std.proofs.lemmas.Str.{IsUtf8-from_ascii}
use Rattle.std.proofs.lemmas.Str.Ascii.{IsAscii-from_all}
use Rattle.std.proofs.lemmas.Str.Parse.{digit_at}
use Rattle.text_terms.specs.Names.{is_printable, is_name}
use Rattle.hex.specs.Hex.{encode_lower, lower_digits, is_hex_digit}
use Rattle.hex.proofs.HexLemmas.{decode_of-ok, decode_of-encode_lower, length-encode_with}
use Rattle.playlist_terms.specs.Lines.{is_spaces, stands_as_uri}
use Rattle.playlist_terms.specs.Playlists.{is_segment_uri}
use Rattle.packaging_terms.proofs.Apart.{one_byte}
use Rattle.title_terms.specs.Designs.{Design, is_affix, is_affix_character, variant_name}

-- ---- the characters of a name

-- what may stand in a name of a variant, apart from which characters these are
pub record IsSeen (b : ℕ) : Type 0 where
  pub low : 33 ≤ b
  pub high : b < 127
  pub no_hash : b ≢ 35

affix_seen : (b : ℕ) → is_affix_character b ≡ true → IsSeen b
affix_seen b is = record { low = grind (arith, nat_tests); high = grind (arith, nat_tests); no_hash = λ same. grind (arith, nat_tests) }

hex_seen : (b : ℕ) → is_hex_digit b ≡ true → IsSeen b
hex_seen b is = record { low = grind (arith, nat_tests); high = grind (arith, nat_tests); no_hash = λ same. grind (arith, nat_tests) }

digit_seen : (b : ℕ) → (48 ≤ b) × (b < 58) → IsSeen b
digit_seen b digit = record { low = omega (arith, digit.0); high = omega (arith, digit.1); no_hash = λ same. absurd (omega (arith, digit.0, same)) }

decimal_seen : (n : ℕ) → n < 2 ^ 128 → All IsSeen (decimal n)
decimal_seen n small =
    let numeral = decimal_is_IsNumeral_wide n (omega arith) in
    All-from_get_or IsSeen (decimal n) 0 (λ i lt. let digit = digit_at (decimal n) i numeral.0.1 lt in record { low = omega (arith, digit); high = omega (arith, digit); no_hash = λ same. omega (arith, digit, same) })

hex_text_seen : (symbol : ℕ) → symbol < 256 → All IsSeen (encode_lower (symbol ∷ []))
hex_text_seen symbol below =
    let digits = (decode_of-ok (encode_lower (symbol ∷ [])) (symbol ∷ []) (decode_of-encode_lower (symbol ∷ []) (one_byte symbol below))).1 in
    All-weaker (λ b. is_hex_digit b ≡ true) IsSeen hex_seen (encode_lower (symbol ∷ [])) digits

affix_text_seen : (text : List ℕ) → is_affix text ≡ true → All IsSeen text
affix_text_seen text is =
    let parts = and_parts (nat_le (length text) 64) (list_all is_affix_character text) is in
    All-weaker (λ b. is_affix_character b ≡ true) IsSeen affix_seen text (AllPass-from_list_all is_affix_character text parts.1)

dash_seen : All IsSeen (codes "-")
dash_seen = All-from_get_or IsSeen (codes "-") 0 one
  where
    one : (i : ℕ) → i < 1 → IsSeen (get_or (codes "-") i 0)
    one zero lt = record { low = omega arith; high = omega arith; no_hash = λ same. absurd (omega (arith, same)) }
    one (suc i) lt = absurd (omega (arith, lt))

-- what a name of a variant is made of
pub record HasVariant (d : Design) (place symbol : ℕ) : Type 0 where
  pub prefix : is_affix d.prefix ≡ true
  pub suffix : is_affix d.suffix ≡ true
  pub few : place ≤ 256
  pub byte : symbol < 256

variant_seen : (d : Design) (place symbol : ℕ) → HasVariant d place symbol → All IsSeen (variant_name d place symbol)
variant_seen d place symbol has =
    let few = has.few in
    let behind : List ℕ = encode_lower (symbol ∷ []) ++ d.suffix in
    All-append IsSeen d.prefix (decimal place ++ (codes "-" ++ behind)) (affix_text_seen d.prefix has.prefix)
    (All-append IsSeen (decimal place) (codes "-" ++ behind) (decimal_seen place (omega (arith, few)))
    (All-append IsSeen (codes "-") behind dash_seen
    (All-append IsSeen (encode_lower (symbol ∷ [])) d.suffix (hex_text_seen symbol has.byte) (affix_text_seen d.suffix has.suffix))))

-- ---- its length

record HasLength (text : List ℕ) : Type 0 where
  some : 1 ≤ length text
  most : length text ≤ 1024

affix_short : (text : List ℕ) → is_affix text ≡ true → length text ≤ 64
affix_short text is = leb-true (length text) 64 (and_parts (nat_le (length text) 64) (list_all is_affix_character text) is).0

variant_length : (d : Design) (place symbol : ℕ) → HasVariant d place symbol → HasLength (variant_name d place symbol)
variant_length d place symbol has =
    let hex : List ℕ = encode_lower (symbol ∷ []) in
    let few = has.few in
    let first = length-append d.prefix (decimal place ++ (codes "-" ++ (hex ++ d.suffix))) in
    let second = length-append (decimal place) (codes "-" ++ (hex ++ d.suffix)) in
    let third = length-append (codes "-") (hex ++ d.suffix) in
    let fourth = length-append hex d.suffix in
    let two : length hex ≡ 2 * 1 = length-encode_with lower_digits (symbol ∷ []) in
    let digits = length-decimal-le_succ place (omega (arith, few)) in
    let prefix = affix_short d.prefix has.prefix in
    let suffix = affix_short d.suffix has.suffix in
    record { some = omega (arith, first, second, third, fourth, two); most = omega (arith, first, second, third, fourth, two, digits, prefix, suffix, few) }

-- ---- it is a name that stands as a URI

seen_printable : (b : ℕ) → IsSeen b → is_printable b ≡ true
seen_printable b seen =
    let low = seen.low in
    let high = seen.high in
    and_from (nat_le 32 b) (not (eqb b 127)) (le-leb 32 b (omega (arith, low))) (not_from_false (eqb b 127) (ne_eqb b 127 (λ same. omega (arith, high, same))))

seen_uri : (text : List ℕ) → HasLength text → All IsSeen text → is_segment_uri text ≡ true
seen_uri text long seen =
    let printable : list_all is_printable text ≡ true = list_all-from_AllPass is_printable text (All-weaker IsSeen (λ b. is_printable b ≡ true) seen_printable text seen) in
    let some = long.some in
    let first : IsSeen (get_or text 0 0) = seen 0 0 (omega (arith, some)) in
    let low = first.low in
    let no_space : eqb (get_or text 0 0) 32 ≡ false = ne_eqb (get_or text 0 0) 32 (λ same. omega (arith, low, same)) in
    let no_hash : eqb (get_or text 0 0) 35 ≡ false = ne_eqb (get_or text 0 0) 35 first.no_hash in
    let not_spaces : is_spaces text ≡ false = list_all_at (λ b. eqb b 32) text 0 0 (omega (arith, some)) no_space in
    and_from (is_name text) (stands_as_uri text)
    (and_from (nat_le 1 (length text)) (nat_le (length text) 1024 && list_all is_printable text) (le-leb 1 (length text) long.some)
    (and_from (nat_le (length text) 1024) (list_all is_printable text) (le-leb (length text) 1024 long.most) printable))
    (and_from (not (eqb (get_or text 0 0) 35)) (not (is_spaces text)) (not_from_false (eqb (get_or text 0 0) 35) no_hash) (not_from_false (is_spaces text) not_spaces))

pub variant_uri : (d : Design) (place symbol : ℕ) → HasVariant d place symbol → is_segment_uri (variant_name d place symbol) ≡ true
variant_uri d place symbol has = seen_uri (variant_name d place symbol) (variant_length d place symbol has) (variant_seen d place symbol has)

pub variant_utf8 : (d : Design) (place symbol : ℕ) → HasVariant d place symbol → IsUtf8 (variant_name d place symbol)
variant_utf8 d place symbol has =
    let seen = variant_seen d place symbol has in
    let low : All (λ b. b < 128) (variant_name d place symbol) = λ k e lt. let byte = (seen k e lt).high in omega (arith, byte) in
    IsUtf8-from_ascii (variant_name d place symbol) (IsAscii-from_all (variant_name d place symbol) low)
