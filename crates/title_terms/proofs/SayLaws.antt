-- What single lines of a title say, and that they say it again.
use Rattle.std.proofs.Common.{◌≡◌, ◌≢◌, ◌∙◌, sym, ap, subst, ℕ, suc, ◌+◌, ◌*◌, ◌^◌, ◌<◌, Bool, true, false, cond, not, eqb, Option, Some, None, Result, Ok, Err, List, ◌∷◌, ◌++◌, length, length-append, append_assoc, get_or, take, drop, codes, refl, arith}
use Rattle.std.specs.Prelude.{nat_lt}
use Rattle.std.specs.Fmt.{decimal}
use Rattle.std.specs.List.{All, list_all, position, position_or_len, before_first, after_first}
use Rattle.std.specs.Str.{bytes_eq, is_utf8}
use Rattle.std.proofs.Math.ListN.{get_or-append}
use Rattle.std.proofs.Math.Seq.{get_or-append_seam}
use Rattle.std.proofs.lemmas.Bool.{eqb-true, eq-eqb, ne_eqb, ltb-true, lt-ltb, false≢true}
use Rattle.std.proofs.lemmas.Fmt.{decimal_is_IsNumeral_wide}
use Rattle.std.proofs.lemmas.List.{take_at, drop_at}
use Rattle.std.proofs.lemmas.List.Elements.{All-from_get_or, All-weaker}
use Rattle.std.proofs.lemmas.List.Sums.{AllPass-from_list_all, split_at_first, passes_at_first, position_or_len_is}
use Rattle.std.proofs.lemmas.Str.Parse.{digit_at}
use Rattle.text_terms.specs.Numbers.{number_of}
use Rattle.text_terms.proofs.NumberLaws.{spelling_of, number_of-decimal}
use Rattle.hex.specs.Hex.{encode_lower, decode_sized}
use Rattle.hex.proofs.HexLemmas.{decode_of-ok, decode_sized-ok, decode_sized-twice, decode_sized-encode_lower}
use Rattle.form_terms.specs.TextLines.{after_word}
use Rattle.form_terms.proofs.LineLaws.{same_bytes, bytes_eq-own, after_word-is, after_word-line}
use Rattle.playlist_terms.specs.Playlists.{PlaylistSegment}
use Rattle.title_terms.specs.Titles.{IsDigest}
use Rattle.title_terms.specs.TitleText.{exactly, if_text, text_after, parted_at, parted, cut_text, cut_said, segment_text, segment_of_parts, timed_said, cut_and_timed, segment_said, spelled_so, digest_said}

-- what is kept under a test
kept : {A : Type 0} (b : Bool) (v x : A) → cond b (Some v) None ≡ Some x → (b ≡ true) × (v ≡ x)
kept true v x is = (refl, cc)
kept false v x is = absurd cc

-- ---- words and texts

pub exactly_is : (wanted text : List ℕ) (u : Unit {0}) → exactly wanted text ≡ Some u → text ≡ wanted
exactly_is wanted text u is = same_bytes text wanted (kept (bytes_eq text wanted) tt u is).0

pub exactly_again : (wanted : List ℕ) → exactly wanted wanted ≡ Some tt
exactly_again wanted = rw (bytes_eq-own wanted) refl

is_text : (o : Option (List ℕ)) (value : List ℕ) → if_text o ≡ Some value → (o ≡ Some value) × (is_utf8 value ≡ true)
is_text None value is = absurd cc
is_text (Some bytes) value is =
    let found = kept (is_utf8 bytes) bytes value is in
    (ap Some found.1, subst (λ b. is_utf8 b ≡ true) found.1 found.0)

-- a word and a text behind it
pub record IsWordAndText (word text value : List ℕ) : Type 0 where
  pub is : text ≡ word ++ value
  pub utf8 : is_utf8 value ≡ true

pub text_after_is : (word text value : List ℕ) → text_after word text ≡ Some value → IsWordAndText word text value
text_after_is word text value is =
    let found = is_text (after_word word text) value is in
    record { is = after_word-is word text value found.0; utf8 = found.1 }

pub text_after_again : (word value : List ℕ) → is_utf8 value ≡ true → text_after word (word ++ value) ≡ Some value
text_after_again word value utf8 = rw (after_word-line word value, utf8) refl

-- ---- segments

place_of : (here : Bool) (first i : ℕ) → cond here (Some first) None ≡ Some i → (here ≡ true) × (first ≡ i)
place_of here first i is = kept here first i is

around : (text : List ℕ) (space : ℕ) → position (λ b. eqb b 32) text ≡ Some space → text ≡ take space text ++ (codes " " ++ drop (space + 1) text)
around text space found =
    let p : ℕ → Bool = λ b. eqb b 32 in
    let at = place_of (nat_lt (position_or_len p text) (length text)) (position_or_len p text) space found in
    let inside : position_or_len p text < length text = ltb-true (position_or_len p text) (length text) at.0 in
    let blank : get_or text (position_or_len p text) 0 ≡ 32 = eqb-true (get_or text (position_or_len p text) 0) 32 (passes_at_first p text 0 inside) in
    let parts : text ≡ before_first p text ++ (get_or text (position_or_len p text) 0 ∷ after_first p text) = split_at_first p text 0 inside in
    parts ∙ (λ i. take (at.1 i) text ++ (blank i ∷ drop (at.1 i + 1) text))

same_pair : (x y : List ℕ × List ℕ) → (let o : Option (List ℕ × List ℕ) = Some x in o) ≡ Some y → x ≡ y
same_pair x y is = cc

parted_by : (text : List ℕ) (o : Option ℕ) (parts : List ℕ × List ℕ) → position (λ b. eqb b 32) text ≡ o → parted_at text o ≡ Some parts → text ≡ parts.0 ++ (codes " " ++ parts.1)
parted_by text None parts found is = absurd cc
parted_by text (Some space) parts found is =
    let same : (take space text, drop (space + 1) text) ≡ parts = same_pair (take space text, drop (space + 1) text) parts is in
    around text space found ∙ ap (λ (p : List ℕ × List ℕ). p.0 ++ (codes " " ++ p.1)) same

pub parted_is : (text : List ℕ) (parts : List ℕ × List ℕ) → parted text ≡ Some parts → text ≡ parts.0 ++ (codes " " ++ parts.1)
parted_is text parts is = parted_by text (position (λ b. eqb b 32) text) parts refl is

second_digit : (b : Bool) (text : List ℕ) (cut : Bool) → bytes_eq text (codes "1") ≡ b → cond b (Some true) None ≡ Some cut → text ≡ cut_text cut
second_digit true text cut is found = let so : true ≡ cut = cc in same_bytes text (codes "1") is ∙ ap cut_text so
second_digit false text cut is found = absurd cc

first_digit : (b : Bool) (text : List ℕ) (cut : Bool) → bytes_eq text (codes "0") ≡ b → cond b (Some false) (cond (bytes_eq text (codes "1")) (Some true) None) ≡ Some cut → text ≡ cut_text cut
first_digit true text cut is found = let so : false ≡ cut = cc in same_bytes text (codes "0") is ∙ ap cut_text so
first_digit false text cut is found = second_digit (bytes_eq text (codes "1")) text cut refl found

pub cut_is : (text : List ℕ) (cut : Bool) → cut_said text ≡ Some cut → text ≡ cut_text cut
cut_is text cut found = first_digit (bytes_eq text (codes "0")) text cut refl found

pub record IsSegmentText (text : List ℕ) (s : PlaylistSegment) : Type 0 where
  pub is : text ≡ segment_text s
  pub utf8 : is_utf8 s.uri ≡ true

by_parts : (flag timed uri : List ℕ) (cut : Option Bool) (micros : Option ℕ) (s : PlaylistSegment) → cut_said flag ≡ cut → number_of timed ≡ micros → segment_of_parts cut micros uri ≡ Some s
    → IsSegmentText (flag ++ (codes " " ++ (timed ++ (codes " " ++ uri)))) s
by_parts flag timed uri None micros s flagged counted is = absurd cc
by_parts flag timed uri (Some cut) None s flagged counted is = absurd cc
by_parts flag timed uri (Some cut) (Some micros) s flagged counted is =
    let found = kept (is_utf8 uri) (record { micros = micros; uri = uri; cut = cut }) s is in
    let utf8 : is_utf8 s.uri ≡ true = subst (λ (t : PlaylistSegment). is_utf8 t.uri ≡ true) found.1 found.0 in
    let first : flag ≡ cut_text cut = cut_is flag cut flagged in
    let second : timed ≡ decimal micros = spelling_of timed micros counted in
    record {
      is = (λ i. first i ++ (codes " " ++ (second i ++ (codes " " ++ uri)))) ∙ ap segment_text found.1;
      utf8 = utf8;
    }

by_timed : (flag timed : List ℕ) (o : Option (List ℕ × List ℕ)) (s : PlaylistSegment) → parted timed ≡ o → timed_said flag o ≡ Some s → IsSegmentText (flag ++ (codes " " ++ timed)) s
by_timed flag timed None s found is = absurd cc
by_timed flag timed (Some parts) s found is =
    let whole : timed ≡ parts.0 ++ (codes " " ++ parts.1) = parted_is timed parts found in
    let segment = by_parts flag parts.0 parts.1 (cut_said flag) (number_of parts.0) s refl refl is in
    record { is = ap (λ t. flag ++ (codes " " ++ t)) whole ∙ segment.is; utf8 = segment.utf8 }

by_flag : (text : List ℕ) (o : Option (List ℕ × List ℕ)) (s : PlaylistSegment) → parted text ≡ o → cut_and_timed o ≡ Some s → IsSegmentText text s
by_flag text None s found is = absurd cc
by_flag text (Some parts) s found is =
    let whole : text ≡ parts.0 ++ (codes " " ++ parts.1) = parted_is text parts found in
    let segment = by_timed parts.0 parts.1 (parted parts.1) s refl is in
    record { is = whole ∙ segment.is; utf8 = segment.utf8 }

-- a line that says a segment is that segment's text
pub segment_is : (text : List ℕ) (s : PlaylistSegment) → segment_said text ≡ Some s → IsSegmentText text s
unfolding segment_said
segment_is text s is = by_flag text (parted text) s refl is

-- a text without space in front of a space is found again
pub parted_again : (front back : List ℕ) → All (λ b. b ≢ 32) front → parted (front ++ (codes " " ++ back)) ≡ Some (front, back)
parted_again front back unspaced =
    let text : List ℕ = front ++ (codes " " ++ back) in
    let p : ℕ → Bool = λ b. eqb b 32 in
    let long : length text ≡ length front + suc (length back) = length-append front (codes " " ++ back) in
    let earlier : (k : ℕ) → k < length front → p (get_or text k 0) ≡ false = λ k lt. ap p (get_or-append front (codes " " ++ back) 0 k lt) ∙ ne_eqb (get_or front k 0) 32 (unspaced k 0 lt) in
    let first : position_or_len p text ≡ length front = position_or_len_is p text (length front) 0 (omega (arith, long)) earlier (λ _. ap p (get_or-append_seam front 32 back 0)) in
    let found : position p text ≡ Some (length front) = rw (first, lt-ltb (length front) (length text) (omega (arith, long))) refl in
    let behind : drop (length front + 1) text ≡ back =
    ap (drop (length front + 1)) (sym (append_assoc front (codes " ") back)) ∙ drop_at (front ++ codes " ") back (length front + 1) (length-append front (codes " ")) in
    ap (parted_at text) found ∙ (λ i. Some (take_at front (codes " " ++ back) (length front) refl i, behind i))

cut_again : (cut : Bool) → cut_said (cut_text cut) ≡ Some cut
cut_again true = refl
cut_again false = refl

unspaced_from : (text : List ℕ) → list_all (λ b. not (eqb b 32)) text ≡ true → All (λ b. b ≢ 32) text
unspaced_from text passes = All-weaker (λ b. not (eqb b 32) ≡ true) (λ b. b ≢ 32) (λ b is same. false≢true (sym (ap not (eq-eqb b 32 same)) ∙ is)) text (AllPass-from_list_all (λ b. not (eqb b 32)) text passes)

cut_unspaced : (cut : Bool) → All (λ b. b ≢ 32) (cut_text cut)
cut_unspaced true = unspaced_from (codes "1") refl
cut_unspaced false = unspaced_from (codes "0") refl

decimal_unspaced : (n : ℕ) → n < 2 ^ 128 → All (λ b. b ≢ 32) (decimal n)
decimal_unspaced n small =
    let numeral = decimal_is_IsNumeral_wide n (omega arith) in
    All-from_get_or (λ b. b ≢ 32) (decimal n) 0 (λ i lt e. omega (arith, digit_at (decimal n) i numeral.0.1 lt, e))

-- the text of a segment says it
pub segment_again : (s : PlaylistSegment) → s.micros < 2 ^ 128 → is_utf8 s.uri ≡ true → segment_said (segment_text s) ≡ Some s
unfolding segment_said
segment_again s small utf8 =
    ap cut_and_timed (parted_again (cut_text s.cut) (decimal s.micros ++ (codes " " ++ s.uri)) (cut_unspaced s.cut))
    ∙ ap (timed_said (cut_text s.cut)) (parted_again (decimal s.micros) s.uri (decimal_unspaced s.micros small))
    ∙ rw (cut_again s.cut, number_of-decimal s.micros small, utf8) refl

-- ---- digests

spelled : {E : Type 0} (text digest : List ℕ) (r : Result (List ℕ) E) → spelled_so text r ≡ Some digest → (r ≡ Ok digest) × (text ≡ encode_lower digest)
spelled text digest (Err e) is = absurd cc
spelled text digest (Ok found) is =
    let k = kept (bytes_eq (encode_lower found) text) found digest is in
    (ap Ok k.1, sym (same_bytes (encode_lower found) text k.0) ∙ ap encode_lower k.1)

-- a line that says a digest is the digest in lower case
pub digest_is : (text digest : List ℕ) → digest_said text ≡ Some digest → text ≡ encode_lower digest
unfolding digest_said
digest_is text digest is = (spelled text digest (decode_sized text 32) is).1

-- what a line says is 32 bytes
pub digest_valid : (text digest : List ℕ) → digest_said text ≡ Some digest → IsDigest digest
unfolding digest_said
digest_valid text digest is =
    let sized = (spelled text digest (decode_sized text 32) is).0 in
    let long : length text ≡ 2 * 32 = decode_sized-ok text 32 digest sized in
    let ok = decode_of-ok text digest (sym (decode_sized-twice text 32 long) ∙ sized) in
    record { long = omega (arith, long, ok.2); bytes = ok.3 }

-- the digits of a digest say it
pub digest_again : (digest : List ℕ) → IsDigest digest → digest_said (encode_lower digest) ≡ Some digest
unfolding digest_said
digest_again digest valid =
    ap (spelled_so (encode_lower digest)) (decode_sized-encode_lower digest 32 valid.long valid.bytes) ∙ rw (bytes_eq-own (encode_lower digest)) refl
