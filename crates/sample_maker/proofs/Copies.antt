-- What the coalition of a sample gets, and the word of the copy that it puts together.
use Rattle.std.proofs.Common.{◌≡◌, ◌∙◌, sym, ap, ap₂, subst, refl, ℕ, ◌+◌, ◌-◌, ◌*◌, ◌/◌, ◌%◌, ◌^◌, ◌<◌, true, false, List, [], ◌∷◌, ◌++◌, length, map, get_or, Option, Some, None, arith}
use Rattle.std.specs.Prelude.{nat_lt, slice_get}
use Rattle.std.specs.Fmt.{digits}
use Rattle.std.specs.List.{range_with_len}
use Rattle.std.specs.Option.{option_map_or, unwrap_or}
use Rattle.std.proofs.lemmas.Bool.{ltb-true}
use Rattle.std.proofs.lemmas.List.FromFn.{length-map-range_with_len, get_or-map-range_with_len, get_or-range_with_len, map-range_with_len_more}
use Rattle.std.proofs.lemmas.Nat.{div-mul-add}
use Rattle.std.proofs.lemmas.Option.{slice_get-get_or, slice_get_within, get_or_from_slice_get}
use Rattle.hex.specs.Hex.{encode_with}
use Rattle.sha2.specs.Sha256.{sha256}
use Rattle.shelf_terms.specs.Blobs.{Blobs, blob_at}
use Rattle.code_terms.specs.Symbols.{symbol_of}
use Rattle.code_terms.proofs.Evaluation.{symbol_of-below}
use Rattle.register_terms.specs.Enrolment.{Enrolment, Licensee, message_of}
use Rattle.register_terms.specs.Rules.{is_active}
use Rattle.playlist_terms.specs.Playlists.{PlaylistSegment, Playlist}
use Rattle.title_terms.specs.Designs.{Design, places, variant_name}
use Rattle.title_terms.specs.Titles.{Title}
use Rattle.packaging_terms.specs.Licensees.{fits, place_of, symbol_at, uri_at, licensed_list, licensed_text}
use Rattle.packaging_terms.specs.Variants.{blob_of}
use Rattle.packaging_terms.proofs.Lists.{licensed_at, marked_at}
use Rattle.copy_terms.specs.Copies.{digests_of, word_of_copy}
use Rattle.copy_match.specs.Matches.{StopsAt, IsMissing, IsTooLong}
use Rattle.outcome_terms.specs.TraceCommand.{segment_names}
use Rattle.sample_terms.specs.Numbers.{member_at}
use Rattle.sample_terms.specs.Inputs.{design, list, segment, licensee, register_with, register_of, title_of, digest_of, variants}
use Rattle.sample_terms.specs.Copies.{copied_symbol, copied_digest, copied_digests, word_of}
use Rattle.sample_maker.specs.Copying.{list_for, copied_segment, copy_of}
use Rattle.sample_maker.specs.Holding.{HoldsVariants, bytes_of}
use Rattle.sample_maker.proofs.Held.{places_are, blob_is, variants_are, short}
use Rattle.sample_maker.proofs.Ranges.{mapped_alike}
use Rattle.sample_maker.proofs.Registers.{bits_are}
use Rattle.sample_maker.proofs.Lists.{design_valid}

-- ---- the title and the register

pub design_is : (number : ℕ) → (title_of number).design ≡ design
unfolding title_of
design_is number = refl

list_is : (number : ℕ) → (title_of number).list ≡ list
unfolding title_of
list_is number = refl

pub fitting : (number : ℕ) → fits (title_of number) (register_of number) ≡ true
unfolding title_of design register_with
fitting number = refl

pub title_bits : (number : ℕ) → (title_of number).design.bits ≡ 8
unfolding title_of design
title_bits number = refl

pub title_cost : (number : ℕ) → places (title_of number).design * (title_of number).design.dimension ≡ 192
unfolding title_of design
title_cost number = refl

pub active : (count number serial : ℕ) → serial < count → is_active (register_with count number) serial ≡ true
unfolding register_with
active count number serial low =
    let long : length (map licensee (range_with_len 0 count)) ≡ count = length-map-range_with_len licensee 0 count in
    ap (λ (o : Option Licensee). option_map_or (λ (x : Licensee). x.active) o false) (slice_get-get_or (map licensee (range_with_len 0 count)) serial (licensee 0) (omega (arith, low, long)) ∙ ap Some (get_or-map-range_with_len licensee 0 count serial serial (licensee 0) low (omega arith)))

-- ---- what a licensee gets

pub text_short : (number serial : ℕ) → length (licensed_text (title_of number) (register_of number) serial) < 2 ^ 32
unfolding licensed_list title_of design list encode_with digits
text_short number serial =
    let test : nat_lt (length (licensed_text (title_of number) (register_of number) serial)) 4294967296 ≡ true = refl in
    ltb-true (length (licensed_text (title_of number) (register_of number) serial)) 4294967296 test

listed : (place : ℕ) → place < 64 → slice_get list.segments place ≡ Some (segment place)
unfolding list
listed place low =
    let long : length (map segment (range_with_len 0 64)) ≡ 64 = length-map-range_with_len segment 0 64 in
    slice_get-get_or (map segment (range_with_len 0 64)) place (segment 0) (omega (arith, low, long)) ∙ ap Some (get_or-map-range_with_len segment 0 64 place place (segment 0) low (omega arith))

mark_is : (place : ℕ) → place < 64 → get_or design.marked place 0 ≡ place
unfolding design
mark_is place low = let same : 0 + place ≡ place = omega arith in get_or-range_with_len 0 64 place 0 low ∙ same

place_is : (place : ℕ) → place < 64 → place_of design place ≡ Some place
place_is place low = ap (place_of design) (sym (mark_is place low)) ∙ marked_at design place design_valid (omega (arith, low, places_are))

-- the segment of a licensee at a place
abbrev segment_for : ℕ → ℕ → ℕ → PlaylistSegment
segment_for number serial place = record { micros = 6000000; uri = variant_name design place (symbol_at (register_of number) serial place); cut = false }

segment_found : (number serial place : ℕ) → place < 64 → slice_get (list_for number serial).segments place ≡ Some (segment_for number serial place)
segment_found number serial place low =
    let e : Enrolment = register_of number in
    let t : Title = title_of number in
    licensed_at t e serial place (segment place) (ap (λ (l : Playlist). slice_get l.segments place) (list_is number) ∙ listed place low)
    ∙ ap (λ (d : Design). Some (record (segment place) { uri = uri_at t e serial (segment place).uri (place_of d place) })) (design_is number)
    ∙ ap (λ (o : Option ℕ). Some (record (segment place) { uri = uri_at t e serial (segment place).uri o })) (place_is place low)
    ∙ ap (λ (d : Design). Some (record (segment place) { uri = variant_name d place (symbol_at e serial place) })) (design_is number)

pub list_long : (number serial place : ℕ) (l : Playlist) → l ≡ list_for number serial → place < 64 → place < length l.segments
list_long number serial place l is low =
    subst (λ (l : Playlist). place < length l.segments) (sym is) (slice_get_within (list_for number serial).segments place (segment_for number serial place) (segment_found number serial place low))

copied_found : (number place : ℕ) → place < 64 → slice_get (list_for number (member_at number place)).segments place ≡ Some (copied_segment number place)
unfolding copied_symbol
copied_found number place low = segment_found number (member_at number place) place low

-- ---- the copy

pub copy_begun : (number : ℕ) (l : Playlist) → l ≡ record { version = 3; target = 6; sequence = 0; segments = [] } → l ≡ copy_of number 0
unfolding copy_of
copy_begun number l is = is

some_same : (x y : PlaylistSegment) → Some x ≡ Some y → x ≡ y
some_same x y is = cc

pub copy_more : (number n place : ℕ) (l old new : Playlist) (s : PlaylistSegment) → n < 30 → place ≡ 29 - n → l ≡ list_for number (member_at number place) → slice_get l.segments place ≡ Some s → old ≡ copy_of number n
    → new ≡ record old { segments = old.segments ++ s ∷ [] } → new ≡ copy_of number (n + 1)
unfolding copy_of
copy_more number n place l old new s low at from stands before is =
    let copied : ℕ → PlaylistSegment = λ i. copied_segment number (29 - i) in
    let found : s ≡ copied_segment number place = some_same s (copied_segment number place) (sym stands ∙ ap (λ (l : Playlist). slice_get l.segments place) from ∙ copied_found number place (omega (arith, at, low))) in
    let last : s ≡ copied n = found ∙ ap (copied_segment number) at in
    is ∙ ap (λ (l : Playlist). record l { segments = l.segments ++ s ∷ [] }) before
    ∙ ap (λ (s : PlaylistSegment). record (copy_of number n) { segments = map copied (range_with_len 0 n) ++ s ∷ [] }) last
    ∙ ap (λ (segments : List PlaylistSegment). record (copy_of number n) { segments = segments }) (sym (map-range_with_len_more copied 0 n n (omega arith)))

-- ---- its word

module _ (number : ℕ) (blobs : Blobs) (holds : HoldsVariants number blobs variants) where
  -- the blob of this name is that of a variant
  pub record IsVariant (name : List ℕ) : Type 0 where
    pub variant : ℕ
    pub low : variant < 16384
    pub held : blob_at blobs name ≡ Some (bytes_of number variant)

  symbol_byte : (place : ℕ) → place < 64 → copied_symbol number place < 256
  unfolding copied_symbol
  symbol_byte place low =
      let e : Enrolment = register_of number in
      let u : ℕ = message_of e (member_at number place) in
      subst (λ (m : ℕ). symbol_of m e.dimension u place < 256) (sym (bits_are 1000 number)) (symbol_of-below 8 (omega arith) (omega arith) u place e.dimension (omega (arith, low)))

  -- the number of the variant that is copied at a place
  abbrev copied_variant : ℕ → ℕ
  copied_variant place = place * 256 + copied_symbol number place

  inside : (place : ℕ) → place < 64 → copied_variant place < 16384
  inside place low = omega (arith, low, symbol_byte place low)

  named : (place : ℕ) → place < 64 → blob_of design (copied_variant place) ≡ variant_name design place (copied_symbol number place)
  named place low =
      let byte = symbol_byte place low in
      let one : copied_variant place / 256 ≡ place = div-mul-add place 256 (copied_symbol number place) byte in
      let two : copied_variant place % 256 ≡ copied_symbol number place = omega (arith, one) in
      blob_is (copied_variant place) ∙ ap₂ (variant_name design) one two

  held_at : (place : ℕ) → place < 64 → blob_at blobs (copied_segment number place).uri ≡ Some (bytes_of number (copied_variant place))
  held_at place low = ap (blob_at blobs) (sym (named place low)) ∙ holds.each (copied_variant place) (omega (arith, inside place low, variants_are))

  digest_is : (place : ℕ) → place < 64 → sha256 (unwrap_or (blob_at blobs (copied_segment number place).uri) []) ≡ copied_digest number place
  unfolding digest_of
  digest_is place low = ap (λ (o : Option (List ℕ)). sha256 (unwrap_or o [])) (held_at place low)

  twice : {X Y Z : Type 0} (f : Y → Z) (g : X → Y) (xs : List X) → map f (map g xs) ≡ map (λ x. f (g x)) xs
  twice f g [] = refl
  twice f g (x ∷ xs) = ap (λ zs. f (g x) ∷ zs) (twice f g xs)

  names : segment_names (copy_of number 30) ≡ map (λ i. (copied_segment number (29 - i)).uri) (range_with_len 0 30)
  unfolding copy_of
  names = twice (λ (s : PlaylistSegment). s.uri) (λ (i : ℕ). copied_segment number (29 - i)) (range_with_len 0 30)

  pub digests_are : digests_of blobs (segment_names (copy_of number 30)) ≡ copied_digests number
  unfolding copied_digests
  digests_are =
      let digest : List ℕ → List ℕ = λ name. sha256 (unwrap_or (blob_at blobs name) []) in
      ap (map digest) names
      ∙ twice digest (λ (i : ℕ). (copied_segment number (29 - i)).uri) (range_with_len 0 30)
      ∙ mapped_alike (λ (i : ℕ). digest (copied_segment number (29 - i)).uri) (λ (i : ℕ). copied_digest number (29 - i)) 0 30 (λ i _ high. digest_is (29 - i) (omega arith))

  -- every segment's blob is that of a variant
  pub held_name : (i : ℕ) (name : List ℕ) → slice_get (segment_names (copy_of number 30)) i ≡ Some name → IsVariant name
  held_name i name stands =
      let uris : ℕ → List ℕ = λ i. (copied_segment number (29 - i)).uri in
      let at : slice_get (map uris (range_with_len 0 30)) i ≡ Some name = ap (λ (ns : List (List ℕ)). slice_get ns i) (sym names) ∙ stands in
      let low : i < 30 = omega (arith, slice_get_within (map uris (range_with_len 0 30)) i name at, length-map-range_with_len uris 0 30) in
      let is : name ≡ uris i = sym (get_or_from_slice_get (map uris (range_with_len 0 30)) i name [] at) ∙ get_or-map-range_with_len uris 0 30 i i [] low (omega arith) in
      record {
        variant = copied_variant (29 - i);
        low = inside (29 - i) (omega arith);
        held = ap (blob_at blobs) is ∙ held_at (29 - i) (omega arith);
      }

  pub word_is_copied : (t : Title) (copy : Playlist) (word : List (Option ℕ)) → t ≡ title_of number → copy ≡ copy_of number 30 → word ≡ word_of_copy t (digests_of blobs (segment_names copy)) → word ≡ word_of number
  unfolding word_of
  word_is_copied t copy word title is read =
      read ∙ ap₂ (λ (t : Title) (p : Playlist). word_of_copy t (digests_of blobs (segment_names p))) title is ∙ ap (word_of_copy (title_of number)) digests_are

  -- ---- no segment of the copy stands in the way

  held_of : (copy : Playlist) (i : ℕ) (name : List ℕ) → copy ≡ copy_of number 30 → slice_get (segment_names copy) i ≡ Some name → IsVariant name
  held_of copy i name is stands = held_name i name (ap (λ (p : Playlist). slice_get (segment_names p) i) (sym is) ∙ stands)

  some_bytes : (x y : List ℕ) → Some x ≡ Some y → x ≡ y
  some_bytes x y is = cc

  pub none_missing : (copy : Playlist) (i : ℕ) → copy ≡ copy_of number 30 → StopsAt IsMissing (Some blobs) copy i → ⊥
  none_missing copy i is stops =
      let held : blob_at blobs stops.name ≡ Some (bytes_of number (held_of copy i stops.name is stops.stands).variant) = (held_of copy i stops.name is stops.stands).held in
      let gone : blob_at blobs stops.name ≡ None = stops.hindered in
      cc

  pub none_long : (copy : Playlist) (i : ℕ) → number < 2 ^ 64 → copy ≡ copy_of number 30 → StopsAt IsTooLong (Some blobs) copy i → ⊥
  none_long copy i fits is stops =
      let of = held_of copy i stops.name is stops.stands in
      let same : stops.hindered.blob ≡ bytes_of number of.variant = some_bytes stops.hindered.blob (bytes_of number of.variant) (sym stops.hindered.held ∙ of.held) in
      let few = short number of.variant fits of.low in
      omega (arith, stops.hindered.longer, ap length same, few)
