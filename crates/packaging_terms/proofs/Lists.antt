-- A licensee's playlist is one that may be written, and it names the licensee's variant at each marked segment.
use Rattle.std.proofs.Common.{sym, ◌≡◌, ◌∙◌, ap, ℕ, zero, suc, ◌+◌, ◌^◌, ◌<◌, ◌≤◌, max, Bool, true, false, eqb, nat_le, List, [], ◌∷◌, length, map, get_or, Option, Some, None, All, refl, arith}
use Rattle.std.specs.Prelude.{slice_get}
use Rattle.std.specs.Option.{option_map}
use Rattle.std.specs.List.{fold, position_or_len, enumerate_from}
use Rattle.std.proofs.Math.Nat.{le-max_right, max-le}
use Rattle.std.proofs.Math.Pow.{pow_mono}
use Rattle.std.proofs.lemmas.Bool.{and_parts, eqb-true, eq-eqb, ne_eqb, leb-true, lt-ltb}
use Rattle.std.proofs.lemmas.List.{length-map}
use Rattle.std.proofs.lemmas.List.Elements.{All-map, All-nil, All-cons, All-weaker}
use Rattle.std.proofs.lemmas.List.FromFn.{length-enumerate_from}
use Rattle.std.proofs.lemmas.List.Kept.{AllPairs-from_increasing}
use Rattle.std.proofs.lemmas.List.Sums.{position_or_len_is}
use Rattle.std.proofs.lemmas.List.Quantifiers.{position-Some}
use Rattle.code_terms.proofs.Evaluation.{symbol_of-below}
use Rattle.register_terms.specs.Enrolment.{Enrolment, message_of}
use Rattle.playlist_terms.specs.Playlists.{PlaylistSegment, Playlist, IsSegment, IsPlaylist}
use Rattle.title_terms.specs.Designs.{Design, IsDesign, places, symbols}
use Rattle.title_terms.specs.Titles.{Title, IsTitle}
use Rattle.packaging_terms.specs.Licensees.{fits, place_of, symbol_at, uri_at, licensed_segment, licensed_segments, whole_seconds, raised_target, licensed_list}
use Rattle.packaging_terms.proofs.VariantNames.{HasVariant, variant_uri, variant_utf8}

-- ---- the target

fold_most : (a : ℕ) (xs : List ℕ) (most : ℕ) → a ≤ most → All (λ x. x ≤ most) xs → fold max a xs ≤ most
fold_most a [] most le all = le
fold_most a (x ∷ xs) most le all = fold_most (max a x) xs most (max-le le (all 0 0 (omega arith))) (λ k d lt. all (suc k) d (omega (arith, lt)))

target_small : (p : Playlist) → IsPlaylist p → raised_target p < 2 ^ 64
target_small p valid =
    let top : ℕ = 18446744073709551615 in
    let below = valid.target in
    let first : p.target ≤ top = omega (arith, below) in
    let each : (s : PlaylistSegment) → IsSegment s → whole_seconds s.micros ≤ top = λ s one. let micros = one.micros in omega (arith, micros) in
    let all : All (λ x. x ≤ top) (map (λ (s : PlaylistSegment). whole_seconds s.micros) p.segments) =
    All-map (λ x. x ≤ top) (λ (s : PlaylistSegment). whole_seconds s.micros) p.segments (All-weaker IsSegment (λ s. whole_seconds s.micros ≤ top) each p.segments valid.segments) in
    let most = fold_most p.target (map (λ (s : PlaylistSegment). whole_seconds s.micros) p.segments) top first all in
    omega (arith, most)

-- ---- the segments

-- what makes the licensee's variants ones of the design
pub record IsLicensable (t : Title) (e : Enrolment) : Type 0 where
  pub valid : IsTitle t
  pub same_bits : t.design.bits ≡ e.bits

pub licensable : (t : Title) (e : Enrolment) → IsTitle t → fits t e ≡ true → IsLicensable t e
licensable t e valid is = record {
  valid = valid;
  same_bits = eqb-true t.design.bits e.bits (and_parts (eqb t.design.bits e.bits) (eqb t.design.dimension e.dimension) is).0;
}

has_variant : (t : Title) (e : Enrolment) (serial place : ℕ) → IsLicensable t e → place < places t.design → HasVariant t.design place (symbol_at e serial place)
has_variant t e serial place able inside =
    let design = able.valid.design in
    let bits = and_parts (nat_le 4 t.design.bits) (nat_le t.design.bits 8) design.bits in
    let same = able.same_bits in
    let low : 4 ≤ e.bits = omega (arith, leb-true 4 t.design.bits bits.0, same) in
    let high : e.bits ≤ 8 = omega (arith, leb-true t.design.bits 8 bits.1, same) in
    let room = leb-true (places t.design) (2 ^ t.design.bits) design.room in
    let more : 2 ^ t.design.bits ≤ 2 ^ 8 = pow_mono (leb-true t.design.bits 8 bits.1) in
    let most : 2 ^ e.bits ≤ 2 ^ 8 = pow_mono high in
    let powers : 2 ^ t.design.bits ≡ 2 ^ e.bits = ap (λ (m : ℕ). 2 ^ m) same in
    let below : symbol_at e serial place < 2 ^ e.bits = symbol_of-below e.bits low high (message_of e serial) place e.dimension (omega (arith, inside, room, powers)) in
    record {
      prefix = design.prefix;
      suffix = design.suffix;
      few = omega (arith, inside, room, more);
      byte = omega (arith, below, most);
    }

segment_by : (t : Title) (e : Enrolment) (serial i : ℕ) (s : PlaylistSegment) (place : Option ℕ) → IsLicensable t e → IsSegment s → place_of t.design i ≡ place → IsSegment (record s { uri = uri_at t e serial s.uri place })
segment_by t e serial i s None able valid is = valid
segment_by t e serial i s (Some place) able valid is =
    let at = position-Some (λ marked. eqb marked i) t.design.marked place 0 is in
    let has = has_variant t e serial place able at.0 in
    record {
      uri = variant_uri t.design place (symbol_at e serial place) has;
      utf8 = variant_utf8 t.design place (symbol_at e serial place) has;
      micros = valid.micros;
    }

all_licensed : (t : Title) (e : Enrolment) (serial n : ℕ) (segments : List PlaylistSegment) → IsLicensable t e → All IsSegment segments → All IsSegment (map (licensed_segment t e serial) (enumerate_from n segments))
all_licensed t e serial n [] able valid = All-nil IsSegment
all_licensed t e serial n (s ∷ segments) able valid =
    All-cons IsSegment (licensed_segment t e serial (n, s)) (map (licensed_segment t e serial) (enumerate_from (n + 1) segments))
    (segment_by t e serial n s (place_of t.design n) able (valid 0 s (omega arith)) refl)
    (all_licensed t e serial (n + 1) segments able (λ k d lt. valid (suc k) d (omega (arith, lt))))

length-licensed : (t : Title) (e : Enrolment) (serial : ℕ) → length (licensed_segments t e serial) ≡ length t.list.segments
length-licensed t e serial = length-map (enumerate_from 0 t.list.segments) (licensed_segment t e serial) ∙ length-enumerate_from 0 t.list.segments

pub licensed_valid : (t : Title) (e : Enrolment) (serial : ℕ) → IsLicensable t e → IsPlaylist (licensed_list t e serial)
unfolding licensed_list
licensed_valid t e serial able =
    let list = able.valid.list in
    let low = list.version_low in
    let greater = le-max_right 3 t.list.version in
    let room = list.room in
    record {
      version_low = omega (arith, low, greater);
      version_high = max-le (omega arith) list.version_high;
      target = target_small t.list list;
      sequence = list.sequence;
      segments = all_licensed t e serial 0 t.list.segments able list.segments;
      room = omega (arith, room, length-licensed t e serial);
    }

-- ---- which segments are named

pub marked_at : (d : Design) (place : ℕ) → IsDesign d → place < places d → place_of d (get_or d.marked place 0) ≡ Some place
marked_at d place valid inside =
    let segment : ℕ = get_or d.marked place 0 in
    let p : ℕ → Bool = λ marked. eqb marked segment in
    let rises = AllPairs-from_increasing d.marked valid.ascending in
    let earlier : (k : ℕ) → k < place → p (get_or d.marked k 0) ≡ false = λ k lt. let below = rises k place 0 lt inside in ne_eqb (get_or d.marked k 0) segment (λ same. omega (arith, below, same)) in
    let first : position_or_len p d.marked ≡ place = position_or_len_is p d.marked place 0 (omega (arith, inside)) earlier (λ _. eq-eqb segment segment refl) in
    rw (first, lt-ltb place (length d.marked) inside) refl

licensed_from : (t : Title) (e : Enrolment) (serial n i : ℕ) (segments : List PlaylistSegment) → slice_get (map (licensed_segment t e serial) (enumerate_from n segments)) i ≡ option_map (λ s. licensed_segment t e serial (n + i, s)) (slice_get segments i)
licensed_from t e serial n i [] = refl
licensed_from t e serial n zero (s ∷ segments) = let same : n ≡ n + 0 = omega arith in ap (λ (m : ℕ). Some (licensed_segment t e serial (m, s))) same
licensed_from t e serial n (suc i) (s ∷ segments) =
    let same : n + 1 + i ≡ n + suc i = omega arith in
    licensed_from t e serial (n + 1) i segments ∙ ap (λ (m : ℕ). option_map (λ (s : PlaylistSegment). licensed_segment t e serial (m, s)) (slice_get segments i)) same

-- the segment of a number, as the licensee gets it
pub licensed_at : (t : Title) (e : Enrolment) (serial i : ℕ) (s : PlaylistSegment) → slice_get t.list.segments i ≡ Some s → slice_get (licensed_list t e serial).segments i ≡ Some (licensed_segment t e serial (i, s))
unfolding licensed_list
licensed_at t e serial i s is =
    let same : 0 + i ≡ i = omega arith in
    licensed_from t e serial 0 i t.list.segments ∙ ap (λ (o : Option PlaylistSegment). option_map (λ (s : PlaylistSegment). licensed_segment t e serial (0 + i, s)) o) is ∙ ap (λ (m : ℕ). Some (licensed_segment t e serial (m, s))) same

-- a segment that the licensee gets, beside the one that it stands for
pub record IsLicensed (t : Title) (e : Enrolment) (serial i : ℕ) (s : PlaylistSegment) : Type 0 where
  pub source : PlaylistSegment
  pub held : slice_get t.list.segments i ≡ Some source
  pub is : s ≡ licensed_segment t e serial (i, source)

pub licensed_is : (t : Title) (e : Enrolment) (serial i : ℕ) (s : PlaylistSegment) → slice_get (licensed_list t e serial).segments i ≡ Some s → IsLicensed t e serial i s
unfolding licensed_list
licensed_is t e serial i s is =
    let same : 0 + i ≡ i = omega arith in
    let at : option_map (λ (s : PlaylistSegment). licensed_segment t e serial (i, s)) (slice_get t.list.segments i) ≡ Some s =
    ap (λ (m : ℕ). option_map (λ (s : PlaylistSegment). licensed_segment t e serial (m, s)) (slice_get t.list.segments i)) (sym same) ∙ sym (licensed_from t e serial 0 i t.list.segments) ∙ is in
    by (slice_get t.list.segments i) refl at
  where
    same_segment : (x y : PlaylistSegment) → (let o : Option PlaylistSegment = Some x in o) ≡ Some y → y ≡ x
    same_segment x y e = cc

    by : (o : Option PlaylistSegment) → slice_get t.list.segments i ≡ o → option_map (λ (s : PlaylistSegment). licensed_segment t e serial (i, s)) o ≡ Some s → IsLicensed t e serial i s
    by None none no_segment = absurd cc
    by (Some source) held found = record { source = source; held = held; is = same_segment (licensed_segment t e serial (i, source)) s found }

-- a licensee's symbol is one of the design
pub symbol_below : (t : Title) (e : Enrolment) (serial place : ℕ) → IsLicensable t e → place < places t.design → symbol_at e serial place < symbols t.design
symbol_below t e serial place able inside =
    let design = able.valid.design in
    let bits = and_parts (nat_le 4 t.design.bits) (nat_le t.design.bits 8) design.bits in
    let same = able.same_bits in
    let low : 4 ≤ e.bits = omega (arith, leb-true 4 t.design.bits bits.0, same) in
    let high : e.bits ≤ 8 = omega (arith, leb-true t.design.bits 8 bits.1, same) in
    let room = leb-true (places t.design) (2 ^ t.design.bits) design.room in
    let powers : 2 ^ t.design.bits ≡ 2 ^ e.bits = ap (λ (m : ℕ). 2 ^ m) same in
    let below : symbol_at e serial place < 2 ^ e.bits = symbol_of-below e.bits low high (message_of e serial) place e.dimension (omega (arith, inside, room, powers)) in
    omega (arith, below, powers)
