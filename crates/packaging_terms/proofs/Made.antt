-- A title that is made of held variants is valid, and has the digest of each of them.
use Rattle.std.proofs.Common.{◌+◌, Err, ◌≡◌, ◌≢◌, ◌∙◌, sym, ap, subst, ℕ, zero, suc, ◌*◌, ◌<◌, Bool, true, false, cond, List, [], ◌∷◌, length, map, get_or, Option, Some, None, Ok, All, refl, arith, inl, inr}
use Rattle.std.specs.Prelude.{nat_le, slice_get}
use Rattle.std.specs.List.{AllPairs, find, range_with_len}
use Rattle.std.specs.Option.{option_map, unwrap_or}
use Rattle.std.specs.Str.{bytes_eq}
use Rattle.std.specs.Int.{w32, to_be_bytes, byte_at}
use Rattle.std.proofs.Math.ListN.{get_or-eq_default}
use Rattle.std.proofs.lemmas.Bool.{cases_lt, leb-false}
use Rattle.std.proofs.lemmas.List.Elements.{All-nil, All-cons, All-append, All-map, All-weaker}
use Rattle.std.proofs.lemmas.List.FromFn.{length-map-range_with_len, length-range_with_len, get_or-range_with_len, get_or-map-range_with_len}
use Rattle.std.proofs.lemmas.Option.{slice_get-get_or}
use Rattle.std.proofs.lemmas.Slice.Eq.{bytes_eq-Decides}
use Rattle.hex.specs.Hex.{IsBytes}
use Rattle.sha2.specs.Sha256.{sha256, digest_bytes}
use Rattle.sha2.proofs.Facts256.{length-sha256}
use Rattle.shelf_terms.specs.Blobs.{Blobs, blob_at}
use Rattle.playlist_terms.specs.Playlists.{Playlist, IsPlaylist}
use Rattle.title_terms.specs.Designs.{Design, IsDesign, places, symbols}
use Rattle.title_terms.specs.Titles.{Title, IsTitle, IsDigest}
use Rattle.packaging_terms.specs.Variants.{variants, blob_of, unmarkable}
use Rattle.packaging_terms.specs.Making.{Hindrance, NoSegment, TooLong, Same, held_digest, twin, hindrance_of, hindrance, first_of, title_with, unless_hindered, made, HoldsVariant}

-- ---- digests are bytes

word_bytes : (n : ℕ) → All (λ b. b < 256) (to_be_bytes w32 n)
word_bytes n =
    All-cons (λ b. b < 256) (byte_at 3 n) (byte_at 2 n ∷ byte_at 1 n ∷ byte_at 0 n ∷ []) (omega arith)
    (All-cons (λ b. b < 256) (byte_at 2 n) (byte_at 1 n ∷ byte_at 0 n ∷ []) (omega arith)
    (All-cons (λ b. b < 256) (byte_at 1 n) (byte_at 0 n ∷ []) (omega arith)
    (All-cons (λ b. b < 256) (byte_at 0 n) [] (omega arith) (All-nil (λ b. b < 256)))))

words_bytes : (h : List ℕ) (n : ℕ) → All (λ b. b < 256) (digest_bytes h n)
unfolding digest_bytes
words_bytes h zero = All-nil (λ b. b < 256)
words_bytes h (suc n) = All-append (λ b. b < 256) (digest_bytes h n) (to_be_bytes w32 (get_or h n 0)) (words_bytes h n) (word_bytes (get_or h n 0))

bytes_from : (xs : List ℕ) → All (λ b. b < 256) xs → IsBytes xs
bytes_from xs all i =
    elim (cases_lt i (length xs)) [
      | inl lt ↦ all i 0 lt
      | inr le ↦ subst (λ (b : ℕ). b < 256) (sym (get_or-eq_default xs 0 {n = i} le)) (omega arith)
    ]

pub digest_valid : (m : List ℕ) → IsDigest (sha256 m)
unfolding sha256
digest_valid m = record { long = length-sha256 m; bytes = bytes_from (sha256 m) (words_bytes _ 8) }

-- ---- nothing stands in the way

none_of : (found : List (Option Hindrance)) → first_of found ≡ None → (k : ℕ) (o : Option Hindrance) → k < length found → get_or found k o ≡ None
none_of [] is k o lt = absurd (omega (arith, lt))
none_of (None ∷ later) is zero o lt = refl
none_of (None ∷ later) is (suc k) o lt = none_of later is k o (omega (arith, lt))
none_of (Some h ∷ later) is k o lt = absurd cc

pub none_found : {X : Type 0} (p : X → Bool) (xs : List X) → find p xs ≡ None → All (λ x. p x ≡ false) xs
none_found {X} p [] is = All-nil (λ x. p x ≡ false)
none_found {X} p (x ∷ xs) is = by (p x) refl is (none_found p xs)
  where
    by : (b : Bool) → p x ≡ b → cond b (Some x) (find p xs) ≡ None → (find p xs ≡ None → All (λ x. p x ≡ false) xs) → All (λ x. p x ≡ false) (x ∷ xs)
    by true e others later = absurd cc
    by false e others later = All-cons (λ x. p x ≡ false) x xs e (later others)

not_some : {X : Type 0} (f : X → Hindrance) (o : Option X) → option_map f o ≡ None → o ≡ None
not_some f None is = refl
not_some f (Some x) is = absurd cc

-- a variant that is held, short enough and unlike the earlier ones
pub record IsFree (limit : ℕ) (blobs : Blobs) (d : Design) (variant : ℕ) : Type 0 where
  pub bytes : List ℕ
  pub held : blob_at blobs (blob_of d variant) ≡ Some bytes
  pub short : nat_le (length bytes) limit ≡ true
  pub unlike : twin blobs d variant ≡ None

free_by : (limit : ℕ) (blobs : Blobs) (d : Design) (variant : ℕ) (found : Option (List ℕ)) → blob_at blobs (blob_of d variant) ≡ found
    → hindrance_of limit (blob_of d variant) found (option_map (λ earlier. Same earlier variant) (twin blobs d variant)) ≡ None → IsFree limit blobs d variant
free_by limit blobs d variant None is nothing = absurd cc
free_by limit blobs d variant (Some bytes) is nothing = by (nat_le (length bytes) limit) refl nothing
  where
    by : (b : Bool) → nat_le (length bytes) limit ≡ b → cond b (option_map (λ earlier. Same earlier variant) (twin blobs d variant)) (Some (TooLong (blob_of d variant))) ≡ None → IsFree limit blobs d variant
    by true e none = record { bytes = bytes; held = is; short = e; unlike = not_some (λ earlier. Same earlier variant) (twin blobs d variant) none }
    by false e none = absurd cc

free : (limit : ℕ) (blobs : Blobs) (d : Design) (variant : ℕ) → hindrance limit blobs d variant ≡ None → IsFree limit blobs d variant
free limit blobs d variant nothing = free_by limit blobs d variant (blob_at blobs (blob_of d variant)) refl nothing

-- ---- what was made

pub record IsMade (limit : ℕ) (blobs : Blobs) (d : Design) (p : Playlist) (t : Title) : Type 0 where
  pub is : t ≡ title_with d p (map (held_digest blobs d) (variants d))
  pub markable : unmarkable d p ≡ None
  pub all_free : (variant : ℕ) → variant < places d * symbols d → IsFree limit blobs d variant

made_by : (first : Option Hindrance) (u t : Title) → unless_hindered first u ≡ Ok t → (first ≡ None) × (t ≡ u)
made_by None u t is = (refl, cc)
made_by (Some h) u t is = absurd cc

pub was_made : (limit : ℕ) (blobs : Blobs) (d : Design) (p : Playlist) (t : Title) → made limit blobs d p ≡ Ok t → IsMade limit blobs d p t
unfolding made
was_made limit blobs d p t is =
    let found : List (Option Hindrance) = map (hindrance limit blobs d) (variants d) in
    let by = made_by (first_of (option_map NoSegment (unmarkable d p) ∷ found)) (title_with d p (map (held_digest blobs d) (variants d))) t is in
    let none = none_of (option_map NoSegment (unmarkable d p) ∷ found) by.0 in
    let count : ℕ = places d * symbols d in
    let long : length found ≡ count = length-map-range_with_len (hindrance limit blobs d) 0 count in
    let at : (variant : ℕ) → variant < count → hindrance limit blobs d variant ≡ None =
    λ variant lt. sym (get_or-map-range_with_len (hindrance limit blobs d) 0 count variant variant None lt (omega arith)) ∙ none (suc variant) None (omega (arith, lt, long)) in
    record {
      is = by.1;
      markable = not_some NoSegment (unmarkable d p) (none 0 None (omega arith));
      all_free = λ variant lt. free limit blobs d variant (at variant lt);
    }

-- ---- it is a title

pub made_valid : (limit : ℕ) (blobs : Blobs) (d : Design) (p : Playlist) (t : Title) → IsDesign d → IsPlaylist p → made limit blobs d p ≡ Ok t → IsTitle t
made_valid limit blobs d p t design list is =
    let m = was_made limit blobs d p t is in
    let count : ℕ = places d * symbols d in
    let digests : List (List ℕ) = map (held_digest blobs d) (variants d) in
    let long : length digests ≡ count = length-map-range_with_len (held_digest blobs d) 0 count in
    let at : (i : ℕ) (e : List ℕ) → i < count → get_or digests i e ≡ held_digest blobs d i = λ i e lt. get_or-map-range_with_len (held_digest blobs d) 0 count i i e lt (omega arith) in
    let inside : All (λ segment. segment < length p.segments) d.marked =
    All-weaker (λ segment. nat_le (length p.segments) segment ≡ false) (λ segment. segment < length p.segments)
    (λ segment within. leb-false (length p.segments) segment within) d.marked
    (none_found (λ segment. nat_le (length p.segments) segment) d.marked m.markable) in
    let apart : AllPairs (λ x y. x ≢ y) digests =
    λ i j e lt within same.
    let j_in : j < count = omega (arith, within, long) in
    let unlike = none_found (λ earlier. bytes_eq (held_digest blobs d j) (held_digest blobs d earlier)) (range_with_len 0 j) (m.all_free j j_in).unlike in
    let differs : bytes_eq (held_digest blobs d j) (held_digest blobs d i) ≡ false =
    subst (λ (k : ℕ). bytes_eq (held_digest blobs d j) (held_digest blobs d k) ≡ false) (get_or-range_with_len 0 j i 0 lt ∙ omega arith) (unlike i 0 (omega (arith, lt, length-range_with_len 0 j))) in
    let equal : held_digest blobs d j ≡ held_digest blobs d i = sym (at j e j_in) ∙ sym same ∙ at i e (omega (arith, lt, j_in)) in
    let yes : bytes_eq (held_digest blobs d j) (held_digest blobs d i) ≡ true = (bytes_eq-Decides (held_digest blobs d j) (held_digest blobs d i)).1 equal in
    absurd (cc (differs, yes)) in
    let here : IsTitle (title_with d p digests) = record {
      design = design;
      list = list;
      marked = inside;
      full = long;
      digests = All-map IsDigest (held_digest blobs d) (variants d) (λ i e lt. digest_valid _);
      distinct = apart;
    } in
    subst IsTitle (sym m.is) here

-- ---- each variant is held

pub made_holds : (limit : ℕ) (blobs : Blobs) (d : Design) (p : Playlist) (t : Title) (variant : ℕ) → made limit blobs d p ≡ Ok t → variant < places d * symbols d → HoldsVariant limit blobs t variant
made_holds limit blobs d p t variant is lt =
    let m = was_made limit blobs d p t is in
    let count : ℕ = places d * symbols d in
    let f = m.all_free variant lt in
    let digests : List (List ℕ) = map (held_digest blobs d) (variants d) in
    let long : length digests ≡ count = length-map-range_with_len (held_digest blobs d) 0 count in
    let at : slice_get digests variant ≡ Some (held_digest blobs d variant) =
    slice_get-get_or digests variant [] (omega (arith, lt, long)) ∙ ap Some (get_or-map-range_with_len (held_digest blobs d) 0 count variant variant [] lt (omega arith)) in
    let here : HoldsVariant limit blobs (title_with d p digests) variant = record {
      bytes = f.bytes;
      held = f.held;
      short = f.short;
      digest = at ∙ ap (λ (o : Option (List ℕ)). Some (sha256 (unwrap_or o []))) f.held;
    } in
    subst (λ (t : Title). HoldsVariant limit blobs t variant) (sym m.is) here

-- ---- the first that stands in the way

first_at : (found : List (Option Hindrance)) (k : ℕ) (h : Hindrance) → k < length found → ((i : ℕ) → i < k → get_or found i None ≡ None) → get_or found k None ≡ Some h → first_of found ≡ Some h
first_at [] k h lt earlier is = absurd (omega (arith, lt))
first_at (o ∷ later) zero h lt earlier is = by o is
  where
    by : (o : Option Hindrance) → o ≡ Some h → first_of (o ∷ later) ≡ Some h
    by (Some g) same = same
    by None same = absurd cc
first_at (o ∷ later) (suc k) h lt earlier is = by o (earlier 0 (omega arith)) (first_at later k h (omega (arith, lt)) (λ i below. earlier (suc i) (omega (arith, below))) is)
  where
    by : (o : Option Hindrance) → o ≡ None → first_of later ≡ Some h → first_of (o ∷ later) ≡ Some h
    by None none rest = rest
    by (Some g) none rest = absurd cc

pub stopped_at : (limit : ℕ) (blobs : Blobs) (d : Design) (p : Playlist) (variant : ℕ) (h : Hindrance) → unmarkable d p ≡ None → variant < places d * symbols d
    → ((earlier : ℕ) → earlier < variant → hindrance limit blobs d earlier ≡ None) → hindrance limit blobs d variant ≡ Some h → made limit blobs d p ≡ Err h
unfolding made
stopped_at limit blobs d p variant h markable lt earlier is =
    let count : ℕ = places d * symbols d in
    let found : List (Option Hindrance) = map (hindrance limit blobs d) (variants d) in
    let long : length found ≡ count = length-map-range_with_len (hindrance limit blobs d) 0 count in
    let at : (i : ℕ) → i < count → get_or found i None ≡ hindrance limit blobs d i = λ i below. get_or-map-range_with_len (hindrance limit blobs d) 0 count i i None below (omega arith) in
    let first : first_of found ≡ Some h = first_at found variant h (omega (arith, lt, long)) (λ i below. at i (omega (arith, below, lt)) ∙ earlier i below) (at variant lt ∙ is) in
    rw (markable, first) refl

-- a twin is an earlier variant with the same digest
pub record IsTwin (blobs : Blobs) (d : Design) (earlier later : ℕ) : Type 0 where
  pub before : earlier < later
  pub same : held_digest blobs d earlier ≡ held_digest blobs d later

found_in : (p : ℕ → Bool) (a n x : ℕ) → find p (range_with_len a n) ≡ Some x → (x < a + n) × (p x ≡ true)
found_in p a zero x is = absurd cc
found_in p a (suc n) x is = by (p a) refl is (λ rest. found_in p (a + 1) n x rest)
  where
    by : (b : Bool) → p a ≡ b → cond b (Some a) (find p (range_with_len (a + 1) n)) ≡ Some x → (find p (range_with_len (a + 1) n) ≡ Some x → (x < a + 1 + n) × (p x ≡ true)) → (x < a + suc n) × (p x ≡ true)
    by true e same later = let here : a ≡ x = cc in (omega (arith, here), subst (λ (y : ℕ). p y ≡ true) here e)
    by false e same later = let rest = later same in (omega (arith, rest.0), rest.1)

pub twin_is : (blobs : Blobs) (d : Design) (variant earlier : ℕ) → twin blobs d variant ≡ Some earlier → IsTwin blobs d earlier variant
twin_is blobs d variant earlier is =
    let at = found_in (λ e. bytes_eq (held_digest blobs d variant) (held_digest blobs d e)) 0 variant earlier is in
    record { before = omega (arith, at.0); same = sym ((bytes_eq-Decides (held_digest blobs d variant) (held_digest blobs d earlier)).0 at.1) }
