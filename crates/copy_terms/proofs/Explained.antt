-- From playlists to words: what a copy shows at a place is the symbol of a licensee who helped to make it.
use Rattle.std.proofs.Common.{◌≡◌, ◌∙◌, sym, ap, subst, ℕ, zero, suc, ◌+◌, ◌*◌, ◌/◌, ◌<◌, Bool, true, false, cond, eqb, List, [], ◌∷◌, length, map, get_or, Option, Some, None, All, refl, arith, inl, inr}
use Rattle.std.specs.Prelude.{nat_lt, slice_get, filter, Contains}
use Rattle.std.specs.List.{list_any, range_with_len}
use Rattle.std.specs.Option.{option_map_or, unwrap_or}
use Rattle.std.specs.Str.{bytes_eq}
use Rattle.std.proofs.Math.ListN.{get_or-eq_default}
use Rattle.std.proofs.lemmas.Bool.{cases_lt}
use Rattle.std.proofs.lemmas.List.{get_or-map, length-map}
use Rattle.std.proofs.lemmas.List.Folds.{Any-from_list_any}
use Rattle.std.proofs.lemmas.List.FromFn.{length-map-range_with_len, get_or-map-range_with_len}
use Rattle.std.proofs.lemmas.List.Quantifiers.{position-Some}
use Rattle.std.proofs.lemmas.Nat.{div-mul-add}
use Rattle.std.proofs.lemmas.Option.{slice_get_within, get_or_from_slice_get}
use Rattle.std.proofs.lemmas.Slice.Eq.{bytes_eq-Decides}
use Rattle.sha2.specs.Sha256.{sha256}
use Rattle.shelf_terms.specs.Blobs.{Blobs, blob_at}
use Rattle.code_terms.specs.Words.{slot_at}
use Rattle.register_terms.specs.Enrolment.{Enrolment}
use Rattle.playlist_terms.specs.Playlists.{PlaylistSegment}
use Rattle.title_terms.specs.Designs.{places, symbols}
use Rattle.title_terms.specs.Titles.{Title, IsTitle, cell_of, digest_at}
use Rattle.packaging_terms.specs.Licensees.{fits, place_of, symbol_at, uri_at}
use Rattle.packaging_terms.proofs.Lists.{IsLicensable, licensable, symbol_below, licensed_is}
use Rattle.copy_terms.specs.Copies.{shows, shown, only, word_of_copy, digests_of}
use Rattle.copy_terms.specs.Kept.{IsKept, IsFrom}

some_same : (x y : List ℕ) → (let o : Option (List ℕ) = Some x in o) ≡ Some y → x ≡ y
some_same x y is = cc

-- ---- the only symbol at a place

only_is : (found : List ℕ) (v : ℕ) → only found ≡ Some v → found ≡ v ∷ []
only_is [] v is = absurd cc
only_is (x ∷ []) v is = let same : x ≡ v = cc in ap (λ (y : ℕ). y ∷ []) same
only_is (x ∷ y ∷ more) v is = absurd cc

first_is : (x v : ℕ) (rest : List ℕ) → x ∷ rest ≡ v ∷ [] → x ≡ v
first_is x v rest is = cc

passes : (p : ℕ → Bool) (a n v : ℕ) → filter p (range_with_len a n) ≡ v ∷ [] → (p v ≡ true) × (v < a + n)
passes p a zero v is = absurd cc
passes p a (suc n) v is = by (p a) refl is (λ rest. passes p (a + 1) n v rest)
  where
    by : (b : Bool) → p a ≡ b → cond b (a ∷ filter p (range_with_len (a + 1) n)) (filter p (range_with_len (a + 1) n)) ≡ v ∷ [] → (filter p (range_with_len (a + 1) n) ≡ v ∷ [] → (p v ≡ true) × (v < a + 1 + n)) → (p v ≡ true) × (v < a + suc n)
    by true e same later = let here : a ≡ v = first_is a v (filter p (range_with_len (a + 1) n)) same in (subst (λ (x : ℕ). p x ≡ true) here e, omega (arith, here))
    by false e same later = let rest = later same in (rest.0, omega (arith, rest.1))

record IsShown (t : Title) (digests : List (List ℕ)) (place symbol : ℕ) : Type 0 where
  inside : place < places t.design
  below : symbol < symbols t.design
  is : shows t digests place symbol ≡ true

slot_shown : (t : Title) (digests : List (List ℕ)) (place symbol : ℕ) → slot_at (word_of_copy t digests) place ≡ Some symbol → IsShown t digests place symbol
unfolding word_of_copy
slot_shown t digests place symbol is =
    let n : ℕ = places t.design in
    let slot : ℕ → Option ℕ = λ place. only (shown t digests place) in
    let long : length (map slot (range_with_len 0 n)) ≡ n = length-map-range_with_len slot 0 n in
    elim (cases_lt place n) [
      | inl lt ↦
          let here : only (shown t digests place) ≡ Some symbol = sym (get_or-map-range_with_len slot 0 n place place None lt (omega arith)) ∙ is in
          let p = passes (shows t digests place) 0 (symbols t.design) symbol (only_is (shown t digests place) symbol here) in
          record { inside = lt; below = omega (arith, p.1); is = p.0 }
      | inr le ↦ let none : get_or (map slot (range_with_len 0 n)) place None ≡ None = get_or-eq_default (map slot (range_with_len 0 n)) None {n = place} (omega (arith, le, long)) in absurd (cc (none, is))
    ]

-- ---- the segment that shows it

record ShownBy (t : Title) (blobs : Blobs) (names : List (List ℕ)) (place symbol : ℕ) : Type 0 where
  k : ℕ
  inside : k < length names
  digest : digest_at t place symbol ≡ Some (sha256 (unwrap_or (blob_at blobs (get_or names k [])) []))

shown_by : (t : Title) (blobs : Blobs) (names : List (List ℕ)) (place symbol : ℕ) (digest : Option (List ℕ)) → digest_at t place symbol ≡ digest
    → option_map_or (λ d. list_any (bytes_eq d) (digests_of blobs names)) digest false ≡ true → ShownBy t blobs names place symbol
shown_by t blobs names place symbol None at is = absurd cc
shown_by t blobs names place symbol (Some d) at is =
    let some = Any-from_list_any (bytes_eq d) (digests_of blobs names) is in
    let long : length (digests_of blobs names) ≡ length names = length-map names (λ name. sha256 (unwrap_or (blob_at blobs name) [])) in
    let k : ℕ = some.0 in
    let lt : k < length names = omega (arith, some.2, long) in
    let same : d ≡ some.1 = (bytes_eq-Decides d some.1).0 some.4 in
    let read : get_or (digests_of blobs names) k some.1 ≡ sha256 (unwrap_or (blob_at blobs (get_or names k [])) []) = get_or-map (λ name. sha256 (unwrap_or (blob_at blobs name) [])) names k [] some.1 lt in
    record { k = k; inside = lt; digest = at ∙ ap Some (same ∙ sym some.3 ∙ read) }

-- ---- the variant that it is

module _ (blobs : Blobs) (t : Title) (e : Enrolment) (members : List ℕ) (valid : IsTitle t) (able : IsLicensable t e) (kept : IsKept blobs t) where
  -- the digest of a variant stands in the cell of the variant
  cell_by : (b : Bool) (place symbol : ℕ) (d : List ℕ) → cond b (slice_get t.digests (cell_of t.design place symbol)) None ≡ Some d → slice_get t.digests (cell_of t.design place symbol) ≡ Some d
  cell_by true place symbol d is = is
  cell_by false place symbol d is = absurd cc

  one_cell : (i j : ℕ) (d : List ℕ) → slice_get t.digests i ≡ Some d → slice_get t.digests j ≡ Some d → i ≡ j
  one_cell i j d first second =
      let i_in = slice_get_within t.digests i d first in
      let j_in = slice_get_within t.digests j d second in
      let same : get_or t.digests i d ≡ get_or t.digests j d = get_or_from_slice_get t.digests i d d first ∙ sym (get_or_from_slice_get t.digests j d d second) in
      elim (cases_lt i j) [
        | inl lt ↦ absurd (valid.distinct i j d lt j_in same)
        | inr le ↦ elim (cases_lt j i) [
          | inl gt ↦ absurd (valid.distinct j i d gt i_in (sym same))
          | inr ge ↦ omega (arith, le, ge)
        ]
      ]

  same_symbol : (place symbol p v : ℕ) → symbol < symbols t.design → v < symbols t.design → cell_of t.design place symbol ≡ cell_of t.design p v → (p ≡ place) × (v ≡ symbol)
  same_symbol place symbol p v symbol_in v_in same =
      let count : ℕ = symbols t.design in
      let one : p ≡ place = sym (div-mul-add p count v v_in) ∙ ap (λ (cell : ℕ). cell / count) (sym same) ∙ div-mul-add place count symbol symbol_in in
      let front : p * count ≡ place * count = ap (λ (x : ℕ). x * count) one in
      (one, omega (arith, same, front))

  record Found (place symbol : ℕ) : Type 0 where
    member : ℕ
    one_of_them : Contains members member
    is : symbol_at e member place ≡ symbol

  by_place : (place symbol member i : ℕ) (source : PlaylistSegment) (name bytes : List ℕ) (at : Option ℕ) → place_of t.design i ≡ at → symbol < symbols t.design → Contains members member
      → slice_get t.list.segments i ≡ Some source → uri_at t e member source.uri at ≡ name → blob_at blobs name ≡ Some bytes → digest_at t place symbol ≡ Some (sha256 bytes) → Found place symbol
  by_place place symbol member i source name bytes None at below one held named here is =
      absurd (kept.others i place symbol source bytes held at (subst (λ (n : List ℕ). blob_at blobs n ≡ Some bytes) (sym named) here) is)
  by_place place symbol member i source name bytes (Some p) at below one held named here is =
      let p_in : p < places t.design = (position-Some (λ marked. eqb marked i) t.design.marked p 0 at).0 in
      let v : ℕ = symbol_at e member p in
      let v_in = symbol_below t e member p able p_in in
      let variant = kept.variants p v p_in v_in in
      let bytes_are : variant.bytes ≡ bytes = some_same variant.bytes bytes (sym variant.held ∙ ap (blob_at blobs) named ∙ here) in
      let theirs : slice_get t.digests (cell_of t.design p v) ≡ Some (sha256 bytes) = cell_by (nat_lt v (symbols t.design)) p v (sha256 bytes) (variant.is ∙ ap (λ (b : List ℕ). Some (sha256 b)) bytes_are) in
      let ours : slice_get t.digests (cell_of t.design place symbol) ≡ Some (sha256 bytes) = cell_by (nat_lt symbol (symbols t.design)) place symbol (sha256 bytes) is in
      let both = same_symbol place symbol p v below v_in (one_cell (cell_of t.design place symbol) (cell_of t.design p v) (sha256 bytes) ours theirs) in
      record { member = member; one_of_them = one; is = ap (symbol_at e member) (sym both.0) ∙ both.1 }

  found : (names : List (List ℕ)) → All (IsFrom blobs t e members) names → (place symbol : ℕ) → slot_at (word_of_copy t (digests_of blobs names)) place ≡ Some symbol → Found place symbol
  found names from place symbol is =
      let shown = slot_shown t (digests_of blobs names) place symbol is in
      let by = shown_by t blobs names place symbol (digest_at t place symbol) refl shown.is in
      let name : List ℕ = get_or names by.k [] in
      let part = from by.k [] by.inside in
      let segment = licensed_is t e part.licensed.member part.licensed.i part.licensed.segment part.licensed.stands in
      let named : uri_at t e part.licensed.member segment.source.uri (place_of t.design part.licensed.i) ≡ name = sym (ap (λ (s : PlaylistSegment). s.uri) segment.is) ∙ part.licensed.named in
      let digest : digest_at t place symbol ≡ Some (sha256 part.bytes) = by.digest ∙ ap (λ (o : Option (List ℕ)). Some (sha256 (unwrap_or o []))) part.held in
      by_place place symbol part.licensed.member part.licensed.i segment.source name part.bytes (place_of t.design part.licensed.i) refl shown.below part.licensed.one_of_them segment.held named part.held digest

pub explained : (blobs : Blobs) (t : Title) (e : Enrolment) (members : List ℕ) (names : List (List ℕ)) → IsTitle t → fits t e ≡ true → IsKept blobs t → All (IsFrom blobs t e members) names
    → (place symbol : ℕ) → slot_at (word_of_copy t (digests_of blobs names)) place ≡ Some symbol → (member : ℕ) × Contains members member × (symbol_at e member place ≡ symbol)
explained blobs t e members names valid fit kept from place symbol is =
    let f = found blobs t e members valid (licensable t e valid fit) kept names from place symbol is in
    (f.member, f.one_of_them, f.is)
