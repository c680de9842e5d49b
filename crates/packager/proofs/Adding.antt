-- One more variant that is read, and the reading of all of them.
use Rattle.std.proofs.Common.{◌≡◌, ◌∙◌, sym, ap, subst, ℕ, ◌+◌, ◌*◌, ◌/◌, ◌%◌, ◌^◌, ◌<◌, ◌≤◌, true, List, Some, Result, Ok, Err, arith}
use Rattle.std.specs.Prelude.{nat_le, slice_get}
use Rattle.std.proofs.Math.Pow.{pow_mono}
use Rattle.std.proofs.Math.Nat.{div-lt_iff_lt-mul}
use Rattle.std.proofs.lemmas.Nat.{pow_pos}
use Rattle.std.proofs.lemmas.Bool.{and_parts, leb-true}
use Rattle.std.proofs.lemmas.Option.{slice_get-get_or}
use Rattle.std.proofs.lemmas.List.FromFn.{length-range_with_len, get_or-range_with_len}
use Rattle.text_terms.specs.Names.{is_name}
use Rattle.sha2.specs.Sha256.{sha256}
use Rattle.playlist_terms.specs.Lines.{stands_as_uri}
use Rattle.title_terms.specs.Designs.{Design, IsDesign, places, symbols, variant_name}
use Rattle.title_terms.specs.Titles.{cell_of}
use Rattle.title_store.specs.Builds.{Build}
use Rattle.packaging_terms.specs.Variants.{variants, place_in, symbol_in, blob_of}
use Rattle.packaging_terms.proofs.VariantNames.{HasVariant, variant_uri}
use Rattle.outcome_terms.specs.declared.refusal.Refusal.{Refusal}
use Rattle.outcome_terms.specs.Reading.{Give}
use Rattle.outcome_terms.specs.Stores.{Reads, Follows, gave}
use Rattle.records.specs.Stores.{Store}
use Rattle.outcome_terms.specs.TitleCommand.{digest_under, with_digest, with_variant}
use Rattle.outcome_terms.proofs.Readings.{goes_on, stops, settled, read_follows}
use Rattle.packager.specs.declared.errors.PackError.{PackError}
use Rattle.packager.specs.Refusals.{refusal_of}
use Rattle.packager.specs.Builds.{so_far, HasHashed, PutsAs, AddsAs}
use Rattle.packager.proofs.Begun.{cell_back, symbol_small}

-- ---- the name of a variant

pub variant_named : (d : Design) (place symbol : ℕ) → IsDesign d → place < places d → symbol < symbols d → is_name (variant_name d place symbol) ≡ true
variant_named d place symbol design inside below =
    let bits = and_parts (nat_le 4 d.bits) (nat_le d.bits 8) design.bits in
    let room = leb-true (places d) (2 ^ d.bits) design.room in
    let most : 2 ^ d.bits ≤ 2 ^ 8 = pow_mono (leb-true d.bits 8 bits.1) in
    let has : HasVariant d place symbol = record { prefix = design.prefix; suffix = design.suffix; few = omega (arith, inside, room, most); byte = omega (arith, below, most) } in
    (and_parts (is_name (variant_name d place symbol)) (stands_as_uri (variant_name d place symbol)) (variant_uri d place symbol has)).0

-- ---- a variant is read

hashed_follows : {name digest : List ℕ} {s t : Store} → HasHashed name digest s t → Follows (digest_under name) s t (Ok digest)
unfolding digest_under
hashed_follows {name} {digest} {s} {t} h =
    subst (λ (d : List ℕ). Follows (digest_under name) s t (Ok d)) (sym h.is) (goes_on (λ (bytes : List ℕ). Give (sha256 bytes)) (read_follows (Ok h.bytes) h.read) gave)

unread_follows : {name : List ℕ} {s t : Store} (e : Refusal) → Reads name s t (Err e) → Follows (digest_under name) s t (Err e)
unfolding digest_under
unread_follows e r = stops (λ (bytes : List ℕ). Give (sha256 bytes)) (read_follows (Err e) r)

pub not_hashed : (b : Build) (variant : ℕ) (name : List ℕ) (s t : Store) (e : Refusal) → name ≡ blob_of b.design variant → Reads name s t (Err e)
    → Follows (with_variant b.design (so_far b variant) variant) s t (Err e)
unfolding with_variant
not_hashed b variant name s t e is r =
    stops (with_digest b.design (so_far b variant) variant) (unread_follows e (subst (λ (n : List ℕ). Reads n s t (Err e)) is r))

pub added_after : (old new : Build) (variant : ℕ) (name digest : List ℕ) (s t : Store) (answer : Result (Unit {0}) PackError) → name ≡ blob_of old.design variant
    → HasHashed name digest s t → PutsAs answer old new variant digest → AddsAs answer old new variant s t
unfolding with_variant
added_after old new variant name digest s t (Ok done) is h puts = record {
  follows = goes_on (with_digest old.design (so_far old variant) variant) (hashed_follows (subst (λ (n : List ℕ). HasHashed n digest s t) is h)) (settled (with_digest old.design (so_far old variant) variant digest) t (Ok (so_far new (variant + 1))) puts.gives);
  begun = puts.begun;
  same = puts.same;
}
added_after old new variant name digest s t (Err e) is h refused =
    goes_on (with_digest old.design (so_far old variant) variant) (hashed_follows (subst (λ (n : List ℕ). HasHashed n digest s t) is h)) (settled (with_digest old.design (so_far old variant) variant digest) t (Err (refusal_of e)) refused)

-- by the number of symbols
pub named_by : (d : Design) (variant count : ℕ) (name : List ℕ) → count ≡ symbols d → name ≡ variant_name d (variant / count) (variant % count) → name ≡ blob_of d variant
named_by d variant count name same is = is ∙ ap (λ (n : ℕ). variant_name d (variant / n) (variant % n)) same

pub cell_by : (d : Design) (variant count : ℕ) → count ≡ symbols d → cell_of d (variant / count) (variant % count) ≡ variant
cell_by d variant count same = ap (λ (n : ℕ). cell_of d (variant / n) (variant % n)) same ∙ cell_back d variant

-- ---- the numbers of the variants

pub variant_at : (d : Design) (i : ℕ) → i < places d * symbols d → slice_get (variants d) i ≡ Some i
variant_at d i lt =
    let count : ℕ = places d * symbols d in
    slice_get-get_or (variants d) i 0 (omega (arith, lt, length-range_with_len 0 count)) ∙ ap Some (get_or-range_with_len 0 count i 0 lt ∙ omega arith)

-- the name that is read is one of a blob
pub name_by : (d : Design) (variant count : ℕ) (name text : List ℕ) → IsDesign d → variant < places d * symbols d → count ≡ symbols d
    → name ≡ variant_name d (variant / count) (variant % count) → text ≡ name → is_name text ≡ true
name_by d variant count name text design inside same is spelled =
    let some : 0 < symbols d = pow_pos d.bits in
    let here : text ≡ blob_of d variant = spelled ∙ named_by d variant count name same is in
    ap is_name here ∙ variant_named d (place_in d variant) (symbol_in d variant) design ((div-lt_iff_lt-mul some).1 inside) (symbol_small d variant some)
