-- A blob that is poured from its prefix on.
use Rattle.std.proofs.Common.{◌≡◌, ◌∙◌, sym, ap, subst, ℕ, ◌+◌, ◌≤◌, List, [], ◌∷◌, ◌++◌, length, length-append, take, append_assoc, append-nil, Option, Some, None, IfSome, refl, arith}
use Rattle.std.proofs.lemmas.List.{take_all}
use Rattle.std.specs.Option.{unwrap_or}
use Rattle.shelf_terms.specs.Blobs.{Blobs, blob_at, part_of}
use Rattle.shelf_io.specs.Reads.{HasPart}
use Rattle.shelf_io.specs.Pours.{IsPrefixOf, Adds, HasPoured, HasPouredWhole}
use Rattle.records.specs.declared.limit.TheConstants.{PART_LIMIT}
use Rattle.records.specs.Events.{Gave}
use Rattle.records.specs.Stores.{Store}
use Rattle.shelf_io.proofs.Coming.{IsComing, none_came, more_came, whole_came}
use Rattle.shelf_io.proofs.Prefixes.{front_grows, length_part}

-- so many bytes came so far
pub record IsPouring (old new : List ℕ → Type 0) (before after : Store) (name : List ℕ) (count : ℕ) : Type 0 where
  pub prefix : List ℕ
  pub adds : Adds old new prefix
  pub is : IfSome before.told (λ blobs. IsPrefixOf prefix blobs name)
  pub long : length prefix ≡ count
  pub came : IsComing name prefix before.events after.events

none_yet : (told : Option Blobs) (name : List ℕ) → IfSome told (λ blobs. IsPrefixOf [] blobs name)
none_yet None name = tt
none_yet (Some blobs) name = refl

pub nothing_poured : (stands : List ℕ → Type 0) (store : Store) (name : List ℕ) → IsPouring stands stands store store name 0
nothing_poured stands store name = record {
  prefix = [];
  adds = λ before is. subst stands (sym (append-nil before)) is;
  is = none_yet store.told name;
  long = refl;
  came = none_came name store.events;
}

more_front : (told now : Option Blobs) (name prefix part : List ℕ) (from most : ℕ) → now ≡ told → length prefix ≡ from
    → IfSome told (λ blobs. IsPrefixOf prefix blobs name) → IfSome now (λ blobs. HasPart blobs name from most part)
    → IfSome told (λ blobs. IsPrefixOf (prefix ++ part) blobs name)
more_front None now name prefix part from most same here is got = tt
more_front (Some m) None name prefix part from most same here is got = cc
more_front (Some m) (Some n) name prefix part from most same here is got =
    let one : n ≡ m = cc in
    let held : blob_at m name ≡ Some got.blob = ap (λ b. blob_at b name) (sym one) ∙ got.held in
    let blob : unwrap_or (blob_at m name) [] ≡ got.blob = ap (λ o. unwrap_or o []) held in
    let old : prefix ≡ take (length prefix) got.blob = is ∙ ap (take (length prefix)) blob in
    let bytes : part ≡ part_of got.blob (length prefix) most = got.bytes ∙ ap (λ k. part_of got.blob k most) (sym here) in
    front_grows got.blob prefix part most old bytes ∙ ap (take (length (prefix ++ part))) (sym blob)

-- one part more
pub part_poured : (old now new : List ℕ → Type 0) (before so_far after : Store) (name part piece : List ℕ) (from next : ℕ) → so_far.told ≡ before.told
    → IsPouring old now before so_far name from → IfSome so_far.told (λ blobs. HasPart blobs name from PART_LIMIT part) → piece ≡ part → Adds now new piece → next ≡ from + length part
    → 1 ≤ length part → after.events ≡ so_far.events ++ Gave name from PART_LIMIT part ∷ []
    → IsPouring old new before after name next
part_poured old now new before so_far after name part piece from next same pouring got is adds counted some given =
    let added : Adds now new part = subst (Adds now new) is adds in
    record {
      prefix = pouring.prefix ++ part;
      adds = λ taken stands. subst new (append_assoc taken pouring.prefix part) (added (taken ++ pouring.prefix) (pouring.adds taken stands));
      is = more_front before.told so_far.told name pouring.prefix part from PART_LIMIT same pouring.long pouring.is got;
      long = omega (arith, length-append pouring.prefix part, pouring.long, counted);
      came = more_came name pouring.prefix before.events so_far.events after.events part from pouring.came (sym pouring.long) given (pouring.prefix ++ part) some refl;
    }

-- a prefix with nothing behind it is the whole blob
front_whole : (told held : Option Blobs) (name prefix part : List ℕ) (from most : ℕ) → held ≡ told → length prefix ≡ from → 1 ≤ most
    → IfSome told (λ blobs. IsPrefixOf prefix blobs name) → IfSome held (λ blobs. HasPart blobs name from most part) → length part ≡ 0
    → IfSome told (λ blobs. blob_at blobs name ≡ Some prefix)
front_whole None held name prefix part from most same long some is got empty = tt
front_whole (Some m) None name prefix part from most same long some is got empty = cc
front_whole (Some m) (Some n) name prefix part from most same long some is got empty =
    let one : n ≡ m = cc in
    let held : blob_at m name ≡ Some got.blob = ap (λ b. blob_at b name) (sym one) ∙ got.held in
    let short : length got.blob ≤ length prefix = omega (arith, length_part got.blob from most, ap length got.bytes, long) in
    let whole : prefix ≡ got.blob = is ∙ ap (λ o. take (length prefix) (unwrap_or o [])) held ∙ take_all (length prefix) got.blob short in
    held ∙ ap Some (sym whole)

-- nothing behind the prefix
pub whole_poured : (old new : List ℕ → Type 0) (before so_far after : Store) (name part : List ℕ) (from limit : ℕ) → so_far.told ≡ before.told → from ≤ limit
    → IsPouring old new before so_far name from → IfSome so_far.told (λ blobs. HasPart blobs name from PART_LIMIT part) → length part ≡ 0
    → after.events ≡ so_far.events ++ Gave name from PART_LIMIT part ∷ []
    → HasPouredWhole old new before after name limit
whole_poured old new before so_far after name part from limit same within pouring got empty given = record {
  blob = pouring.prefix;
  held = front_whole before.told so_far.told name pouring.prefix part from PART_LIMIT same pouring.long (omega arith) pouring.is got empty;
  within = omega (arith, pouring.long, within);
  came = whole_came name pouring.prefix before.events so_far.events after.events part from pouring.came (sym pouring.long) given empty;
  adds = pouring.adds;
}

-- what a refusal leaves
pub front_poured : (old new : List ℕ → Type 0) (before so_far : Store) (name : List ℕ) (from : ℕ) → IsPouring old new before so_far name from → HasPoured old new before.told name
front_poured old new before so_far name from pouring = record { prefix = pouring.prefix; adds = pouring.adds; is = pouring.is }
