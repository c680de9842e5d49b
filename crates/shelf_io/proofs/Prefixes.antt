-- A blob that is read from its prefix on, part by part.
use Rattle.std.proofs.Common.{◌≡◌, ◌∙◌, sym, ap, ap₂, subst, ℕ, ◌+◌, ◌-◌, ◌<◌, ◌≤◌, min, List, [], ◌++◌, length, length-append, take, drop, Option, Some, None, IfSome, refl, arith}
use Rattle.std.proofs.Math.Seq.{take-add, take-length}
use Rattle.std.proofs.lemmas.List.{take-take, take_all, length-take, length-drop}
use Rattle.shelf_terms.specs.Blobs.{Blobs, blob_at, part_of}
use Rattle.records.specs.Agreement.{HoldsLonger}
use Rattle.shelf_io.specs.Reads.{HasPart}

-- where the blob is told, these bytes are a prefix of it
pub record IsFront (told : Option Blobs) (name bytes : List ℕ) : Type 0 where
  pub prefix : (blobs : Blobs) (blob : List ℕ) → told ≡ Some blobs → blob_at blobs name ≡ Some blob → bytes ≡ take (length bytes) blob

-- how long a part is
pub length_part : (blob : List ℕ) (from most : ℕ) → length (part_of blob from most) ≡ min most (length blob - from)
length_part blob from most = length-take most (drop from blob) ∙ ap (min most) (length-drop from blob)

part_itself : (rest part : List ℕ) (most : ℕ) → part ≡ take most rest → take (length part) rest ≡ part
part_itself rest part most is =
    let short : length part ≤ most = omega (arith, length-take most rest, ap length is) in
    sym (take-take (length part) most rest short) ∙ ap (take (length part)) (sym is) ∙ take-length part

pub front_grows : (blob whole part : List ℕ) (most : ℕ) → whole ≡ take (length whole) blob → part ≡ part_of blob (length whole) most
    → whole ++ part ≡ take (length (whole ++ part)) blob
front_grows blob whole part most prefix is =
    sym (ap (λ n. take n blob) (length-append whole part)
    ∙ take-add (length whole) (length part) blob
    ∙ ap₂ (λ a b. a ++ b) (sym prefix) (part_itself (drop (length whole) blob) part most is))

-- the part of a blob that is told
told_part : (told now : Option Blobs) (name : List ℕ) (from most : ℕ) (part : List ℕ) → now ≡ told
    → IfSome now (λ blobs. HasPart blobs name from most part)
    → (blobs : Blobs) (blob : List ℕ) → told ≡ Some blobs → blob_at blobs name ≡ Some blob → part ≡ part_of blob from most
told_part told None name from most part same got blobs blob is held = cc
told_part told (Some m) name from most part same got blobs blob is held =
    let one : got.blob ≡ blob = cc (got.held, same, is, held) in
    got.bytes ∙ ap (λ b. part_of b from most) one

pub front_none : (told : Option Blobs) (name : List ℕ) → IsFront told name []
front_none told name = record { prefix = λ blobs blob is held. refl }

-- a prefix and the part behind it are a longer prefix
pub front_more : (told now : Option Blobs) (name whole part more bytes : List ℕ) (from most : ℕ) → now ≡ told → from ≡ length whole
    → IsFront told name whole → IfSome now (λ blobs. HasPart blobs name from most part) → more ≡ part → bytes ≡ whole ++ more → IsFront told name bytes
front_more told now name whole part more bytes from most same here known got read grown =
    subst (IsFront told name) (sym (grown ∙ ap (λ b. whole ++ b) read)) (record {
      prefix = λ blobs blob is held.
          front_grows blob whole part most (known.prefix blobs blob is held)
          (told_part told now name from most part same got blobs blob is held ∙ ap (λ n. part_of blob n most) here);
    })

-- a prefix with nothing behind it is the whole blob
pub front_ends : (told now : Option Blobs) (name whole part : List ℕ) (from most : ℕ) → now ≡ told → from ≡ length whole → 1 ≤ most
    → IsFront told name whole → IfSome now (λ blobs. HasPart blobs name from most part) → length part ≡ 0
    → IfSome told (λ blobs. blob_at blobs name ≡ Some whole)
front_ends None now name whole part from most same here some known got empty = tt
front_ends (Some m) None name whole part from most same here some known got empty = cc
front_ends (Some m) (Some n) name whole part from most same here some known got empty =
    let one : n ≡ m = cc in
    let held : blob_at m name ≡ Some got.blob = ap (λ b. blob_at b name) (sym one) ∙ got.held in
    let short : length got.blob ≤ length whole = omega (arith, length_part got.blob from most, ap length got.bytes) in
    held ∙ ap Some (sym (known.prefix m got.blob refl held ∙ take_all (length whole) got.blob short))

-- where a prefix and the part behind it have too many bytes, so has the blob
pub front_passes : (told now : Option Blobs) (name whole part : List ℕ) (from most limit : ℕ) → now ≡ told → from ≡ length whole
    → IfSome now (λ blobs. HasPart blobs name from most part) → 0 < length part → limit < length whole + length part
    → IfSome told (λ blobs. HoldsLonger blobs name limit)
front_passes None now name whole part from most limit same here got some past = tt
front_passes (Some m) None name whole part from most limit same here got some past = cc
front_passes (Some m) (Some n) name whole part from most limit same here got some past =
    let one : n ≡ m = cc in
    record {
      blob = got.blob;
      held = ap (λ b. blob_at b name) (sym one) ∙ got.held;
      longer = omega (arith, length_part got.blob from most, ap length got.bytes);
    }

-- a blob that is not there
pub none_there : (told now : Option Blobs) (name : List ℕ) → now ≡ told → IfSome now (λ blobs. blob_at blobs name ≡ None) → IfSome told (λ blobs. blob_at blobs name ≡ None)
none_there told now name same got = subst (λ t. IfSome t (λ blobs. blob_at blobs name ≡ None)) same got
