-- What the reading of a title gives over a map of blobs, variant by variant.
use Rattle.std.proofs.Common.{◌≡◌, ◌∙◌, sym, ap, ℕ, zero, suc, ◌+◌, ◌*◌, Bool, true, false, cond, List, [], ◌∷◌, ◌++◌, length, map, Option, Some, None, Result, Ok, Err, refl, arith}
use Rattle.std.specs.Prelude.{nat_le}
use Rattle.std.specs.List.{find, position, position_from, range_with_len}
use Rattle.std.specs.Option.{option_map, unwrap_or}
use Rattle.std.specs.Str.{bytes_eq}
use Rattle.std.proofs.lemmas.Iterator.Adapters.{position_from-zero}
use Rattle.std.proofs.lemmas.List.FromFn.{map-range_with_len_more}
use Rattle.sha2.specs.Sha256.{sha256}
use Rattle.shelf_terms.specs.declared.limit.TheConstants.{BLOB_LIMIT}
use Rattle.shelf_terms.specs.Blobs.{Blobs, blob_at}
use Rattle.playlist_terms.specs.Playlists.{Playlist}
use Rattle.title_terms.specs.Designs.{Design, places, symbols}
use Rattle.packaging_terms.specs.Variants.{variants, blob_of, unmarkable}
use Rattle.outcome_terms.specs.declared.fault.Fault.TheVariants as faults
use Rattle.packaging_terms.specs.Making as hindrances
use Rattle.packaging_terms.specs.Making.{Hindrance, NoSegment, Same, held_digest, twin, hindrance_of, hindrance, first_of, title_with, unless_hindered, made}
use Rattle.outcome_terms.specs.declared.refusal.Refusal.{Refusal}
use Rattle.outcome_terms.specs.declared.refusal.Refusal.TheVariants as refusal
use Rattle.outcome_terms.specs.Reading.{Give, ◌>>=◌, ◌>>◌, within_limit, with_bytes, given}
use Rattle.outcome_terms.specs.Along.{along}
use Rattle.outcome_terms.proofs.GivenParts.{went, given_then}
use Rattle.outcome_terms.specs.TitleCommand.{digest_under, with_digest, with_variant, title_made, hindrance_refusal, told_title}

-- ---- where an earlier one is found

find_from : {X : Type 0} (p : X → Bool) (f : ℕ → X) (a n : ℕ) → position_from p a (map f (range_with_len a n)) ≡ find (λ j. p (f j)) (range_with_len a n)
find_from p f a zero = refl
find_from p f a (suc n) = ap (λ (o : Option ℕ). cond (p (f a)) (Some a) o) (find_from p f (a + 1) n)

position_of_map : {X : Type 0} (p : X → Bool) (f : ℕ → X) (n : ℕ) → position p (map f (range_with_len 0 n)) ≡ find (λ j. p (f j)) (range_with_len 0 n)
position_of_map p f n = position_from-zero p (map f (range_with_len 0 n)) ∙ find_from p f 0 n

-- ---- variant by variant

module _ (blobs : Blobs) (d : Design) where
  abbrev digests_below : ℕ → List (List ℕ)
  digests_below i = map (held_digest blobs d) (range_with_len 0 i)

  -- these digests, unless something stands in the way
  abbrev answer : Option Hindrance → List (List ℕ) → Result (List (List ℕ)) Refusal
  answer None digests = Ok digests
  answer (Some h) digests = Err (hindrance_refusal d h)

  digest_by : (digests : List (List ℕ)) (i : ℕ) (digest : List ℕ) (earlier : Option ℕ) → position (bytes_eq digest) digests ≡ earlier
      → given blobs (with_digest d digests i digest) ≡ answer (option_map (λ e. Same e i) earlier) (digests ++ digest ∷ [])
  unfolding with_digest given
  digest_by digests i digest None is = rw is refl
  digest_by digests i digest (Some e) is = rw is refl

  held_by : (i : ℕ) (name : List ℕ) (held : Option (List ℕ))
      → with_bytes (within_limit name held) (λ bytes. given blobs (with_digest d (digests_below i) i (sha256 bytes)))
      ≡ answer (hindrance_of BLOB_LIMIT name held (option_map (λ e. Same e i) (find (λ j. bytes_eq (sha256 (unwrap_or held [])) (held_digest blobs d j)) (range_with_len 0 i)))) (digests_below i ++ sha256 (unwrap_or held []) ∷ [])
  held_by i name None = refl
  held_by i name (Some bytes) = by (nat_le (length bytes) BLOB_LIMIT)
    where
      by : (short : Bool) → with_bytes (cond short (Ok bytes) (Err (refusal.TooLong name))) (λ bytes. given blobs (with_digest d (digests_below i) i (sha256 bytes)))
          ≡ answer (cond short (option_map (λ e. Same e i) (find (λ j. bytes_eq (sha256 bytes) (held_digest blobs d j)) (range_with_len 0 i))) (Some (hindrances.TooLong name))) (digests_below i ++ sha256 bytes ∷ [])
      by true = digest_by (digests_below i) i (sha256 bytes) (find (λ j. bytes_eq (sha256 bytes) (held_digest blobs d j)) (range_with_len 0 i)) (position_of_map (bytes_eq (sha256 bytes)) (held_digest blobs d) i)
      by false = refl

  step_given : (i : ℕ) → given blobs (with_variant d (digests_below i) i) ≡ answer (hindrance BLOB_LIMIT blobs d i) (digests_below i ++ held_digest blobs d i ∷ [])
  unfolding given ◌>>=◌ with_variant digest_under
  step_given i = held_by i (blob_of d i) (blob_at blobs (blob_of d i))

  along_given : (n i : ℕ) → given blobs (along (with_variant d) (digests_below i) (range_with_len i n)) ≡ answer (first_of (map (hindrance BLOB_LIMIT blobs d) (range_with_len i n))) (digests_below (i + n))
  unfolding along given
  along_given zero i = let same : i ≡ i + zero = omega arith in ap (λ (j : ℕ). Ok (digests_below j)) same
  along_given (suc n) i =
      given_then blobs (with_variant d (digests_below i) i) (λ more. along (with_variant d) more (range_with_len (i + 1) n))
      ∙ ap (λ (r : Result (List (List ℕ)) Refusal). went r (λ more. given blobs (along (with_variant d) more (range_with_len (i + 1) n)))) (step_given i)
      ∙ by (along_given n (i + 1)) (hindrance BLOB_LIMIT blobs d i)
    where
      longer : digests_below i ++ held_digest blobs d i ∷ [] ≡ digests_below (i + 1)
      longer = sym (map-range_with_len_more (held_digest blobs d) 0 i i (omega arith))

      by : given blobs (along (with_variant d) (digests_below (i + 1)) (range_with_len (i + 1) n)) ≡ answer (first_of (map (hindrance BLOB_LIMIT blobs d) (range_with_len (i + 1) n))) (digests_below (i + 1 + n))
          → (h : Option Hindrance) → went (answer h (digests_below i ++ held_digest blobs d i ∷ [])) (λ more. given blobs (along (with_variant d) more (range_with_len (i + 1) n)))
          ≡ answer (first_of (h ∷ map (hindrance BLOB_LIMIT blobs d) (range_with_len (i + 1) n))) (digests_below (i + suc n))
      by later (Some h) = refl
      by later None =
          let count : i + 1 + n ≡ i + suc n = omega arith in
          ap (λ (ds : List (List ℕ)). given blobs (along (with_variant d) ds (range_with_len (i + 1) n))) longer
          ∙ later
          ∙ ap (λ (j : ℕ). answer (first_of (map (hindrance BLOB_LIMIT blobs d) (range_with_len (i + 1) n))) (digests_below j)) count

  pub title_given : (p : Playlist) → given blobs (title_made d p) ≡ told_title d (made BLOB_LIMIT blobs d p)
  unfolding title_made made given
  title_given p = by (unmarkable d p)
    where
      ending : (first : Option Hindrance) → went (answer first (digests_below (places d * symbols d))) (λ digests. Ok (title_with d p digests)) ≡ told_title d (unless_hindered first (title_with d p (digests_below (places d * symbols d))))
      ending None = refl
      ending (Some h) = refl

      by : (segment : Option ℕ) → given blobs (option_map faults.NoSegment segment >> (along (with_variant d) [] (variants d) >>= λ digests. Give (title_with d p digests)))
          ≡ told_title d (unless_hindered (first_of (option_map NoSegment segment ∷ map (hindrance BLOB_LIMIT blobs d) (variants d))) (title_with d p (digests_below (places d * symbols d))))
      by (Some s) = refl
      by None =
          let count : 0 + places d * symbols d ≡ places d * symbols d = omega arith in
          given_then blobs (along (with_variant d) [] (variants d)) (λ digests. Give (title_with d p digests))
          ∙ ap (λ (r : Result (List (List ℕ)) Refusal). went r (λ digests. Ok (title_with d p digests))) (along_given (places d * symbols d) 0 ∙ ap (λ (j : ℕ). answer (first_of (map (hindrance BLOB_LIMIT blobs d) (variants d))) (digests_below j)) count)
          ∙ ending (first_of (map (hindrance BLOB_LIMIT blobs d) (variants d)))
