-- Which blobs a done `title` and a done `package` have read, in order.
use Rattle.std.proofs.Common.{◌≡◌, ◌∙◌, ap, ℕ, ◌||◌, Bool, true, false, List, [], ◌∷◌, ◌++◌, map, Option, Some, None, Result, Ok, Err, refl, append-nil}
use Rattle.std.specs.Prelude.{not}
use Rattle.std.specs.List.{position}
use Rattle.std.specs.Option.{option_map}
use Rattle.std.specs.Str.{bytes_eq}
use Rattle.sha2.specs.Sha256.{sha256}
use Rattle.shelf_terms.specs.Blobs.{Blobs}
use Rattle.register_terms.specs.Enrolment.{Enrolment, names_of, serial_of}
use Rattle.register_terms.specs.Rules.{is_active}
use Rattle.register_terms.specs.RegisterText.{register_of}
use Rattle.playlist_terms.specs.Playlists.{Playlist}
use Rattle.playlist_terms.specs.Reading.{playlist_of}
use Rattle.title_terms.specs.Designs.{Design}
use Rattle.title_terms.specs.Titles.{Title}
use Rattle.title_terms.specs.TitleText.{title_of, title_text}
use Rattle.title_terms.specs.DesignText.{design_of}
use Rattle.packaging_terms.specs.Licensees.{fits, licensed_text}
use Rattle.packaging_terms.specs.Variants.{variants, blob_of, unmarkable}
use Rattle.packaging_terms.specs.Making.{title_with}
use Rattle.outcome_terms.specs.declared.fault.Fault.{Fault}
use Rattle.outcome_terms.specs.declared.fault.Fault.TheVariants.{BadDesign, BadPlaylist, BadRegister, BadTitle, Mismatch, NoSegment, SameName, Unknown, Withdrawn}
use Rattle.outcome_terms.specs.declared.refusal.Refusal.{Refusal}
use Rattle.outcome_terms.specs.Reading.{Reading, Give, Refuse, Read, ◌>>=◌, ◌>>◌, require, blob, found, understood, read_blob, names_with, with_bytes, given, names_read}
use Rattle.outcome_terms.specs.Stores.{Writing, Exactly}
use Rattle.outcome_terms.specs.Registers.{register_under}
use Rattle.outcome_terms.specs.Along.{along}
use Rattle.outcome_terms.specs.PackageCommand.{title_under, packaged, package_}
use Rattle.outcome_terms.proofs.GivenParts.{good_gives}
use Rattle.outcome_terms.proofs.Givens.{took}
use Rattle.outcome_terms.specs.TitleCommand.{same_digest, design_under, playlist_under, digest_under, with_digest, with_variant, title_made, title}

-- ---- one reading and then another

abbrev pub names_behind : {A B : Type 0} → Blobs → Result A Refusal → (A → Reading B) → List (List ℕ)
names_behind blobs (Ok x) f = names_read blobs (f x)
names_behind blobs (Err e) f = []

pub names_then : {A B : Type 0} (blobs : Blobs) (reading : Reading A) (f : A → Reading B) → names_read blobs (reading >>= f) ≡ names_read blobs reading ++ names_behind blobs (given blobs reading) f
unfolding given names_read ◌>>=◌
names_then blobs (Give x) f = refl
names_then blobs (Refuse fault) f = refl
names_then {A} {B} blobs (Read name next) f = by (λ bytes. names_then blobs (next bytes) f) (read_blob blobs name)
  where
    by : ((bytes : List ℕ) → names_read blobs (next bytes >>= f) ≡ names_read blobs (next bytes) ++ names_behind blobs (given blobs (next bytes)) f)
        → (r : Result (List ℕ) Refusal) → name ∷ names_with r (λ bytes. names_read blobs (next bytes >>= f)) ≡ (name ∷ names_with r (λ bytes. names_read blobs (next bytes))) ++ names_behind blobs (with_bytes r (λ bytes. given blobs (next bytes))) f
    by later (Ok bytes) = ap (λ (names : List (List ℕ)). name ∷ names) (later bytes)
    by later (Err e) = refl

pub names_on : {A B : Type 0} (blobs : Blobs) (reading : Reading A) (f : A → Reading B) (x : A) → given blobs reading ≡ Ok x → names_read blobs (reading >>= f) ≡ names_read blobs reading ++ names_read blobs (f x)
names_on blobs reading f x is = names_then blobs reading f ∙ ap (λ r. names_read blobs reading ++ names_behind blobs r f) is

-- the value of one blob
pub names_value : {A F : Type 0} (blobs : Blobs) (name : List ℕ) (fault : F → Fault) (reads : List ℕ → Result A F) → names_read blobs (blob name >>= λ bytes. understood fault (reads bytes)) ≡ name ∷ []
unfolding names_read ◌>>=◌
names_value {A} {F} blobs name fault reads = by (read_blob blobs name)
  where
    one : (r : Result A F) → names_read blobs (understood fault r) ≡ []
    one (Ok x) = refl
    one (Err f) = refl

    by : (r : Result (List ℕ) Refusal) → name ∷ names_with r (λ bytes. names_read blobs (understood fault (reads bytes))) ≡ name ∷ []
    by (Ok bytes) = ap (λ (names : List (List ℕ)). name ∷ names) (one (reads bytes))
    by (Err e) = refl

-- ---- variant by variant

module _ (blobs : Blobs) (d : Design) where
  none_read : (digests : List (List ℕ)) (variant : ℕ) (digest : List ℕ) → names_read blobs (with_digest d digests variant digest) ≡ []
  unfolding names_read with_digest
  none_read digests variant digest = by (position (bytes_eq digest) digests)
    where
      by : (o : Option ℕ) → names_read blobs (option_map (λ earlier. same_digest d earlier variant) o >> Give (digests ++ digest ∷ [])) ≡ []
      by None = refl
      by (Some earlier) = refl

  one_read : (digests : List (List ℕ)) (variant : ℕ) → names_read blobs (with_variant d digests variant) ≡ blob_of d variant ∷ []
  unfolding names_read ◌>>=◌ with_variant digest_under
  one_read digests variant = by (read_blob blobs (blob_of d variant))
    where
      by : (r : Result (List ℕ) Refusal) → blob_of d variant ∷ names_with r (λ bytes. names_read blobs (with_digest d digests variant (sha256 bytes))) ≡ blob_of d variant ∷ []
      by (Ok bytes) = ap (λ (names : List (List ℕ)). blob_of d variant ∷ names) (none_read digests variant (sha256 bytes))
      by (Err e) = refl

  -- all that a reading along the variants reads, where it gives something
  along_read : (digests made : List (List ℕ)) (xs : List ℕ) → given blobs (along (with_variant d) digests xs) ≡ Ok made → names_read blobs (along (with_variant d) digests xs) ≡ map (blob_of d) xs
  unfolding along names_read
  along_read digests made [] is = refl
  along_read digests made (x ∷ xs) is =
      let t = took blobs (with_variant d digests x) (λ more. along (with_variant d) more xs) made is in
      names_on blobs (with_variant d digests x) (λ more. along (with_variant d) more xs) t.value t.first
      ∙ ap (λ (names : List (List ℕ)). names ++ names_read blobs (along (with_variant d) t.value xs)) (one_read digests x)
      ∙ ap (λ (names : List (List ℕ)). blob_of d x ∷ names) (along_read t.value made xs t.then)

  pub title_read : (p : Playlist) (t : Title) → given blobs (title_made d p) ≡ Ok t → names_read blobs (title_made d p) ≡ map (blob_of d) (variants d)
  unfolding title_made names_read given
  title_read p t is = by (unmarkable d p) is
    where
      by : (o : Option ℕ) → given blobs (option_map NoSegment o >> (along (with_variant d) [] (variants d) >>= λ digests. Give (title_with d p digests))) ≡ Ok t
          → names_read blobs (option_map NoSegment o >> (along (with_variant d) [] (variants d) >>= λ digests. Give (title_with d p digests))) ≡ map (blob_of d) (variants d)
      by None given_is =
          let k = took blobs (along (with_variant d) [] (variants d)) (λ digests. Give (title_with d p digests)) t given_is in
          names_on blobs (along (with_variant d) [] (variants d)) (λ digests. Give (title_with d p digests)) k.value k.first
          ∙ append-nil (names_read blobs (along (with_variant d) [] (variants d)))
          ∙ along_read [] k.value (variants d) k.first
      by (Some segment) given_is = absurd cc

-- ---- the commands

unhindered_names : {B : Type 0} (blobs : Blobs) (hindered : Bool) (fault : Fault) (next : Reading B) → hindered ≡ false → names_read blobs (require (not hindered) fault >> next) ≡ names_read blobs next
unhindered_names blobs hindered fault next is = ap (λ (b : Bool). names_read blobs (require (not b) fault >> next)) is

pub title_names : (blobs : Blobs) (design source out bytes text : List ℕ) (d : Design) (p : Playlist) (t : Title) → (bytes_eq out design || bytes_eq out source) ≡ false
    → read_blob blobs design ≡ Ok bytes → design_of bytes ≡ Ok d → read_blob blobs source ≡ Ok text → playlist_of text ≡ Ok p → given blobs (title_made d p) ≡ Ok t
    → names_read blobs (title design source out) ≡ design ∷ source ∷ map (blob_of d) (variants d)
unfolding title design_under playlist_under names_read
title_names blobs design source out bytes text d p t differs read good more also is =
    let last : Title → Reading Writing = λ t. Give (Exactly (title_text t)) in
    let behind : Playlist → Reading Writing = λ p. title_made d p >>= last in
    let whole : Design → Reading Writing = λ d. playlist_under source >>= λ p. title_made d p >>= last in
    unhindered_names blobs (bytes_eq out design || bytes_eq out source) (SameName out) (design_under design >>= whole) differs
    ∙ names_on blobs (design_under design) whole d (good_gives blobs design BadDesign design_of bytes d read good)
    ∙ ap (λ (names : List (List ℕ)). names ++ names_read blobs (whole d)) (names_value blobs design BadDesign design_of)
    ∙ ap (λ (names : List (List ℕ)). design ∷ names) (names_on blobs (playlist_under source) behind p (good_gives blobs source BadPlaylist playlist_of text p more also))
    ∙ ap (λ (names : List (List ℕ)). design ∷ (names ++ names_read blobs (behind p))) (names_value blobs source BadPlaylist playlist_of)
    ∙ ap (λ (names : List (List ℕ)). design ∷ source ∷ names) (names_on blobs (title_made d p) last t is ∙ append-nil (names_read blobs (title_made d p)) ∙ title_read blobs d p t is)

nothing_read : (blobs : Blobs) (t : Title) (e : Enrolment) (licensee : List ℕ) → names_read blobs (packaged t e licensee) ≡ []
unfolding packaged names_read ◌>>=◌
nothing_read blobs t e licensee = by (fits t e) (serial_of (names_of e.licensees) licensee)
  where
    last : (serial : ℕ) (active : Bool) → names_read blobs (require active (Withdrawn licensee) >> Give (Exactly (licensed_text t e serial))) ≡ []
    last serial true = refl
    last serial false = refl

    by : (same : Bool) (o : Option ℕ) → names_read blobs (require same (Mismatch t.design.bits t.design.dimension e.bits e.dimension) >> (found (Unknown licensee) o >>= λ serial. require (is_active e serial) (Withdrawn licensee) >> Give (Exactly (licensed_text t e serial)))) ≡ []
    by false o = refl
    by true None = refl
    by true (Some serial) = last serial (is_active e serial)

pub playlist_names : (blobs : Blobs) (name register licensee out bytes text : List ℕ) (t : Title) (e : Enrolment) → (bytes_eq out name || bytes_eq out register) ≡ false
    → read_blob blobs name ≡ Ok bytes → title_of bytes ≡ Ok t → read_blob blobs register ≡ Ok text → register_of text ≡ Ok e
    → names_read blobs (package_ name register licensee out) ≡ name ∷ register ∷ []
unfolding package_ title_under register_under names_read
playlist_names blobs name register licensee out bytes text t e differs read good more also =
    let last : Enrolment → Reading Writing = λ e. packaged t e licensee in
    let whole : Title → Reading Writing = λ t. register_under register >>= λ e. packaged t e licensee in
    unhindered_names blobs (bytes_eq out name || bytes_eq out register) (SameName out) (title_under name >>= whole) differs
    ∙ names_on blobs (title_under name) whole t (good_gives blobs name BadTitle title_of bytes t read good)
    ∙ ap (λ (names : List (List ℕ)). names ++ names_read blobs (whole t)) (names_value blobs name BadTitle title_of)
    ∙ ap (λ (names : List (List ℕ)). name ∷ names) (names_on blobs (register_under register) last e (good_gives blobs register BadRegister register_of text e more also))
    ∙ ap (λ (names : List (List ℕ)). name ∷ (names ++ names_read blobs (last e))) (names_value blobs register BadRegister register_of)
    ∙ ap (λ (names : List (List ℕ)). name ∷ register ∷ names) (nothing_read blobs t e licensee)
