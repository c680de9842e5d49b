-- What a reading that gave a value over a map of blobs has read on the way.
use Rattle.std.proofs.Common.{◌≡◌, ◌∙◌, ℕ, List, Bool, true, false, cond, Option, Some, None, Result, Ok, Err, refl, sym, ap}
use Rattle.std.specs.Prelude.{nat_le, length}
use Rattle.std.specs.Option.{option_map}
use Rattle.shelf_terms.specs.declared.limit.TheConstants.{BLOB_LIMIT}
use Rattle.shelf_terms.specs.Blobs.{Blobs, blob_at}
use Rattle.outcome_terms.specs.declared.fault.Fault.{Fault}
use Rattle.outcome_terms.specs.declared.refusal.Refusal.{Refusal}
use Rattle.outcome_terms.specs.declared.refusal.Refusal.TheVariants.{TooLong}
use Rattle.outcome_terms.specs.Reading.{Reading, Give, Refuse, Read, ◌>>=◌, ◌>>◌, require, blob, understood, within_limit, read_blob, with_bytes, given}

pub record Took {A B : Type 0} (blobs : Blobs) (reading : Reading A) (f : A → Reading B) (y : B) : Type 0 where
  pub value : A
  pub first : given blobs reading ≡ Ok value
  pub then : given blobs (f value) ≡ Ok y

pub took : {A B : Type 0} (blobs : Blobs) (reading : Reading A) (f : A → Reading B) (y : B) → given blobs (reading >>= f) ≡ Ok y → Took blobs reading f y
unfolding given ◌>>=◌
took blobs (Give x) f y h = record { value = x; first = refl; then = h }
took blobs (Refuse fault) f y h = cc
took {A} {B} blobs (Read name next) f y h = go (λ bytes more. took blobs (next bytes) f y more) (read_blob blobs name) refl
  where
    go : ((bytes : List ℕ) → given blobs (next bytes >>= f) ≡ Ok y → Took blobs (next bytes) f y) → (r : Result (List ℕ) Refusal) → read_blob blobs name ≡ r → Took blobs (Read name next) f y
    go later (Ok bytes) is =
        let t = later bytes (sym (ap (λ r. with_bytes r (λ bytes. given blobs (next bytes >>= f))) is) ∙ h) in
        record { value = t.value; first = ap (λ r. with_bytes r (λ bytes. given blobs (next bytes))) is ∙ t.first; then = t.then }
    go later (Err e) is = let no : Err e ≡ Ok y = sym (ap (λ r. with_bytes r (λ bytes. given blobs (next bytes >>= f))) is) ∙ h in cc

pub record Met {B : Type 0} (blobs : Blobs) (is_so : Bool) (next : Reading B) (y : B) : Type 0 where
  pub so : is_so ≡ true
  pub then : given blobs next ≡ Ok y

pub met : {B : Type 0} (blobs : Blobs) (is_so : Bool) (fault : Fault) (next : Reading B) (y : B) → given blobs (require is_so fault >> next) ≡ Ok y → Met blobs is_so next y
unfolding given
met blobs true fault next y h = record { so = refl; then = h }
met blobs false fault next y h = cc

-- nothing was found that stands in the way
pub record NotFound {B X : Type 0} (blobs : Blobs) (found : Option X) (next : Reading B) (y : B) : Type 0 where
  pub none : found ≡ None
  pub then : given blobs next ≡ Ok y

pub not_found : {B X : Type 0} (blobs : Blobs) (fault : X → Fault) (found : Option X) (next : Reading B) (y : B) → given blobs (option_map fault found >> next) ≡ Ok y → NotFound blobs found next y
unfolding given
not_found blobs fault None next y h = record { none = refl; then = h }
not_found blobs fault (Some x) next y h = cc

pub was_given : {A : Type 0} (blobs : Blobs) (x y : A) → given blobs (Give x) ≡ Ok y → x ≡ y
unfolding given
was_given blobs x y h = cc

pub was_understood : {A F : Type 0} (blobs : Blobs) (fault : F → Fault) (r : Result A F) (x : A) → given blobs (understood fault r) ≡ Ok x → r ≡ Ok x
unfolding given
was_understood blobs fault (Ok y) x h = let same : y ≡ x = cc in ap Ok same
was_understood blobs fault (Err f) x h = cc

was_within : (name : List ℕ) (found : Option (List ℕ)) (bytes : List ℕ) → within_limit name found ≡ Ok bytes → found ≡ Some bytes
was_within name None bytes h = cc
was_within name (Some read) bytes h = go (nat_le (length read) BLOB_LIMIT) h
  where
    go : (b : Bool) → cond b (Ok read) (Err (TooLong name)) ≡ Ok bytes → Some read ≡ Some bytes
    go true h = cc
    go false h = cc

pub was_held : (blobs : Blobs) (name bytes : List ℕ) → given blobs (blob name) ≡ Ok bytes → blob_at blobs name ≡ Some bytes
unfolding given
was_held blobs name bytes h = go (read_blob blobs name) refl
  where
    go : (r : Result (List ℕ) Refusal) → read_blob blobs name ≡ r → blob_at blobs name ≡ Some bytes
    go (Ok read) is = was_within name (blob_at blobs name) bytes (is ∙ (sym (ap (λ r. with_bytes r Ok) is) ∙ h))
    go (Err e) is = let no : Err e ≡ Ok bytes = sym (ap (λ r. with_bytes r Ok) is) ∙ h in cc
