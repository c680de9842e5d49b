-- What readings give over a map of blobs, part by part.
use Rattle.std.proofs.Common.{◌≡◌, ◌∙◌, ℕ, List, Bool, false, Result, Ok, Err, refl, ap}
use Rattle.std.specs.Prelude.{not}
use Rattle.shelf_terms.specs.Blobs.{Blobs}
use Rattle.outcome_terms.specs.declared.fault.Fault.{Fault}
use Rattle.outcome_terms.specs.declared.refusal.Refusal.{Refusal}
use Rattle.outcome_terms.specs.declared.refusal.Refusal.TheVariants.{Content}
use Rattle.outcome_terms.specs.Reading.{Reading, Give, Refuse, Read, ◌>>=◌, ◌>>◌, require, blob, understood, read_blob, with_bytes, given}

-- ---- one reading and then another, over a map of blobs

abbrev pub went : {A B : Type 0} → Result A Refusal → (A → Result B Refusal) → Result B Refusal
went (Ok x) f = f x
went (Err e) f = Err e

pub given_then : {A B : Type 0} (blobs : Blobs) (reading : Reading A) (f : A → Reading B) → given blobs (reading >>= f) ≡ went (given blobs reading) (λ x. given blobs (f x))
unfolding given ◌>>=◌
given_then blobs (Give x) f = refl
given_then blobs (Refuse fault) f = refl
given_then {A} {B} blobs (Read name next) f = by (λ bytes. given_then blobs (next bytes) f) (read_blob blobs name)
  where
    by : ((bytes : List ℕ) → given blobs (next bytes >>= f) ≡ went (given blobs (next bytes)) (λ x. given blobs (f x)))
        → (r : Result (List ℕ) Refusal) → with_bytes r (λ bytes. given blobs (next bytes >>= f)) ≡ went (with_bytes r (λ bytes. given blobs (next bytes))) (λ x. given blobs (f x))
    by later (Ok bytes) = later bytes
    by later (Err e) = refl

pub goes : {A B : Type 0} (blobs : Blobs) (reading : Reading A) (f : A → Reading B) (x : A) → given blobs reading ≡ Ok x → given blobs (reading >>= f) ≡ given blobs (f x)
goes blobs reading f x is = given_then blobs reading f ∙ ap (λ r. went r (λ x. given blobs (f x))) is

pub ends : {A B : Type 0} (blobs : Blobs) (reading : Reading A) (f : A → Reading B) (e : Refusal) → given blobs reading ≡ Err e → given blobs (reading >>= f) ≡ Err e
ends blobs reading f e is = given_then blobs reading f ∙ ap (λ r. went r (λ x. given blobs (f x))) is

-- nothing stands in the way
pub unhindered : {B : Type 0} (blobs : Blobs) (hindered : Bool) (fault : Fault) (next : Reading B) → hindered ≡ false → given blobs (require (not hindered) fault >> next) ≡ given blobs next
unhindered blobs hindered fault next is = ap (λ (b : Bool). given blobs (require (not b) fault >> next)) is

-- ---- the value of a blob

module _ {A F : Type 0} (blobs : Blobs) (name : List ℕ) (fault : F → Fault) (reads : List ℕ → Result A F) where
  abbrev pub value : Reading A
  value = blob name >>= λ bytes. understood fault (reads bytes)

  pub unread_gives : (e : Refusal) → read_blob blobs name ≡ Err e → given blobs value ≡ Err e
  unfolding given ◌>>=◌
  unread_gives e is = ap (λ (r : Result (List ℕ) Refusal). with_bytes r (λ bytes. given blobs (understood fault (reads bytes)))) is

  read_gives : (bytes : List ℕ) → read_blob blobs name ≡ Ok bytes → given blobs value ≡ given blobs (understood fault (reads bytes))
  unfolding given ◌>>=◌
  read_gives bytes is = ap (λ (r : Result (List ℕ) Refusal). with_bytes r (λ bytes. given blobs (understood fault (reads bytes)))) is

  pub good_gives : (bytes : List ℕ) (x : A) → read_blob blobs name ≡ Ok bytes → reads bytes ≡ Ok x → given blobs value ≡ Ok x
  unfolding given
  good_gives bytes x is good = read_gives bytes is ∙ ap (λ (r : Result A F). given blobs (understood fault r)) good

  pub bad_gives : (bytes : List ℕ) (f : F) → read_blob blobs name ≡ Ok bytes → reads bytes ≡ Err f → given blobs value ≡ Err (Content (fault f))
  unfolding given
  bad_gives bytes f is bad = read_gives bytes is ∙ ap (λ (r : Result A F). given blobs (understood fault r)) bad
